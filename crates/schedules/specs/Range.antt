-- How far apart two points lie in plans. Assumes nothing.
--     ApartBy K dates i j s     in these dates j's distance from i is s
--     LowEnd K N i j x          x is the least distance over all plans of N, or None where for every span of size at most 2^30 some plan puts j at or below i plus it
--     HighEnd K N i j x         the greatest likewise
--     Between K x s             the span s is not outside the ends x
--     LowOver K P i j x         the same over the dates of which P holds, and HighOver likewise
use Rattle.std.specs.Prelude.{◌≡◌, ℕ, ◌≤◌, List, Some, None, Option}
use Rattle.spans.specs.Kind.{Kind, ◌≤⟨◌⟩◌}
use Rattle.networks.specs.declared.window.Window.{Window}
use Rattle.networks.specs.Limits.{largest_distance}
use Rattle.networks.specs.Network.{Network}
use Rattle.networks.specs.Plan.{date, Plan}

module _ {S : Type 0} (K : Kind S) where
  abbrev pub ApartBy : List S → ℕ → ℕ → S → Type 0
  ApartBy dates i j s = (a : S) × (K.opposite (date K dates i) ≡ Some a) × (K.plus (date K dates j) a ≡ Some s)

  -- a missing end demands nothing
  abbrev pub Between : Window S → S → Type 0
  Between x s = ((a : S) → x.low ≡ Some a → a ≤⟨ K ⟩ s) × ((b : S) → x.high ≡ Some b → s ≤⟨ K ⟩ b)

  -- over the dates of which P holds
  module _ (P : List S → Type 0) (i j : ℕ) where
    -- some have it, and none go below; or for every span some put j at or below i plus it
    abbrev pub LowOver : Option S → Type 0
    LowOver (Some s) =
        (K.size s ≤ largest_distance) × ((dates : List S) × P dates × ApartBy dates i j s)
        × ((dates : List S) (t : S) → P dates → ApartBy dates i j t → s ≤⟨ K ⟩ t)
    LowOver None =
        (s : S) → K.size s ≤ largest_distance
        → (dates : List S) × (x : S) × P dates × (K.plus (date K dates i) s ≡ Some x) × (date K dates j ≤⟨ K ⟩ x)

    abbrev pub HighOver : Option S → Type 0
    HighOver (Some s) =
        (K.size s ≤ largest_distance) × ((dates : List S) × P dates × ApartBy dates i j s)
        × ((dates : List S) (t : S) → P dates → ApartBy dates i j t → t ≤⟨ K ⟩ s)
    HighOver None =
        (s : S) → K.size s ≤ largest_distance
        → (dates : List S) × (x : S) × P dates × (K.plus (date K dates i) s ≡ Some x) × (x ≤⟨ K ⟩ date K dates j)

  -- over all plans
  abbrev pub LowEnd : Network S → ℕ → ℕ → Option S → Type 0
  LowEnd N i j x = LowOver (Plan K N) i j x

  abbrev pub HighEnd : Network S → ℕ → ℕ → Option S → Type 0
  HighEnd N i j x = HighOver (Plan K N) i j x
