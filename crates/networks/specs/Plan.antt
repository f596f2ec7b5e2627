-- What it is for dates to keep conditions. Assumes nothing.
--     Plan K N dates   one date for each point, point 0 at zero, every condition met
--     HasPlan K N     there is one
use Rattle.std.specs.Prelude.{◌≡◌, ℕ, ◌<◌, ◌≤◌, List, length, Some, None, Option, slice_index_or}
use Rattle.spans.specs.Kind.{Kind, ◌≤⟨◌⟩◌}
use Rattle.networks.specs.declared.window.Window.{Window}
use Rattle.networks.specs.Limits.{largest_date}
use Rattle.networks.specs.Network.{Condition, Network, condition_at, window_of}

module _ {S : Type 0} (K : Kind S) where
  abbrev pub date : List S → ℕ → S
  date dates p = slice_index_or dates p K.zero

  -- x plus the low end is not above y; a missing end demands nothing
  abbrev pub LowKept : Option S → S → S → Type 0
  LowKept None x y = Unit {0}
  LowKept (Some a) x y = (s : S) × (K.plus x a ≡ Some s) × (s ≤⟨ K ⟩ y)

  -- y is not above x plus the high end
  abbrev pub HighKept : Option S → S → S → Type 0
  HighKept None x y = Unit {0}
  HighKept (Some b) x y = (s : S) × (K.plus x b ≡ Some s) × (y ≤⟨ K ⟩ s)

  -- the distance from x to y lies in the window
  abbrev pub Fits : Window S → S → S → Type 0
  Fits w x y = LowKept w.low x y × HighKept w.high x y

  -- some window fits
  abbrev pub Meets : List S → Condition S → Type 0
  Meets dates c =
      (w : ℕ) × (w < length c.windows) × Fits (window_of c w) (date dates c.from) (date dates c.to)

  pub record Plan (N : Network S) (dates : List S) : Type 0 where
    pub one_each : length dates ≡ N.points
    pub starts_at_zero : date dates 0 ≡ K.zero
    pub in_reach : (p : ℕ) → p < N.points → K.size (date dates p) ≤ largest_date
    pub meets : (k : ℕ) → k < length N.conditions → Meets dates (condition_at N k)

  abbrev pub HasPlan : Network S → Type 0
  HasPlan N = (dates : List S) × Plan N dates
