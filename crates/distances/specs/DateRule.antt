-- The date rule: points get their dates in order of number, each from the dates of earlier points and the entries of a distance matrix.
-- Assumes nothing.
--     ByDateRule K entry dates n     dates has one date for each of n points, each as the rule says
use Rattle.std.specs.Prelude.{◌≡◌, ℕ, ◌<◌, List, length, Some, None, Option}
use Rattle.spans.specs.Kind.{Kind, ◌≤⟨◌⟩◌}
use Rattle.networks.specs.Plan.{date}

module _ {S : Type 0} (K : Kind S) (entry : ℕ → ℕ → Option S) (dates : List S) where
  -- q's date minus the entry from p to q: p is not to be earlier
  abbrev pub EarliestFrom : ℕ → ℕ → S → Type 0
  EarliestFrom p q x = (e f : S) × (entry p q ≡ Some e) × (K.opposite e ≡ Some f) × (K.plus (date K dates q) f ≡ Some x)

  -- q's date plus the entry from q to p: p is not to be later
  abbrev pub LatestFrom : ℕ → ℕ → S → Type 0
  LatestFrom p q x = (e : S) × (entry q p ≡ Some e) × (K.plus (date K dates q) e ≡ Some x)

  -- x is the greatest earliest date that p has from a point below m; each entry there has its difference. The rule takes m = p.
  abbrev pub GreatestEarliest : ℕ → ℕ → S → Type 0
  GreatestEarliest p m x =
      ((q : ℕ) × (q < m) × EarliestFrom p q x)
      × ((q : ℕ) (e : S) → q < m → entry p q ≡ Some e → (y : S) × EarliestFrom p q y × (y ≤⟨ K ⟩ x))

  -- x is the least latest date that p has from a point below m; each entry there has its sum. The rule takes m = p.
  abbrev pub LeastLatest : ℕ → ℕ → S → Type 0
  LeastLatest p m x =
      ((q : ℕ) × (q < m) × LatestFrom p q x)
      × ((q : ℕ) (e : S) → q < m → entry q p ≡ Some e → (y : S) × LatestFrom p q y × (x ≤⟨ K ⟩ y))

  -- p has no entry to a point below m
  abbrev pub NoEarliest : ℕ → ℕ → Type 0
  NoEarliest p m = (q : ℕ) → q < m → entry p q ≡ None

  -- no point below m has an entry to p
  abbrev pub NoLatest : ℕ → ℕ → Type 0
  NoLatest p m = (q : ℕ) → q < m → entry q p ≡ None

  -- from the points before p: the greatest earliest date, else the least latest one, else zero
  pub data Dated (p : ℕ) : S → Type 0 where
    at_earliest : {x : S} → GreatestEarliest p p x → Dated p x
    at_latest : {x : S} → NoEarliest p p → LeastLatest p p x → Dated p x
    at_zero : NoEarliest p p → NoLatest p p → Dated p K.zero

  pub record ByDateRule (n : ℕ) : Type 0 where
    pub one_each : length dates ≡ n
    pub each : (p : ℕ) → p < n → Dated p (date K dates p)
