-- What it is for a network to be legal, said of its points, ends and windows one by one. Assumes nothing.
-- The checks 1 to 7 let pass exactly the legal networks for which there is room.
use Rattle.std.specs.Prelude.{◌≡◌, ℕ, suc, ◌<◌, ◌≤◌, true, false, length, is_ok, Some, Option, Result}
use Rattle.spans.specs.Kind.{Kind}
use Rattle.networks.specs.declared.fault.Fault.{Fault}
use Rattle.networks.specs.Limits.{most_points, most_conditions, most_choices, most_windows, largest_end}
use Rattle.networks.specs.Network.{Condition, Network, condition_at, window_of}
use Rattle.networks.specs.Refusal.{choices, network_refusal}
use Rattle.networks.specs.Faults.{refusal_in}

module _ {S : Type 0} (K : Kind S) where
  -- both ends are there, and the first is below the second
  abbrev pub Apart : Option S → Option S → Type 0
  Apart high low = (b : S) × (a : S) × (high ≡ Some b) × (low ≡ Some a) × (K.less b a ≡ true)

  pub record LegalCondition (n : ℕ) (c : Condition S) : Type 0 where
    -- two points that are there
    pub from_there : c.from < n
    pub to_there : c.to < n
    pub two_points : c.from ≡ c.to → ⊥
    -- one to four windows
    pub some_window : 0 < length c.windows
    pub few_windows : length c.windows ≤ most_windows
    -- no end is too large
    pub low_small : (w : ℕ) (a : S) → (window_of c w).low ≡ Some a → K.size a ≤ largest_end
    pub high_small : (w : ℕ) (b : S) → (window_of c w).high ≡ Some b → K.size b ≤ largest_end
    -- the windows rise; so only the first may lack its low end, and only the last its high end
    pub ordered : (w : ℕ) (a b : S) → (window_of c w).low ≡ Some a → (window_of c w).high ≡ Some b → K.less b a ≡ false
    pub apart : (w : ℕ) → suc w < length c.windows → Apart (window_of c w).high (window_of c (suc w)).low

  pub record Legal (N : Network S) : Type 0 where
    pub some_point : 0 < N.points
    pub few_points : N.points ≤ most_points
    pub each_condition : (k : ℕ) → k < length N.conditions → LegalCondition N.points (condition_at N k)
    pub few_conditions : length N.conditions ≤ most_conditions
    pub few_choices : choices N.conditions ≤ most_choices

-- What the checks 1 to 7 of a network answer, where there is room for so many conditions.
pub record Checked {S : Type 0} (K : Kind S) (N : Network S) (room : ℕ) (r : Result (Unit {0}) Fault) : Type 0 where
  pub refusal : refusal_in r ≡ network_refusal K N room
  pub legal : is_ok r ≡ true → Legal K N
  pub passes : Legal K N → length N.conditions ≤ room → is_ok r ≡ true
