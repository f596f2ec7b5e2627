-- A selection takes one window from each condition. Assumes nothing.
--     selected N ws            condition k keeps only its window number ws[k]
--     chosen N ws place        the same below `place`, the hulls from there on
--     FirstWithPlan K N ws   the first selection that has a plan
use Rattle.std.specs.Prelude.{◌≡◌, ℕ, ◌<◌, cond, List, [], ◌∷◌, ◌++◌, length, take, drop, nat_lt, slice_index}
use Rattle.spans.specs.Kind.{Kind}
use Rattle.networks.specs.Network.{Condition, Network, condition_at, window_of}
use Rattle.networks.specs.Hull.{hulls}
use Rattle.networks.specs.Plan.{HasPlan}

module _ {S : Type 0} where
  -- the window numbered w alone, or none where there is no such window
  abbrev pub only : Condition S → ℕ → Condition S
  only c w = record { from = c.from; to = c.to; windows = cond (nat_lt w (length c.windows)) (window_of c w ∷ []) [] }

  abbrev pub without_windows : Condition S → Condition S
  without_windows c = record { from = c.from; to = c.to; windows = [] }

  -- a condition for which no number is left keeps no window
  abbrev pub selected_conditions : List (Condition S) → List ℕ → List (Condition S)
  selected_conditions [] ws = []
  selected_conditions (c ∷ cs) [] = without_windows c ∷ selected_conditions cs []
  selected_conditions (c ∷ cs) (w ∷ ws) = only c w ∷ selected_conditions cs ws

  abbrev pub selected : Network S → List ℕ → Network S
  selected N ws = record { points = N.points; conditions = selected_conditions N.conditions ws }

  abbrev pub chosen : Network S → List ℕ → ℕ → Network S
  chosen N ws place = record {
    points = N.points;
    conditions = take place (selected N ws).conditions ++ drop place (hulls N).conditions;
  }

  -- a number for each condition, each that of one of its windows
  pub record Selection (N : Network S) (ws : List ℕ) : Type 0 where
    pub one_each : length ws ≡ length N.conditions
    pub there : (k : ℕ) → k < length N.conditions → slice_index ws k < length (condition_at N k).windows

-- by the window of condition 0, then of condition 1, and so on: at the first that differs, an earlier window
abbrev pub Earlier : List ℕ → List ℕ → Type 0
Earlier vs ws = (m : ℕ) × ((k : ℕ) → k < m → slice_index vs k ≡ slice_index ws k) × (slice_index vs m < slice_index ws m)

pub record FirstWithPlan {S : Type 0} (K : Kind S) (N : Network S) (ws : List ℕ) : Type 0 where
  pub selection : Selection N ws
  pub has_plan : HasPlan K (selected N ws)
  pub none_earlier : (vs : List ℕ) → Selection N vs → Earlier vs ws → HasPlan K (selected N vs) → ⊥
