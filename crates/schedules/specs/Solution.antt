-- What solve gives: the dates of the date rule on the first selection that has a plan. Assumes nothing.
use Rattle.std.specs.Prelude.{ℕ, List, Option}
use Rattle.spans.specs.Kind.{Kind}
use Rattle.networks.specs.Network.{Network}
use Rattle.networks.specs.Selection.{selected, FirstWithPlan}
use Rattle.distances.specs.DateRule.{ByDateRule}
use Rattle.distances.specs.Distance.{LeastTotals}

module _ {S : Type 0} (K : Kind S) (N : Network S) where
  -- by that selection's own least totals
  pub record SolvedBy (ws : List ℕ) (entry : ℕ → ℕ → Option S) (dates : List S) : Type 0 where
    pub first : FirstWithPlan K N ws
    pub least : LeastTotals K (selected N ws) entry
    pub ruled : ByDateRule K entry dates N.points

  abbrev pub Solution : List S → Type 0
  Solution dates = (ws : List ℕ) × (entry : ℕ → ℕ → Option S) × SolvedBy ws entry dates
