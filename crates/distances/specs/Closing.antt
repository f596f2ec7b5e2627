-- What closing a network's matrix ends with. For our own crates. Assumes nothing.
--     Closes K N matrix                       the matrix holds the least totals, and the hulls have a plan
--     CannotClose K N links first last code   the edge of that code from `last` to `first` closes each way from `first` to `last` below zero, and no plan meets the hulls
use Rattle.std.specs.Prelude.{◌≡◌, ℕ, suc, true, ◌<◌, ◌≤◌, List, [], ◌∷◌, ◌++◌, length, Option}
use Rattle.spans.specs.Kind.{Kind}
use Rattle.networks.specs.Network.{Network}
use Rattle.networks.specs.Hull.{hulls}
use Rattle.networks.specs.Plan.{HasPlan}
use Rattle.distances.specs.Graph.{NegativeCycle}
use Rattle.distances.specs.Distance.{Distances}
use Rattle.distances.specs.declared.link.Link.TheVariants.{Direct}
use Rattle.distances.specs.declared.cycle.ClosingEdge.{ClosingEdge}
use Rattle.distances.specs.Table.{Table, Links, closes}
use Rattle.distances.specs.Unfolding.{Unfolds, Falls}

module _ {S : Type 0} (K : Kind S) (N : Network S) where
  pub record Closes (matrix : List (Option S)) : Type 0 where
    pub least : Distances K N matrix
    pub plan : HasPlan K (hulls N)

  -- `falls` says that there is a way from `first` to `last`; each has the rest
  pub record IsClosingEdge (links : Links) (first last code : ℕ) : Type 0 where
    pub falls : Falls N.points links
    pub back : links last first ≡ Direct code
    pub few : (cs ps : List ℕ) → Unfolds links first last cs ps → suc (length cs) ≤ N.points
    pub negative : (cs ps : List ℕ) → Unfolds links first last cs ps → NegativeCycle K N (cs ++ code ∷ [])

  pub record CannotClose (links : Links) (first last code : ℕ) : Type 0 where
    pub first_there : first < N.points
    pub last_there : last < N.points
    pub closing : IsClosingEdge links first last code
    pub no_plan : HasPlan K (hulls N) → ⊥

-- an edge that stands in a table with links and closes the way from k to its last point, which is below k
module _ {S : Type 0} (K : Kind S) (d : Table S) (links : Links) (k : ℕ) where
  pub record FoundEdge (e : ClosingEdge) : Type 0 where
    pub first_is : e.first ≡ k
    pub last_below : e.last < k
    pub below_zero : closes K d links k e.last ≡ true
    pub back : links e.last k ≡ Direct e.code
