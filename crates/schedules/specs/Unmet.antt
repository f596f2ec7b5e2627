-- What 11 says and leaves: the hulls admit a plan, the conditions none. Assumes nothing.
use Rattle.std.specs.Prelude.{◌≡◌, ℕ, List, Option}
use Rattle.spans.specs.Kind.{Kind}
use Rattle.networks.specs.Network.{Network}
use Rattle.networks.specs.Hull.{hulls}
use Rattle.networks.specs.Plan.{HasPlan}
use Rattle.networks.specs.Legal.{Legal}
use Rattle.distances.specs.Memory.{blanked}

-- some plan meets the hulls and none the conditions, and the matrix is blank
pub record Unmet {S : Type 0} (K : Kind S) (N : Network S) (matrix : List (Option S)) (cycle : List ℕ) (matrix' : List (Option S)) (cycle' : List ℕ) : Type 0 where
  pub legal : Legal K N
  pub hulls_plan : HasPlan K (hulls N)
  pub no_plan : HasPlan K N → ⊥
  pub same_cycle : cycle' ≡ cycle
  pub blank : matrix' ≡ blanked N.points matrix
