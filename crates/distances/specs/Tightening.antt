-- What tighten answers and what it leaves in lent memory. Assumes nothing.
--     Tightens K N matrix cycle r matrix' cycle'     answer r and memory matrix', cycle' after a call with matrix and cycle
use Rattle.std.specs.Prelude.{◌≡◌, ℕ, ◌*◌, List, length, drop, Some, None, Ok, Err, Option, Result}
use Rattle.spans.specs.Kind.{Kind}
use Rattle.networks.specs.declared.fault.Fault.{Fault}
use Rattle.networks.specs.declared.fault.Fault.TheVariants.{Cycle}
use Rattle.networks.specs.Limits.{most_conditions}
use Rattle.networks.specs.Network.{Network}
use Rattle.networks.specs.Hull.{hulls}
use Rattle.networks.specs.Plan.{HasPlan}
use Rattle.networks.specs.Legal.{Legal}
use Rattle.networks.specs.Refusal.{Refusal, checks_refusal}
use Rattle.networks.specs.Faults.{refusal_in}
use Rattle.distances.specs.Graph.{NegativeCycle}
use Rattle.distances.specs.Distance.{Distances}
use Rattle.distances.specs.Memory.{put_first, blanked}

module _ {S : Type 0} (K : Kind S) (N : Network S) (matrix : List (Option S)) (cycle : List ℕ) where
  -- a check refuses: its refusal, and nothing is written
  pub record RefusedAtOnce {R : Type 0} (q : Refusal) (r : Result R Fault) (matrix' : List (Option S)) (cycle' : List ℕ) : Type 0 where
    pub refusal : refusal_in r ≡ Some q
    pub same_matrix : matrix' ≡ matrix
    pub same_cycle : cycle' ≡ cycle

  -- granted: the least totals at the front, the rest as it was, and some plan meets the hulls
  pub record Tight (matrix' : List (Option S)) (cycle' : List ℕ) : Type 0 where
    pub legal : Legal K N
    pub least : Distances K N matrix'
    pub plan : HasPlan K (hulls N)
    pub rest : drop (N.points * N.points) matrix' ≡ drop (N.points * N.points) matrix
    pub same_cycle : cycle' ≡ cycle

  -- refused with 10: the codes of a cycle below zero at the front of the cycle memory, and no plan meets the hulls.
  -- Which such cycle it is, and where it starts, is free.
  pub record Contradicted (edges : ℕ) (matrix' : List (Option S)) (cycle' : List ℕ) : Type 0 where
    pub legal : Legal K N
    pub no_plan : HasPlan K (hulls N) → ⊥
    pub codes : List ℕ
    pub counted : edges ≡ length codes
    pub negative : NegativeCycle K N codes
    pub written : cycle' ≡ put_first codes cycle
    pub blank : matrix' ≡ blanked N.points matrix

  abbrev pub Ends : Result (Unit {0}) Fault → List (Option S) → List ℕ → Type 0
  Ends (Ok x) matrix' cycle' = Tight matrix' cycle'
  Ends (Err f) matrix' cycle' = (edges : ℕ) × (f ≡ Cycle edges) × Contradicted edges matrix' cycle'

  -- by what the checks 1 to 8 say
  abbrev pub AfterChecks : Option Refusal → Result (Unit {0}) Fault → List (Option S) → List ℕ → Type 0
  AfterChecks (Some q) r matrix' cycle' = RefusedAtOnce q r matrix' cycle'
  AfterChecks None r matrix' cycle' = Ends r matrix' cycle'

  abbrev pub Tightens : Result (Unit {0}) Fault → List (Option S) → List ℕ → Type 0
  Tightens r matrix' cycle' =
      AfterChecks (checks_refusal K N most_conditions (record { matrix = length matrix; cycle = length cycle; dates = None })) r matrix' cycle'
