-- What solve goes through: the hulls closed, the first selection found, its dates written, the matrix blank. Assumes nothing.
use Rattle.std.proofs.Common.{◌≡◌, ℕ, List, [], length, take, drop, inr, Ok, Err, Option, Result, MatchResult, sym, ◌∙◌, subst}
use Rattle.spans.specs.Kind.{Kind, Laws}
use Rattle.networks.specs.declared.fault.Fault.{Fault}
use Rattle.networks.specs.declared.fault.Fault.TheVariants.{NoPlan}
use Rattle.networks.specs.Network.{Network}
use Rattle.networks.specs.Hull.{hulls}
use Rattle.networks.specs.Plan.{HasPlan}
use Rattle.networks.specs.Legal.{Legal}
use Rattle.networks.specs.Selection.{selected}
use Rattle.distances.specs.Closing.{Closes}
use Rattle.distances.specs.DateRule.{ByDateRule}
use Rattle.distances.specs.Distance.{entry_of, Distances, LeastTotals}
use Rattle.distances.specs.Matrix.{Rest}
use Rattle.distances.specs.Memory.{blanked}
use Rattle.distances.specs.Tightening.{Tight}
use Rattle.distances.proofs.Contradictions.{blanked_after}
use Rattle.distances.proofs.Routes.{hulls_least}
use Rattle.schedules.specs.Choosing.{FoundFirst}
use Rattle.schedules.specs.Solution.{Solution}
use Rattle.schedules.specs.Solving.{Answers}
use Rattle.schedules.proofs.Selecting.{chosen_hulls, legal_selected}
use Rattle.schedules.proofs.OneSolution.{solution_plan}

module _ {S : Type 0} {K : Kind S} (N : Network S) where
  -- the least totals of a network are those of its hulls
  pub hulls_closed : (matrix : List (Option S)) → Distances K N matrix → HasPlan K (hulls N) → Closes K (hulls N) matrix
  hulls_closed matrix least plan = record {
    least = hulls_least K N (entry_of N.points matrix) least;
    plan = subst (HasPlan K) (sym (chosen_hulls N [] 0)) plan;
  }

  -- ---- the selection that is found
  module _ (us : List ℕ) (matrix : List (Option S)) (found : FoundFirst K N us matrix) where
    pub found_legal : Laws S K → Legal K N → Legal K (selected N us)
    found_legal laws legal =
        subst (Legal K) (sym found.meant) (legal_selected laws N legal (take (length N.conditions) us) found.first.selection)

    pub found_solution : (dates : List S) → ByDateRule K (entry_of N.points matrix) dates N.points → Solution K N dates
    found_solution dates ruled = (
      take (length N.conditions) us,
      entry_of N.points matrix,
      record {
        first = found.first;
        least = subst (λ (M : Network S). LeastTotals K M (entry_of N.points matrix)) found.meant found.closes.least;
        ruled = ruled;
      },
    )

  -- ---- what is answered in the end
  module _ (laws : Laws S K) (matrix : List (Option S)) (cycle : List ℕ) (dates : List S) where
    pub answered : (r : Result (Unit {0}) Fault) (closed used matrix' : List (Option S)) (cycle' : List ℕ) (dates' : List S)
        → Tight K N matrix cycle closed cycle' → Rest N.points closed used → matrix' ≡ blanked N.points used
        → MatchResult r (λ u. Solution K N (take N.points dates') × (drop N.points dates' ≡ drop N.points dates))
        (λ f. (f ≡ NoPlan) × (HasPlan K N → ⊥) × (dates' ≡ dates))
        → Answers K N matrix cycle dates r matrix' cycle' dates'
    answered (Ok x) closed used matrix' cycle' dates' tight rest blank (solution, past) = record {
      legal = tight.legal;
      solution = solution;
      plan = solution_plan laws N tight.legal (take N.points dates') solution;
      rest = past;
      same_cycle = tight.same_cycle;
      blank = blanked_after N.points matrix used matrix' (rest ∙ tight.rest) blank;
    }
    answered (Err f) closed used matrix' cycle' dates' tight rest blank (is, none, same) = inr (
      is,
      record {
        legal = tight.legal;
        hulls_plan = tight.plan;
        no_plan = none;
        same_cycle = tight.same_cycle;
        blank = blanked_after N.points matrix used matrix' (rest ∙ tight.rest) blank;
      },
      same,
    )
