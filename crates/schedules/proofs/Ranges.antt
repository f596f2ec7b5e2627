-- What range goes through: the hulls closed, both ends over all selections, the matrix blank. Assumes nothing.
use Rattle.std.proofs.Common.{◌≡◌, ℕ, ◌<◌, List, Ok, Err, Option, Result, MatchResult, inr, ◌∙◌}
use Rattle.spans.specs.Kind.{Kind, Laws}
use Rattle.networks.specs.declared.fault.Fault.{Fault}
use Rattle.networks.specs.declared.fault.Fault.TheVariants.{NoPlan}
use Rattle.networks.specs.declared.window.Window.{Window}
use Rattle.networks.specs.Network.{Network}
use Rattle.networks.specs.Plan.{Plan, HasPlan}
use Rattle.networks.specs.Legal.{Legal}
use Rattle.distances.specs.Matrix.{Rest}
use Rattle.distances.specs.Memory.{blanked}
use Rattle.distances.specs.Tightening.{Tight}
use Rattle.distances.proofs.Contradictions.{blanked_after}
use Rattle.schedules.specs.Range.{LowEnd, HighEnd}
use Rattle.schedules.specs.Ranging.{Tells, Answers}
use Rattle.schedules.proofs.Selecting.{few_hulls}
use Rattle.schedules.proofs.Joining.{low_dates}
use Rattle.schedules.proofs.Occurring.{range_within, range_occurs}

module _ {S : Type 0} {K : Kind S} (laws : Laws S K) (N : Network S) (i j : ℕ) (li : i < N.points) (lj : j < N.points) where
  tells : Legal K N → (x : Window S) → LowEnd K N i j x.low → HighEnd K N i j x.high → Tells K N i j x
  tells legal x low high = record {
    low = low;
    high = high;
    within = range_within laws N legal i j li lj x.low x.high low high;
    occurs = λ single s small (above, below).
        range_occurs laws N legal i j li lj (few_hulls N single) (low_dates laws (Plan K N) i j x.low low) x.low x.high low high s small above below;
  }

  pub ranged : (matrix : List (Option S)) (cycle : List ℕ) (r : Result (Window S) Fault) (closed used matrix' : List (Option S)) (cycle' : List ℕ)
      → Tight K N matrix cycle closed cycle' → Rest N.points closed used → matrix' ≡ blanked N.points used
      → MatchResult r (λ x. LowEnd K N i j x.low × HighEnd K N i j x.high) (λ f. (f ≡ NoPlan) × (HasPlan K N → ⊥))
      → Answers K N i j matrix cycle r matrix' cycle'
  ranged matrix cycle (Ok x) closed used matrix' cycle' tight rest blank (low, high) = record {
    legal = tight.legal;
    there = (li, lj);
    tells = tells tight.legal x low high;
    same_cycle = tight.same_cycle;
    blank = blanked_after N.points matrix used matrix' (rest ∙ tight.rest) blank;
  }
  ranged matrix cycle (Err f) closed used matrix' cycle' tight rest blank (is, none) = inr (
    is,
    record {
      legal = tight.legal;
      hulls_plan = tight.plan;
      no_plan = none;
      same_cycle = tight.same_cycle;
      blank = blanked_after N.points matrix used matrix' (rest ∙ tight.rest) blank;
    },
  )
