-- What solve answers and what it leaves in lent memory. Assumes nothing.
--     Solves K N matrix cycle dates r matrix' cycle' dates'     answer r and memory matrix', cycle', dates' after a call with matrix, cycle and dates
--     SolvesOnce K                                               any two answers that `Solves` allows for a network and memory of these lengths are alike
use Rattle.std.specs.Prelude.{◌≡◌, ℕ, ◌⊎◌, List, length, take, drop, Some, None, Ok, Err, Option, Result}
use Rattle.spans.specs.Kind.{Kind}
use Rattle.networks.specs.declared.fault.Fault.{Fault}
use Rattle.networks.specs.declared.fault.Fault.TheVariants.{Cycle, NoPlan}
use Rattle.networks.specs.Limits.{most_conditions}
use Rattle.networks.specs.Network.{Network}
use Rattle.networks.specs.Plan.{Plan}
use Rattle.networks.specs.Legal.{Legal}
use Rattle.networks.specs.Refusal.{Refusal, checks_refusal}
use Rattle.networks.specs.Faults.{refusal_of}
use Rattle.distances.specs.Memory.{blanked}
use Rattle.distances.specs.Tightening.{RefusedAtOnce, Contradicted}
use Rattle.schedules.specs.Solution.{Solution}
use Rattle.schedules.specs.Unmet.{Unmet}

module _ {S : Type 0} (K : Kind S) (N : Network S) (matrix : List (Option S)) (cycle : List ℕ) (dates : List S) where
  -- granted: the first n dates are the solution, which is a plan, the rest as it was, and the matrix is blank
  pub record Solved (matrix' : List (Option S)) (cycle' : List ℕ) (dates' : List S) : Type 0 where
    pub legal : Legal K N
    pub solution : Solution K N (take N.points dates')
    pub plan : Plan K N (take N.points dates')
    pub rest : drop N.points dates' ≡ drop N.points dates
    pub same_cycle : cycle' ≡ cycle
    pub blank : matrix' ≡ blanked N.points matrix

  -- past the checks: the solution, or 10 as tighten has it, or 11, and no date written
  abbrev pub Answers : Result (Unit {0}) Fault → List (Option S) → List ℕ → List S → Type 0
  Answers (Ok x) matrix' cycle' dates' = Solved matrix' cycle' dates'
  Answers (Err f) matrix' cycle' dates' =
      ((edges : ℕ) × (f ≡ Cycle edges) × Contradicted K N matrix cycle edges matrix' cycle' × (dates' ≡ dates))
      ⊎ ((f ≡ NoPlan) × Unmet K N matrix cycle matrix' cycle' × (dates' ≡ dates))

  -- by what the checks 1 to 8 say
  abbrev pub AfterChecks : Option Refusal → Result (Unit {0}) Fault → List (Option S) → List ℕ → List S → Type 0
  AfterChecks (Some q) r matrix' cycle' dates' = RefusedAtOnce K N matrix cycle q r matrix' cycle' × (dates' ≡ dates)
  AfterChecks None r matrix' cycle' dates' = Answers r matrix' cycle' dates'

  abbrev pub Solves : Result (Unit {0}) Fault → List (Option S) → List ℕ → List S → Type 0
  Solves r matrix' cycle' dates' =
      AfterChecks (checks_refusal K N most_conditions (record { matrix = length matrix; cycle = length cycle; dates = Some (length dates) }))
      r matrix' cycle' dates'

-- ---- one answer
-- A call: what memory it was lent, what it answered, and what it left.
pub record Call (S : Type 0) : Type 0 where
  pub matrix : List (Option S)
  pub cycle : List ℕ
  pub dates : List S
  pub answer : Result (Unit {0}) Fault
  pub matrix' : List (Option S)
  pub cycle' : List ℕ
  pub dates' : List S

-- 10 may count another cycle; else number and detail are the same
abbrev pub AlikeFaults : Fault → Fault → Type 0
AlikeFaults f g = (refusal_of f ≡ refusal_of g) ⊎ ((edges more : ℕ) × (f ≡ Cycle edges) × (g ≡ Cycle more))

-- both granted, with the same first n dates; or both refused alike
abbrev pub AlikeAnswers : {S : Type 0} → ℕ → Result (Unit {0}) Fault → Result (Unit {0}) Fault → List S → List S → Type 0
AlikeAnswers n (Ok x) (Ok y) dates again = take n dates ≡ take n again
AlikeAnswers n (Ok x) (Err g) dates again = ⊥
AlikeAnswers n (Err f) (Ok y) dates again = ⊥
AlikeAnswers n (Err f) (Err g) dates again = AlikeFaults f g

module _ {S : Type 0} (K : Kind S) where
  abbrev pub SolvedCall : Network S → Call S → Type 0
  SolvedCall N a = Solves K N a.matrix a.cycle a.dates a.answer a.matrix' a.cycle' a.dates'

  -- on a network, with memory of the same lengths
  abbrev pub SolvesOnce : Type 0
  SolvesOnce =
      (N : Network S) (a b : Call S) → length a.matrix ≡ length b.matrix → length a.cycle ≡ length b.cycle → length a.dates ≡ length b.dates
      → SolvedCall N a → SolvedCall N b → AlikeAnswers N.points a.answer b.answer a.dates' b.dates'
