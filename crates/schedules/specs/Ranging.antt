-- What range answers and what it leaves in lent memory. Assumes nothing.
--     Ranges K N i j matrix cycle r matrix' cycle'     answer r and memory matrix', cycle' after a call for the points i and j with matrix and cycle
--     RangesOnce K                                      any two answers that `Ranges` allows for two points of a network and memory of these lengths are alike
use Rattle.std.specs.Prelude.{◌≡◌, ℕ, ◌<◌, ◌≤◌, ◌&&◌, ◌⊎◌, List, length, Some, None, Ok, Err, Option, Result, nat_lt}
use Rattle.spans.specs.Kind.{Kind}
use Rattle.networks.specs.declared.fault.Fault.{Fault}
use Rattle.networks.specs.declared.fault.Fault.TheVariants.{Cycle, NoPlan}
use Rattle.networks.specs.declared.window.Window.{Window}
use Rattle.networks.specs.Limits.{most_conditions, largest_distance}
use Rattle.networks.specs.Network.{Network, condition_at}
use Rattle.networks.specs.Plan.{Plan}
use Rattle.networks.specs.Legal.{Legal}
use Rattle.networks.specs.Refusal.{Refusal, or_else, refuse_unless, checks_refusal}
use Rattle.distances.specs.Memory.{blanked}
use Rattle.distances.specs.Tightening.{RefusedAtOnce, Contradicted}
use Rattle.schedules.specs.Range.{ApartBy, Between, LowEnd, HighEnd}
use Rattle.schedules.specs.Solving.{AlikeFaults}
use Rattle.schedules.specs.Unmet.{Unmet}

-- what the ends x tell of j's distance from i: it is not outside them in any plan, which follows from the ends and is said for the reader; and where no condition has two windows, every distance
-- within them that a range can tell is that of some plan
pub record Tells {S : Type 0} (K : Kind S) (N : Network S) (i j : ℕ) (x : Window S) : Type 0 where
  pub low : LowEnd K N i j x.low
  pub high : HighEnd K N i j x.high
  pub within : (dates : List S) (s : S) → Plan K N dates → ApartBy K dates i j s → Between K x s
  pub occurs : ((k : ℕ) → k < length N.conditions → length (condition_at N k).windows ≤ 1)
      → (s : S) → K.size s ≤ largest_distance → Between K x s → (dates : List S) × Plan K N dates × ApartBy K dates i j s

-- 9: one of the points is not there
abbrev pub absent_refusal : {S : Type 0} → Network S → ℕ → ℕ → Option Refusal
absent_refusal N i j = refuse_unless (nat_lt i N.points && nat_lt j N.points) 9 0

module _ {S : Type 0} (K : Kind S) (N : Network S) (i j : ℕ) (matrix : List (Option S)) (cycle : List ℕ) where
  -- granted: both ends, and the matrix is blank
  pub record Ranged (x : Window S) (matrix' : List (Option S)) (cycle' : List ℕ) : Type 0 where
    pub legal : Legal K N
    pub there : (i < N.points) × (j < N.points)
    pub tells : Tells K N i j x
    pub same_cycle : cycle' ≡ cycle
    pub blank : matrix' ≡ blanked N.points matrix

  -- past the checks: both ends, or 10 as tighten has it, or 11
  abbrev pub Answers : Result (Window S) Fault → List (Option S) → List ℕ → Type 0
  Answers (Ok x) matrix' cycle' = Ranged x matrix' cycle'
  Answers (Err f) matrix' cycle' =
      ((edges : ℕ) × (f ≡ Cycle edges) × Contradicted K N matrix cycle edges matrix' cycle')
      ⊎ ((f ≡ NoPlan) × Unmet K N matrix cycle matrix' cycle')

  -- by what the checks 1 to 9 say
  abbrev pub AfterChecks : Option Refusal → Result (Window S) Fault → List (Option S) → List ℕ → Type 0
  AfterChecks (Some q) r matrix' cycle' = RefusedAtOnce K N matrix cycle q r matrix' cycle'
  AfterChecks None r matrix' cycle' = Answers r matrix' cycle'

  abbrev pub Ranges : Result (Window S) Fault → List (Option S) → List ℕ → Type 0
  Ranges r matrix' cycle' =
      AfterChecks
      (or_else (checks_refusal K N most_conditions (record { matrix = length matrix; cycle = length cycle; dates = None })) (absent_refusal N i j))
      r matrix' cycle'

-- ---- one answer
-- A call: what memory it was lent, what it answered, and what it left.
pub record RangeCall (S : Type 0) : Type 0 where
  pub matrix : List (Option S)
  pub cycle : List ℕ
  pub answer : Result (Window S) Fault
  pub matrix' : List (Option S)
  pub cycle' : List ℕ

-- both granted, with the same ends; or both refused alike
abbrev pub AlikeRanges : {S : Type 0} → Result (Window S) Fault → Result (Window S) Fault → Type 0
AlikeRanges (Ok x) (Ok y) = x ≡ y
AlikeRanges (Ok x) (Err g) = ⊥
AlikeRanges (Err f) (Ok y) = ⊥
AlikeRanges (Err f) (Err g) = AlikeFaults f g

module _ {S : Type 0} (K : Kind S) where
  abbrev pub RangedCall : Network S → ℕ → ℕ → RangeCall S → Type 0
  RangedCall N i j a = Ranges K N i j a.matrix a.cycle a.answer a.matrix' a.cycle'

  -- on a network, with memory of the same lengths
  abbrev pub RangesOnce : Type 0
  RangesOnce =
      (N : Network S) (i j : ℕ) (a b : RangeCall S) → length a.matrix ≡ length b.matrix → length a.cycle ≡ length b.cycle
      → RangedCall N i j a → RangedCall N i j b → AlikeRanges a.answer b.answer
