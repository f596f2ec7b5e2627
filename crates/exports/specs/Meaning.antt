-- What numbers mean: a network, entries of a matrix, and the answer of a call. Assumes nothing.
--     numbers_network P n l      the network of n points whose conditions the numbers l spell
--     Answered ..                the answer of tightening that network, in numbers
use Rattle.std.specs.Prelude.{◌≡◌, ℕ, zero, suc, ◌+◌, ◌*◌, ◌/◌, ◌%◌, ◌<◌, min, Bool, true, false, cond, ◌&&◌, List, [], ◌∷◌, length, drop, ℤ, pos, Some, None, Ok, Err, Option, Result, ◌==◌, int_lt, nat_lt, slice_index, slice_index_or, slice_set, unsigned_abs}
use Rattle.spans.specs.Kind.{Kind}
use Rattle.networks.specs.declared.fault.Fault.{Fault}
use Rattle.networks.specs.Limits.{most_points, most_conditions}
use Rattle.networks.specs.Hull.{hulls}
use Rattle.networks.specs.Plan.{HasPlan}
use Rattle.networks.specs.Refusal.{checks_refusal}
use Rattle.networks.specs.Faults.{refusal_of}
use Rattle.networks.specs.Network.{Condition, Network, no_condition, condition_at}
use Rattle.distances.specs.Tightening.{Tightens}
use Rattle.exports.specs.Spelling.{Spelling}

-- the answer to numbers that are not a call; no refusal has this number
abbrev pub not_a_call : ℕ
not_a_call = 100

-- 48 points by 48
abbrev pub most_entries : ℕ
most_entries = 2304

-- f of 0, f of 1 and so on, n of them
abbrev pub firsts : {A : Type 0} → (ℕ → A) → ℕ → List A
firsts f zero = []
firsts f (suc n) = f 0 ∷ firsts (λ k. f (suc k)) n

-- A number below zero names no point: 48 stands for it, which no network has.
abbrev pub point_of : ℤ → ℕ
point_of z = cond (int_lt z (pos 0)) most_points (unsigned_abs z)

module _ {S : Type 0} (P : Spelling S) where
  -- A mark and then a span; the end is there where its mark is above zero.
  abbrev pub end_at : List ℤ → ℕ → Option S
  end_at l p = cond (int_lt (pos 0) (slice_index_or l p (pos 0))) (Some (P.read l (p + 1))) None

  -- A condition: from, to, the low end of its one window, the high end.
  abbrev pub condition_numbers : ℕ
  condition_numbers = 4 + 2 * P.width

  abbrev pub condition_from : List ℤ → ℕ → Condition S
  condition_from l p = record {
    from = point_of (slice_index_or l p (pos 0));
    to = point_of (slice_index_or l (p + 1) (pos 0));
    windows = record { low = end_at l (p + 2); high = end_at l (p + 3 + P.width) } ∷ [];
  }

  abbrev pub numbers_network : ℕ → List ℤ → Network S
  numbers_network n l = record {
    points = n;
    conditions = firsts (λ k. condition_from l (k * condition_numbers)) (length l / condition_numbers);
  }

  -- these are the numbers of condition k
  pub record IsCondition (n : ℕ) (l : List ℤ) (k : ℕ) (part : List ℤ) : Type 0 where
    pub long : length part ≡ condition_numbers
    pub meant : condition_at (numbers_network n l) k ≡ condition_from part 0

  -- there is no condition k
  pub record Absent (n : ℕ) (l : List ℤ) (k : ℕ) : Type 0 where
    pub meant : condition_at (numbers_network n l) k ≡ no_condition

  -- the numbers are those of whole conditions
  abbrev pub whole : List ℤ → Bool
  whole l = length l % condition_numbers == 0

  -- Entry p of a matrix in numbers: there where its mark is above zero.
  abbrev pub entry_at : List ℤ → List ℕ → ℕ → Option S
  entry_at matrix present p = cond (nat_lt 0 (slice_index present p)) (Some (P.read matrix (p * P.width))) None

  -- how many entries the numbers and the marks have room for, and no more than 48 by 48
  abbrev pub entries_room : List ℤ → List ℕ → ℕ
  entries_room matrix present = min (min (length matrix / P.width) (length present)) most_entries

module _ {S : Type 0} (K : Kind S) (N : Network S) where
  -- passes the checks with memory for so many entries and edges, and some plan meets its hulls
  abbrev pub Grantable : ℕ → ℕ → Type 0
  Grantable entries edges =
      (checks_refusal K N most_conditions (record { matrix = entries; cycle = edges; dates = None }) ≡ None) × HasPlan K (hulls N)

  -- so many of `times` calls were granted: all where the network can be granted, else none
  pub record AllOrNone (entries edges times granted : ℕ) : Type 0 where
    pub all : Grantable entries edges → granted ≡ times
    pub none : (Grantable entries edges → ⊥) → granted ≡ 0

-- a call in numbers: points, numbers of conditions, memory for the matrix and its marks, for a cycle and for the detail
module _ {S : Type 0} (K : Kind S) (P : Spelling S) (n : ℕ) (l matrix : List ℤ) (present cycle detail : List ℕ) where
  -- granted: 0, and the entries of the tightened matrix
  pub record Grants (memory' : List (Option S)) (r : ℕ) (matrix' : List ℤ) (present' detail' : List ℕ) : Type 0 where
    pub answer : r ≡ 0
    pub entries : (p : ℕ) → p < n * n → entry_at P matrix' present' p ≡ slice_index_or memory' p None
    pub rest_matrix : drop (n * n * P.width) matrix' ≡ drop (n * n * P.width) matrix
    pub rest_present : drop (n * n) present' ≡ drop (n * n) present
    pub same_detail : detail' ≡ detail

  -- refused: the number of the refusal, its detail, and no entry
  pub record Refuses (f : Fault) (r : ℕ) (matrix' : List ℤ) (present' detail' : List ℕ) : Type 0 where
    pub answer : r ≡ (refusal_of f).number
    pub told : detail' ≡ slice_set detail 0 (refusal_of f).detail
    pub same_matrix : matrix' ≡ matrix
    pub same_present : present' ≡ present

  abbrev pub Says : Result (Unit {0}) Fault → List (Option S) → ℕ → List ℤ → List ℕ → List ℕ → Type 0
  Says (Ok x) memory' r matrix' present' detail' = Grants memory' r matrix' present' detail'
  Says (Err f) memory' r matrix' present' detail' = Refuses f r matrix' present' detail'

  -- what tightening the meant network with memory of that room ended with, told in numbers
  pub record Tightened (r : ℕ) (matrix' : List ℤ) (present' cycle' detail' : List ℕ) : Type 0 where
    pub memory : List (Option S)
    pub memory' : List (Option S)
    pub result : Result (Unit {0}) Fault
    pub room : length memory ≡ entries_room P matrix present
    pub tightens : Tightens K (numbers_network P n l) memory cycle result memory' cycle'
    pub says : Says result memory' r matrix' present' detail'

  -- not a call at all: nothing is written
  pub record TurnedAway (r : ℕ) (matrix' : List ℤ) (present' cycle' detail' : List ℕ) : Type 0 where
    pub answer : r ≡ not_a_call
    pub same_matrix : matrix' ≡ matrix
    pub same_present : present' ≡ present
    pub same_cycle : cycle' ≡ cycle
    pub same_detail : detail' ≡ detail

  abbrev pub AnswersWhen : Bool → ℕ → List ℤ → List ℕ → List ℕ → List ℕ → Type 0
  AnswersWhen true r matrix' present' cycle' detail' = Tightened r matrix' present' cycle' detail'
  AnswersWhen false r matrix' present' cycle' detail' = TurnedAway r matrix' present' cycle' detail'

  -- a call has whole conditions and room for the detail
  abbrev pub Answered : ℕ → List ℤ → List ℕ → List ℕ → List ℕ → Type 0
  Answered r matrix' present' cycle' detail' =
      AnswersWhen (whole P l && nat_lt 0 (length detail)) r matrix' present' cycle' detail'
