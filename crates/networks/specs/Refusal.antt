-- The refusals that a look at a network and at the lengths of lent memory can find, in their order. Assumes nothing.
-- A refusal has a number, by which the checks go, and a detail: here in 2 to 5 the condition's number, else 0.
--     condition_refusal K n k c     2 to 5, of condition k
--     network_refusal K N room      1 to 7, where there is room for so many conditions
--     memory_refusal n lent         8
--     checks_refusal K N room lent  1 to 8
use Rattle.std.specs.Prelude.{ℕ, ◌+◌, ◌*◌, min, Bool, true, false, cond, not, ◌&&◌, List, [], ◌∷◌, length, Some, None, Option, ◌==◌, nat_le, nat_lt}
use Rattle.spans.specs.Kind.{Kind}
use Rattle.networks.specs.declared.window.Window.{Window}
use Rattle.networks.specs.declared.lent.Lent.{Lent}
use Rattle.networks.specs.Limits.{most_points, most_conditions, most_choices, most_windows, largest_end}
use Rattle.networks.specs.Network.{Condition, Network}

pub record Refusal : Type 0 where
  pub number : ℕ
  pub detail : ℕ

-- the first that is there
abbrev pub or_else : Option Refusal → Option Refusal → Option Refusal
or_else None r = r
or_else (Some q) r = Some q

abbrev pub refuse_unless : Bool → ℕ → ℕ → Option Refusal
refuse_unless b n d = cond b None (Some (record { number = n; detail = d }))

-- 1: from 1 to 48 points
abbrev pub points_refusal : ℕ → Option Refusal
points_refusal n = refuse_unless (nat_lt 0 n && nat_le n most_points) 1 0

-- 6: no more conditions than 64, and than there is room for
abbrev pub room_refusal : ℕ → ℕ → Option Refusal
room_refusal count room = refuse_unless (nat_le count (min most_conditions room)) 6 0

module _ {S : Type 0} where
  -- 2: both points there, and not one point twice
  abbrev pub joins_two : ℕ → Condition S → Bool
  joins_two n c = (nat_lt c.from n && nat_lt c.to n) && not (c.from == c.to)

  -- 3
  abbrev pub one_to_four : Condition S → Bool
  one_to_four c = nat_lt 0 (length c.windows) && nat_le (length c.windows) most_windows

  -- a condition with two or more windows is a choice condition
  abbrev pub choices : List (Condition S) → ℕ
  choices [] = 0
  choices (c ∷ cs) = cond (nat_lt 1 (length c.windows)) 1 0 + choices cs

module _ {S : Type 0} (K : Kind S) where
  -- 4: no end above the limit
  abbrev pub small : Option S → Bool
  small None = true
  small (Some a) = nat_le (K.size a) largest_end

  abbrev pub all_small : List (Window S) → Bool
  all_small [] = true
  all_small (w ∷ ws) = (small w.low && small w.high) && all_small ws

  -- 5: no low end above its high end; each high end below the next low end, and neither of those two missing
  abbrev pub in_order : Option S → Option S → Bool
  in_order None high = true
  in_order (Some a) None = true
  in_order (Some a) (Some b) = not (K.less b a)

  abbrev pub leaves_gap : Option S → Option S → Bool
  leaves_gap None low = false
  leaves_gap (Some b) None = false
  leaves_gap (Some b) (Some a) = K.less b a

  abbrev pub before : Window S → List (Window S) → Bool
  before w [] = true
  before w (v ∷ ws) = leaves_gap w.high v.low

  abbrev pub rises : List (Window S) → Bool
  rises [] = true
  rises (w ∷ ws) = (in_order w.low w.high && before w ws) && rises ws

  abbrev pub condition_refusal : ℕ → ℕ → Condition S → Option Refusal
  condition_refusal n k c =
      or_else (refuse_unless (joins_two n c) 2 k)
      (or_else (refuse_unless (one_to_four c) 3 k)
      (or_else (refuse_unless (all_small c.windows) 4 k)
      (refuse_unless (rises c.windows) 5 k)))

  -- condition by condition, from number k on
  abbrev pub conditions_refusal : ℕ → ℕ → List (Condition S) → Option Refusal
  conditions_refusal n k [] = None
  conditions_refusal n k (c ∷ cs) = or_else (condition_refusal n k c) (conditions_refusal n (k + 1) cs)

  abbrev pub network_refusal : Network S → ℕ → Option Refusal
  network_refusal N room =
      or_else (points_refusal N.points)
      (or_else (conditions_refusal N.points 0 N.conditions)
      (or_else (room_refusal (length N.conditions) room)
      (refuse_unless (nat_le (choices N.conditions) most_choices) 7 0)))

-- 8: n×n entries for the matrix, n for the cycle and, where dates are lent, n for the dates
abbrev pub dates_fit_lem : ℕ → Option ℕ → Bool
dates_fit_lem n None = true
dates_fit_lem n (Some m) = nat_le n m

abbrev pub memory_refusal : ℕ → Lent → Option Refusal
memory_refusal n lent = refuse_unless (nat_le (n * n) lent.matrix && (nat_le n lent.cycle && dates_fit_lem n lent.dates)) 8 0

abbrev pub checks_refusal : {S : Type 0} → Kind S → Network S → ℕ → Lent → Option Refusal
checks_refusal K N room lent = or_else (network_refusal K N room) (memory_refusal N.points lent)
