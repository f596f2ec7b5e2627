-- The pair of two kinds: compared by the first part, then by the second; added part by part; the size is the larger one's;
-- the step is the second's. Assumes nothing.
use Rattle.std.specs.Prelude.{ℕ, ◌+◌, max, Bool, cond, not, ◌&&◌, ◌||◌, Some, None, Option, nat_le}
use Rattle.spans.specs.Kind.{Kind, reach}
use Rattle.spans.specs.declared.pair.Pair.{Pair}

abbrev pub pair : {A B : Type 0} → A → B → Pair A B
pair a b = record { first = a; second = b }

-- both parts, where both are there
abbrev pub both : {A B : Type 0} → Option A → Option B → Option (Pair A B)
both None y = None
both (Some x) None = None
both (Some x) (Some y) = Some (pair x y)

module _ {A B : Type 0} (KA : Kind A) (KB : Kind B) where
  abbrev pub pair_size : Pair A B → ℕ
  pair_size p = max (KA.size p.first) (KB.size p.second)

  abbrev pub pair_less : Pair A B → Pair A B → Bool
  pair_less p q =
      KA.less p.first q.first || (not (KA.less q.first p.first) && KB.less p.second q.second)

  abbrev pub pair_plus : Pair A B → Pair A B → Option (Pair A B)
  pair_plus p q =
      cond (nat_le (pair_size p + pair_size q) reach)
      (both (KA.plus p.first q.first) (KB.plus p.second q.second)) None

  abbrev pub pair_opposite : Pair A B → Option (Pair A B)
  pair_opposite p = both (KA.opposite p.first) (KB.opposite p.second)

  abbrev pub pair_kind : Kind (Pair A B)
  pair_kind = record {
    zero = pair KA.zero KB.zero;
    step = pair KA.zero KB.step;
    size = pair_size;
    less = pair_less;
    plus = pair_plus;
    opposite = pair_opposite;
  }
