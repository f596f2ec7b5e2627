-- Minutes: whole numbers of 64 bits with their own order, sum and opposite; the size is the absolute value. Assumes nothing.
use Rattle.std.specs.Prelude.{◌+◌, cond, ℤ, pos, ◌+ℤ◌, neg_ℤ, Some, None, Option, int_lt, nat_le, unsigned_abs}
use Rattle.spans.specs.Kind.{Kind, reach}
use Rattle.spans.specs.declared.minutes.Minutes.{Minutes}

abbrev pub minutes : ℤ → Minutes
minutes n = record { count = n }

abbrev pub minute_plus : Minutes → Minutes → Option Minutes
minute_plus a b = cond (nat_le (unsigned_abs a.count + unsigned_abs b.count) reach) (Some (minutes (a.count +ℤ b.count))) None

abbrev pub minute_opposite : Minutes → Option Minutes
minute_opposite a = cond (nat_le (unsigned_abs a.count) reach) (Some (minutes (neg_ℤ a.count))) None

abbrev pub minute_kind : Kind Minutes
minute_kind = record {
  zero = minutes (pos 0);
  step = minutes (pos 1);
  size = λ a. unsigned_abs a.count;
  less = λ a b. int_lt a.count b.count;
  plus = minute_plus;
  opposite = minute_opposite;
}
