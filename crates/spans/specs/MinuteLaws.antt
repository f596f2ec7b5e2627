-- Minutes show the laws: each is one of whole numbers. Assumes nothing.
use Rattle.std.specs.Prelude.{◌≡◌, ◌+◌, ◌≤◌, Bool, true, false, cond, ◌⊎◌, ℤ, pos, ◌+ℤ◌, neg_ℤ, Some, ◌≢◌, int_lt, unsigned_abs, refl}
use Rattle.std.specs.declared.cmp.Ordering.TheVariants.{Less, Equal, Greater}
use Rattle.std.specs.Ordering.{is_lt, int_cmp}
use Rattle.std.proofs.Common.{ap, ◌∙◌, inl, inr, arith}
use Rattle.std.proofs.lemmas.Int.{by_lt_z, ints}
use Rattle.std.proofs.lemmas.Bool.{le-leb, leb-true}
use Rattle.spans.specs.Kind.{Laws, OnlyWithin, OrderedBy}
use Rattle.spans.specs.MinuteKind.{minutes, minute_plus, minute_opposite, minute_kind}
use Rattle.spans.specs.declared.minutes.Minutes.{Minutes}
use Rattle.spans.specs.Parts.{guard_value, guard_there, guard_test, one_of_three}

sum_is : (a b x : Minutes) → minute_plus a b ≡ Some x → x.count ≡ a.count +ℤ b.count
sum_is a b x e = let s = guard_value _ (Some (minutes (a.count +ℤ b.count))) x e in ap (λ (m : Minutes). m.count) (cc)

opposite_is : (a b : Minutes) → minute_opposite a ≡ Some b → b.count ≡ neg_ℤ a.count
opposite_is a b e = let s = guard_value _ (Some (minutes (neg_ℤ a.count))) b e in ap (λ (m : Minutes). m.count) (cc)

never_itself : (a : ℤ) → int_lt a a ≢ true
never_itself a h = omega (arith, ints)

over : (a b c : ℤ) → int_lt a b ≡ true → int_lt b c ≡ true → int_lt a c ≡ true
over a b c h k = grind (arith, ints)

three : (a b : ℤ) → (int_lt a b ≡ true) ⊎ ((minutes a ≡ minutes b) ⊎ (int_lt b a ≡ true))
three a b =
    by_lt_z a b (λ h. inl (grind (arith, ints)))
    (λ h. by_lt_z b a (λ k. inr (inr (grind (arith, ints)))) (λ k. inr (inl (ap minutes (omega (arith, ints))))))

keeps : (a b c x y : ℤ) → int_lt a b ≡ true → x ≡ a +ℤ c → y ≡ b +ℤ c → int_lt x y ≡ true
keeps a b c x y h p q = grind (arith, ints)

size_opposite : (a : ℤ) → unsigned_abs (neg_ℤ a) ≡ unsigned_abs a
size_opposite a = omega (arith, ints)

size_sum : (a b x : ℤ) → x ≡ a +ℤ b → unsigned_abs x ≤ unsigned_abs a + unsigned_abs b
size_sum a b x e = omega (arith, ints)

pub minute_laws : Laws Minutes minute_kind
minute_laws = record {
  sum_there = λ a b h. guard_there _ (Some (minutes (a.count +ℤ b.count))) (le-leb _ _ h) refl;
  opposite_there = λ a h. guard_there _ (Some (minutes (neg_ℤ a.count))) (le-leb _ _ h) refl;
  compared = λ a b. one_of_three minute_kind (λ m. never_itself m.count) (λ m n o. over m.count n.count o.count) a b (three a.count b.count);
  carries_over = λ a b c. over a.count b.count c.count;
  commutes = λ a b x y p q. ap minutes (omega (arith, ints, sum_is a b x p, sum_is b a y q));
  associates = λ a b c ab bc x y p q r s. ap minutes (omega (arith, ints, sum_is a b ab p, sum_is b c bc q, sum_is ab c x r, sum_is a bc y s));
  zero_adds_nothing = λ a x p. ap minutes (omega (arith, ints, sum_is a (minutes (pos 0)) x p));
  opposites_cancel = λ a b x p q. ap minutes (omega (arith, ints, opposite_is a b p, sum_is a b x q));
  sum_keeps_order = λ a b c x y h p q. keeps a.count b.count c.count x.count y.count h (sum_is a c x p) (sum_is b c y q);
  zero_size = refl;
  opposite_size = λ a b p. ap unsigned_abs (opposite_is a b p) ∙ size_opposite a.count;
  sum_size = λ a b x p. size_sum a.count b.count x.count (sum_is a b x p);
  step_above_zero = refl;
  step_size = refl;
}

pub minute_within : OnlyWithin Minutes minute_kind
minute_within = record {
  no_other_sum = λ a b h. leb-true _ _ (guard_test _ (Some (minutes (a.count +ℤ b.count))) h);
  no_other_opposite = λ a h. leb-true _ _ (guard_test _ (Some (minutes (neg_ℤ a.count))) h);
}

-- whole numbers are compared by their order
lt_of_int_cmp : (a b : ℤ) → is_lt (int_cmp a b) ≡ int_lt a b
lt_of_int_cmp a b = by_tests (int_lt a b) (int_lt b a)
  where
    by_tests : (l g : Bool) → is_lt (cond l Less (cond g Greater Equal)) ≡ l
    by_tests true g = refl
    by_tests false true = refl
    by_tests false false = refl

pub minute_ordered : OrderedBy minute_kind (λ (a b : Minutes). int_cmp a.count b.count)
minute_ordered a b = lt_of_int_cmp a.count b.count
