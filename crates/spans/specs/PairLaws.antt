-- A pair of two kinds shows the laws, from those of its parts. Assumes nothing.
use Rattle.std.specs.Prelude.{◌≡◌, Bool, true, false, not, ◌&&◌, ◌||◌, ◌⊎◌, is_some, Some, None, Option, ◌≢◌, refl}
use Rattle.std.specs.declared.cmp.Ordering.{Ordering}
use Rattle.std.specs.declared.cmp.Ordering.TheVariants.{Less, Equal, Greater}
use Rattle.std.specs.Ordering.{is_lt, ordering_reverse, ordering_then}
use Rattle.std.specs.Cmp.{IsTotalOrder}
use Rattle.std.proofs.Common.{sym, ap, ◌∙◌, inl, inr, arith}
use Rattle.std.proofs.lemmas.Bool.{le-leb, leb-true}
use Rattle.spans.specs.Kind.{Kind, Laws, OnlyWithin, OrderedBy, Compared, is_less, is_same, is_greater}
use Rattle.spans.specs.PairKind.{pair, both, pair_less, pair_plus, pair_opposite, pair_kind}
use Rattle.spans.specs.declared.pair.Pair.{Pair}
use Rattle.spans.specs.Parts.{guard_value, guard_there, guard_test, one_of_three}
use Rattle.spans.specs.Order.{irrefl, le_refl, le_antisym}

-- ---- both parts
module _ {A B : Type 0} where
  both_first : (x : Option A) (y : Option B) (p : Pair A B) → both x y ≡ Some p → x ≡ Some p.first
  both_first None y p e = absurd (grind arith)
  both_first (Some x) None p e = absurd (grind arith)
  both_first (Some x) (Some y) p e = let h : pair x y ≡ p = cc in ap (λ (q : Pair A B). Some q.first) h

  both_second : (x : Option A) (y : Option B) (p : Pair A B) → both x y ≡ Some p → y ≡ Some p.second
  both_second None y p e = absurd (grind arith)
  both_second (Some x) None p e = absurd (grind arith)
  both_second (Some x) (Some y) p e = let h : pair x y ≡ p = cc in ap (λ (q : Pair A B). Some q.second) h

  both_there : (x : Option A) (y : Option B) → is_some x ≡ true → is_some y ≡ true → is_some (both x y) ≡ true
  both_there None y e f = e
  both_there (Some x) None e f = f
  both_there (Some x) (Some y) e f = refl

  there_both : (x : Option A) (y : Option B) → is_some (both x y) ≡ true → (is_some x ≡ true) × (is_some y ≡ true)
  there_both None y e = absurd (grind arith)
  there_both (Some x) None e = absurd (grind arith)
  there_both (Some x) (Some y) e = (refl, refl)

  same_pair : (p q : Pair A B) → p.first ≡ q.first → p.second ≡ q.second → p ≡ q
  same_pair p q e f = ap (λ (x : A). pair x p.second) e ∙ ap (λ (y : B). pair q.first y) f

-- ---- what the two tests of the first part leave
first_decides : (l g m : Bool) → l ≡ true → (l || (not g && m)) ≡ true
first_decides true g m e = refl
first_decides false g m e = absurd (grind arith)

second_decides : (l g m : Bool) → l ≡ false → g ≡ false → m ≡ true → (l || (not g && m)) ≡ true
second_decides l g m e f h = grind arith

decided : (l g m : Bool) → (l || (not g && m)) ≡ true → (l ≡ true) ⊎ ((l ≡ false) × (g ≡ false) × (m ≡ true))
decided true g m e = inl refl
decided false true m e = absurd (grind arith)
decided false false true e = inr (refl, refl, refl)
decided false false false e = absurd (grind arith)

module _ {A B : Type 0} (KA : Kind A) (KB : Kind B) where
  sum_first : (p q x : Pair A B) → pair_plus KA KB p q ≡ Some x → KA.plus p.first q.first ≡ Some x.first
  sum_first p q x e =
      both_first (KA.plus p.first q.first) (KB.plus p.second q.second) x (guard_value _ _ x e)

  sum_second : (p q x : Pair A B) → pair_plus KA KB p q ≡ Some x → KB.plus p.second q.second ≡ Some x.second
  sum_second p q x e =
      both_second (KA.plus p.first q.first) (KB.plus p.second q.second) x (guard_value _ _ x e)

  opposite_first : (p q : Pair A B) → pair_opposite KA KB p ≡ Some q → KA.opposite p.first ≡ Some q.first
  opposite_first p q e = both_first (KA.opposite p.first) (KB.opposite p.second) q e

  opposite_second : (p q : Pair A B) → pair_opposite KA KB p ≡ Some q → KB.opposite p.second ≡ Some q.second
  opposite_second p q e = both_second (KA.opposite p.first) (KB.opposite p.second) q e

  module _ (la : Laws A KA) (lb : Laws B KB) where
    less_by_first : (p q : Pair A B) → KA.less p.first q.first ≡ true → pair_less KA KB p q ≡ true
    less_by_first p q h = first_decides _ (KA.less q.first p.first) (KB.less p.second q.second) h

    less_by_second : (p q : Pair A B) → p.first ≡ q.first → KB.less p.second q.second ≡ true → pair_less KA KB p q ≡ true
    less_by_second p q e h =
        second_decides (KA.less p.first q.first) (KA.less q.first p.first) (KB.less p.second q.second)
        (rw e (le_refl la)) (rw e (le_refl la)) h

    less_ways : (p q : Pair A B) → pair_less KA KB p q ≡ true
        → (KA.less p.first q.first ≡ true) ⊎ ((p.first ≡ q.first) × (KB.less p.second q.second ≡ true))
    less_ways p q h =
        elim (decided (KA.less p.first q.first) (KA.less q.first p.first) (KB.less p.second q.second) h) [
          | inl l ↦ inl l
          | inr w ↦ inr (le_antisym la w.1 w.0, w.2)
        ]

    never_itself : (p : Pair A B) → pair_less KA KB p p ≢ true
    never_itself p h = elim (less_ways p p h) [ inl l ↦ irrefl la l | inr w ↦ irrefl lb w.1 ]

    over : (p q r : Pair A B) → pair_less KA KB p q ≡ true → pair_less KA KB q r ≡ true → pair_less KA KB p r ≡ true
    over p q r h k =
        elim (less_ways p q h) [
          | inl l ↦ elim (less_ways q r k) [
            | inl m ↦ less_by_first p r (la.carries_over _ _ _ l m)
            | inr m ↦ less_by_first p r (rw m.0 at l)
          ]
          | inr l ↦ elim (less_ways q r k) [
            | inl m ↦ less_by_first p r (rw l.0 m)
            | inr m ↦ less_by_second p r (l.0 ∙ m.0) (lb.carries_over _ _ _ l.1 m.1)
          ]
        ]

    three_second : (p q : Pair A B) → p.first ≡ q.first → Compared KB p.second q.second
        → (pair_less KA KB p q ≡ true) ⊎ ((p ≡ q) ⊎ (pair_less KA KB q p ≡ true))
    three_second p q e (is_less h n k) = inl (less_by_second p q e h)
    three_second p q e (is_same h n k) = inr (inl (same_pair p q e n))
    three_second p q e (is_greater h n k) = inr (inr (less_by_second q p (sym e) k))

    three : (p q : Pair A B) → Compared KA p.first q.first
        → (pair_less KA KB p q ≡ true) ⊎ ((p ≡ q) ⊎ (pair_less KA KB q p ≡ true))
    three p q (is_less h n k) = inl (less_by_first p q h)
    three p q (is_same h n k) = three_second p q n (lb.compared p.second q.second)
    three p q (is_greater h n k) = inr (inr (less_by_first q p k))

    pub pair_laws : Laws (Pair A B) (pair_kind KA KB)
    pair_laws = record {
      sum_there = λ p q h. guard_there _ _ (le-leb _ _ h) (both_there _ _ (la.sum_there _ _ (omega arith)) (lb.sum_there _ _ (omega arith)));
      opposite_there = λ p h. both_there _ _ (la.opposite_there _ (omega arith)) (lb.opposite_there _ (omega arith));
      compared = λ p q. one_of_three (pair_kind KA KB) never_itself over p q (three p q (la.compared _ _));
      carries_over = over;
      commutes = λ p q x y h k. same_pair x y
          (la.commutes _ _ _ _ (sum_first p q x h) (sum_first q p y k))
          (lb.commutes _ _ _ _ (sum_second p q x h) (sum_second q p y k));
      associates = λ p q r pq qr x y h i j k. same_pair x y
          (la.associates _ _ _ _ _ _ _ (sum_first p q pq h) (sum_first q r qr i) (sum_first pq r x j) (sum_first p qr y k))
          (lb.associates _ _ _ _ _ _ _ (sum_second p q pq h) (sum_second q r qr i) (sum_second pq r x j) (sum_second p qr y k));
      zero_adds_nothing = λ p x h. same_pair x p
          (la.zero_adds_nothing _ _ (sum_first p _ x h)) (lb.zero_adds_nothing _ _ (sum_second p _ x h));
      opposites_cancel = λ p q x h k. same_pair x _
          (la.opposites_cancel _ _ _ (opposite_first p q h) (sum_first p q x k))
          (lb.opposites_cancel _ _ _ (opposite_second p q h) (sum_second p q x k));
      sum_keeps_order = λ p q r x y h i j. elim (less_ways p q h) [
        | inl l ↦ less_by_first x y (la.sum_keeps_order _ _ _ _ _ l (sum_first p r x i) (sum_first q r y j))
        | inr w ↦ less_by_second x y
            (let f = sum_first p r x i in let g = sum_first q r y j in let e = w.0 in cc)
            (lb.sum_keeps_order _ _ _ _ _ w.1 (sum_second p r x i) (sum_second q r y j))
      ];
      zero_size = omega (arith, la.zero_size, lb.zero_size);
      opposite_size = λ p q h. omega (arith, la.opposite_size _ _ (opposite_first p q h), lb.opposite_size _ _ (opposite_second p q h));
      sum_size = λ p q x h. omega (arith, la.sum_size _ _ _ (sum_first p q x h), lb.sum_size _ _ _ (sum_second p q x h));
      step_above_zero = less_by_second _ _ refl lb.step_above_zero;
      step_size = omega (arith, la.zero_size, lb.step_size);
    }

  pub pair_within : OnlyWithin A KA → OnlyWithin B KB → OnlyWithin (Pair A B) (pair_kind KA KB)
  pair_within wa wb = record {
    no_other_sum = λ p q h. leb-true _ _ (guard_test _ (both (KA.plus p.first q.first) (KB.plus p.second q.second)) h);
    no_other_opposite = λ p h.
        let t = there_both (KA.opposite p.first) (KB.opposite p.second) h in
        omega (arith, wa.no_other_opposite p.first t.0, wb.no_other_opposite p.second t.1);
  }

-- ---- the order of a pair is the comparison of its parts, one after the other
then_less : (r s t : Ordering) → s ≡ ordering_reverse r → is_lt (ordering_then r t) ≡ (is_lt r || (not (is_lt s) && is_lt t))
then_less Less s t e = refl
then_less Equal s t e = rw e refl
then_less Greater s t e = rw e refl

pub pair_ordered : {A B : Type 0} (KA : Kind A) (KB : Kind B) (RA : A → A → Ordering) (RB : B → B → Ordering)
    → IsTotalOrder RA → OrderedBy KA RA → OrderedBy KB RB
    → OrderedBy (pair_kind KA KB) (λ (p q : Pair A B). ordering_then (RA p.first q.first) (RB p.second q.second))
pair_ordered {A} {B} KA KB RA RB o ha hb p q =
    then_less (RA p.first q.first) (RA q.first p.first) (RB p.second q.second) (o.antisymm q.first p.first)
    ∙ ap (λ (b : Bool). b || (not (is_lt (RA q.first p.first)) && is_lt (RB p.second q.second))) (ha p.first q.first)
    ∙ ap (λ (b : Bool). KA.less p.first q.first || (not b && is_lt (RB p.second q.second))) (ha q.first p.first)
    ∙ ap (λ (b : Bool). KA.less p.first q.first || (not (KA.less q.first p.first) && b)) (hb p.second q.second)
