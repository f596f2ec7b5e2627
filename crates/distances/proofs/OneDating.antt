-- The date rule gives one list of dates, and it goes by the entries and the dates before a point alone. Assumes nothing.
use Rattle.std.proofs.Common.{◌≡◌, ℕ, zero, suc, ◌+◌, ◌<◌, ◌≤◌, List, length, take, set, Some, sym, refl, ◌∙◌, subst, arith, length-take-le, get_or-set_other, get_or-take, get_or-set_same, ext_get_or, below_more}
use native.Mathlib.Decide.{ℕ_discrete}
use Rattle.std.specs.Cmp.{IsStrictWeakOrder}
use Rattle.std.proofs.lemmas.List.MinMax.{IsStrictWeakOrder-flip}
use Rattle.spans.specs.Kind.{Kind, Laws}
use Rattle.spans.specs.Order.{lt_le, le_trans, le_antisym}
use Rattle.networks.specs.Plan.{date}
use Rattle.distances.specs.Table.{Table}
use Rattle.distances.specs.DateRule.{EarliestFrom, LatestFrom, GreatestEarliest, LeastLatest, NoEarliest, NoLatest, Dated, at_earliest, at_latest, at_zero, ByDateRule}
use Rattle.distances.proofs.Furthest.{never_both, only_one, furthest_same}

-- ---- the order, and the order backwards
module _ {S : Type 0} {K : Kind S} (laws : Laws S K) where
  pub later_ranks : IsStrictWeakOrder K.less
  later_ranks = record {
    one_way = λ x y. lt_le laws;
    chain = λ x y z p q. le_trans laws q p;
  }

  pub earlier_ranks : IsStrictWeakOrder (λ x y. K.less y x)
  earlier_ranks = IsStrictWeakOrder-flip K.less later_ranks

-- ---- The same entries and the same dates before p date p the same.
module _ {S : Type 0} (K : Kind S) (entry other : Table S) (dates again : List S) (p : ℕ)
    (out_of_lem : (q : ℕ) → q < p → entry p q ≡ other p q) (into : (q : ℕ) → q < p → entry q p ≡ other q p)
    (before : (q : ℕ) → q < p → date K dates q ≡ date K again q) where
  earliest_same : (q : ℕ) (x : S) → q < p → EarliestFrom K entry dates p q x → EarliestFrom K other again p q x
  earliest_same q x l (e, f, a, b, c) =
      (e, f, sym (out_of_lem q l) ∙ a, b, subst (λ (y : S). K.plus y f ≡ Some x) (before q l) c)

  latest_same : (q : ℕ) (x : S) → q < p → LatestFrom K entry dates p q x → LatestFrom K other again p q x
  latest_same q x l (e, a, c) = (e, sym (into q l) ∙ a, subst (λ (y : S). K.plus y e ≡ Some x) (before q l) c)

  pub dated_same : (x : S) → Dated K entry dates p x → Dated K other again p x
  dated_same x (at_earliest g) =
      at_earliest (furthest_same K.less (entry p) (other p) (EarliestFrom K entry dates p) (EarliestFrom K other again p) p out_of_lem earliest_same x g)
  dated_same x (at_latest none l) =
      at_latest (λ q k. sym (out_of_lem q k) ∙ none q k)
      (furthest_same (λ a b. K.less b a) (λ q. entry q p) (λ q. other q p) (LatestFrom K entry dates p) (LatestFrom K other again p) p into latest_same x l)
  dated_same x (at_zero none neither) = at_zero (λ q k. sym (out_of_lem q k) ∙ none q k) (λ q k. sym (into q k) ∙ neither q k)

-- ---- The points below a number, with the same dates before each.
abbrev pub DatedBelow : {S : Type 0} → Kind S → Table S → List S → ℕ → Type 0
DatedBelow K d dates m = (p : ℕ) → p < m → Dated K d dates p (date K dates p)

module _ {S : Type 0} (K : Kind S) (d : Table S) (old new : List S) (m : ℕ)
    (before : (q : ℕ) → q < m → date K old q ≡ date K new q) where
  pub dated_below_same : DatedBelow K d old m → DatedBelow K d new m
  dated_below_same each p l =
      subst (Dated K d new p) (before p l)
      (dated_same K d d old new p (λ q k. refl) (λ q k. refl) (λ q k. before q (omega arith)) (date K old p) (each p l))

  -- one point more
  pub dated_below_more : (x : S) → date K new m ≡ x → DatedBelow K d old m → Dated K d old m x → DatedBelow K d new (m + 1)
  dated_below_more x is each here =
      below_more (λ p. Dated K d new p (date K new p)) m (dated_below_same each)
      (subst (Dated K d new m) (sym is) (dated_same K d d old new m (λ q k. refl) (λ q k. refl) before x here))

-- ---- There is at most one date of p.
module _ {S : Type 0} {K : Kind S} (laws : Laws S K) (entry : Table S) (dates : List S) (p : ℕ) where
  never_earliest : {A : Type 0} {x : S} → GreatestEarliest K entry dates p p x → NoEarliest K entry dates p p → A
  never_earliest ((q, l, (e, f, a, b, c)), h) none = never_both (none q l) a

  never_latest : {A : Type 0} {x : S} → LeastLatest K entry dates p p x → NoLatest K entry dates p p → A
  never_latest ((q, l, (e, a, c)), h) none = never_both (none q l) a

  one_earliest : (q : ℕ) (x y : S) → EarliestFrom K entry dates p q x → EarliestFrom K entry dates p q y → x ≡ y
  one_earliest q x y (e, f, a, b, c) (e₁, f₁, a₁, b₁, c₁) =
      let s : e ≡ e₁ = cc in let t : f ≡ f₁ = cc in cc

  one_latest : (q : ℕ) (x y : S) → LatestFrom K entry dates p q x → LatestFrom K entry dates p q y → x ≡ y
  one_latest q x y (e, a, c) (e₁, a₁, c₁) = let s : e ≡ e₁ = cc in cc

  pub one_date : (x y : S) → Dated K entry dates p x → Dated K entry dates p y → x ≡ y
  one_date x y (at_earliest g) (at_earliest h) =
      only_one K.less (entry p) (EarliestFrom K entry dates p) one_earliest (λ q z (e, f, a, b, c). (e, a))
      (λ a b m n. le_antisym laws n m) p x y g h
  one_date x y (at_earliest g) (at_latest none l) = never_earliest g none
  one_date x y (at_earliest g) (at_zero none neither) = never_earliest g none
  one_date x y (at_latest none l) (at_earliest h) = never_earliest h none
  one_date x y (at_latest none l) (at_latest nor m) =
      only_one (λ a b. K.less b a) (λ q. entry q p) (LatestFrom K entry dates p) one_latest (λ q z (e, a, b). (e, a))
      (λ a b m n. le_antisym laws m n) p x y l m
  one_date x y (at_latest none l) (at_zero nor neither) = never_latest l neither
  one_date x y (at_zero none neither) (at_earliest h) = never_earliest h none
  one_date x y (at_zero none neither) (at_latest nor m) = never_latest m neither
  one_date x y (at_zero none neither) (at_zero nor either) = refl

-- ---- all points
module _ {S : Type 0} (K : Kind S) (entry other : Table S) (n : ℕ)
    (same : (i j : ℕ) → i < n → j < n → entry i j ≡ other i j) (dates : List S) where
  pub rule_same : ByDateRule K entry dates n → ByDateRule K other dates n
  rule_same rule = record {
    one_each = rule.one_each;
    each = λ p l. dated_same K entry other dates dates p (λ q k. same p q l (omega arith)) (λ q k. same q p (omega arith) l)
        (λ q k. refl) (date K dates p) (rule.each p l);
  }

module _ {S : Type 0} {K : Kind S} (laws : Laws S K) (entry other : Table S) (n : ℕ)
    (same : (i j : ℕ) → i < n → j < n → entry i j ≡ other i j) (dates again : List S) where
  -- the first m points, by the dates before each
  same_upto : ByDateRule K entry dates n → ByDateRule K other again n → (m : ℕ) → m ≤ n → (q : ℕ) → q < m → date K dates q ≡ date K again q
  same_upto rule more zero h q l = absurd (omega arith)
  same_upto rule more (suc m) h q l = elim (ℕ_discrete q m) [
    | yes e ↦ subst (λ (r : ℕ). date K dates r ≡ date K again r) (sym e)
        (one_date laws other again m (date K dates m) (date K again m)
        (dated_same K entry other dates again m (λ r k. same m r h (omega arith)) (λ r k. same r m (omega arith) h)
        (same_upto rule more m (omega arith)) (date K dates m) (rule.each m h))
        (more.each m h))
    | no e ↦ same_upto rule more m (omega arith) q (omega arith)
  ]

  pub one_dates : ByDateRule K entry dates n → ByDateRule K other again n → dates ≡ again
  one_dates rule more =
      ext_get_or K.zero dates again (rule.one_each ∙ sym more.one_each)
      (λ p l. same_upto rule more n (omega arith) p (omega (arith, rule.one_each)))

-- ---- The dates at the front of a list.
module _ {S : Type 0} (K : Kind S) (d : Table S) (dates : List S) where
  pub written_more : (p : ℕ) (x : S) → p < length dates → DatedBelow K d dates p → Dated K d dates p x → DatedBelow K d (set dates p x) (p + 1)
  written_more p x h =
      dated_below_more K d dates (set dates p x) p (λ q l. sym (get_or-set_other dates p q x K.zero (λ e. omega arith))) x
      (get_or-set_same dates p x K.zero h)

  pub rule_at_front : (n : ℕ) → n ≤ length dates → DatedBelow K d dates n → ByDateRule K d (take n dates) n
  rule_at_front n h each = record {
    one_each = length-take-le n dates h;
    each = dated_below_same K d dates (take n dates) n (λ q l. sym (get_or-take n dates q K.zero l)) each;
  }
