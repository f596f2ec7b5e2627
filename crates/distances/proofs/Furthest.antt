-- The furthest of what the points below a number offer, in an order that is given as a test. Assumes nothing.
--     Furthest before at From m x    x is offered below m and before no offer there
--     SoFar before at From m o      o is the furthest below m, or None where no point there has an entry
-- `at q` is the entry of q, and `From q x` says that q offers x.
use Rattle.std.proofs.Common.{◌≡◌, ℕ, zero, suc, ◌+◌, ◌<◌, Bool, true, false, cond, List, [], Some, None, Option, refl, sym, ◌∙◌, subst, inl, inr, add-zero, zero-add, arith, below_more, MatchOption}
use Rattle.std.specs.List.{reduce, fold, filter_map, cons_option, range_with_len}
use Rattle.std.specs.Cmp.{IsStrictWeakOrder}
use Rattle.std.proofs.lemmas.Bool.{cases_Bool}
use Rattle.distances.specs.Steps.{further}

pub never_both : {S A : Type 0} {o : Option S} {a : S} → o ≡ None → o ≡ Some a → A
never_both e f = let z : ◌≡◌ {A = ℕ} 0 1 = cc in absurd (omega arith)

module _ {S : Type 0} (before : S → S → Bool) (at : ℕ → Option S) (From : ℕ → S → Type 0) where
  -- q's entry has its offer, which x is not before
  abbrev pub Reached : S → ℕ → Type 0
  Reached x q = (e : S) → at q ≡ Some e → (y : S) × From q y × (before x y ≡ false)

  abbrev pub Furthest : ℕ → S → Type 0
  Furthest m x =
      ((q : ℕ) × (q < m) × From q x)
      × ((q : ℕ) (e : S) → q < m → at q ≡ Some e → (y : S) × From q y × (before x y ≡ false))

  abbrev pub NoEntry : ℕ → Type 0
  NoEntry m = (q : ℕ) → q < m → at q ≡ None

  abbrev pub SoFar : ℕ → Option S → Type 0
  SoFar m o = MatchOption o (NoEntry m) (Furthest m)

  -- what q offers, None where it has no entry
  abbrev pub Offer : ℕ → Option S → Type 0
  Offer q o = MatchOption o (at q ≡ None) (From q)

  pub nothing_yet : SoFar 0 None
  nothing_yet q h = absurd (omega arith)

  -- x, offered below m + 1, is before no offer below m and none at m
  furthest_more : (m : ℕ) (x : S) → ((q : ℕ) × (q < m + 1) × From q x) → ((q : ℕ) → q < m → Reached x q) → Reached x m → Furthest (m + 1) x
  furthest_more m x w below here = (w, λ q e l. below_more (Reached x) m below here q l e)

  module _ (ranks : IsStrictWeakOrder before) where
    not_before_itself : (x : S) → before x x ≡ false
    not_before_itself x = elim (cases_Bool (before x x)) [ inl h ↦ ranks.one_way x x h | inr h ↦ h ]

    -- One point more: the further of the furthest so far and of what the point offers.
    pub one_more : (m : ℕ) (o y : Option S) → SoFar m o → Offer m y → SoFar (m + 1) (further before o y)
    one_more m None None s w = below_more (λ q. at q ≡ None) m s w
    one_more m None (Some y) s w =
        furthest_more m y (m, omega arith, w) (λ q l e h. never_both (s q l) h) (λ e h. (y, w, not_before_itself y))
    one_more m (Some x) None ((q, l, f), h) w =
        furthest_more m x (q, omega arith, f) (λ r k e. h r e k) (λ e k. never_both w k)
    one_more m (Some x) (Some y) ((q, l, f), h) w = by_test (before x y) refl
      where
        passes : before x y ≡ true → (r : ℕ) → r < m → Reached y r
        passes t r k e u = let (z, g, n) = h r e k u in (z, g, ranks.chain y x z (ranks.one_way x y t) n)

        by_test : (t : Bool) → before x y ≡ t → SoFar (m + 1) (cond t (Some y) (Some x))
        by_test true t = furthest_more m y (m, omega arith, w) (passes t) (λ e k. (y, w, not_before_itself y))
        by_test false t = furthest_more m x (q, omega arith, f) (λ r k e. h r e k) (λ e k. (y, w, t))

    -- The furthest of what the points below m offer, taken in turn.
    module _ (offer : ℕ → Option S) where
      taken : Option S → List S → Option S
      taken best xs = reduce (λ x y. cond (before x y) y x) (cons_option best xs)

      taken_none : (best : Option S) → best ≡ taken best []
      unfolding taken
      taken_none None = refl
      taken_none (Some x) = refl

      taken_more : (best y : Option S) (xs : List S) → taken (further before best y) xs ≡ taken best (cons_option y xs)
      unfolding taken
      taken_more None y xs = refl
      taken_more (Some x) None xs = refl
      taken_more (Some x) (Some y) xs = by_test (before x y)
        where
          by_test : (t : Bool) → reduce (λ x y. cond (before x y) y x) (cons_option (cond t (Some y) (Some x)) xs) ≡ Some (fold (λ x y. cond (before x y) y x) (cond t y x) xs)
          by_test true = refl
          by_test false = refl

      taken_upto : (a n : ℕ) (best : Option S) → ((q : ℕ) → q < a + n → Offer q (offer q)) → SoFar a best
          → SoFar (a + n) (taken best (filter_map offer (range_with_len a n)))
      taken_upto a zero best offered s = subst (SoFar (a + 0)) (taken_none best) (subst (λ (k : ℕ). SoFar k best) (sym (add-zero a)) s)
      taken_upto a (suc n) best offered s =
          let more : SoFar ((a + 1) + n) (taken (further before best (offer a)) (filter_map offer (range_with_len (a + 1) n))) =
          taken_upto (a + 1) n (further before best (offer a)) (λ q l. offered q (omega arith)) (one_more a best (offer a) s (offered a (omega arith))) in
          let k : (a + 1) + n ≡ a + suc n = omega arith in
          subst (SoFar (a + suc n)) (taken_more best (offer a) (filter_map offer (range_with_len (a + 1) n)))
          (subst (λ (k : ℕ). SoFar k (taken (further before best (offer a)) (filter_map offer (range_with_len (a + 1) n)))) k more)

      pub furthest_of : (m : ℕ) → ((q : ℕ) → q < m → Offer q (offer q))
          → SoFar m (reduce (λ x y. cond (before x y) y x) (filter_map offer (range_with_len 0 m)))
      unfolding taken
      furthest_of m offered =
          subst (λ (k : ℕ). SoFar k (taken None (filter_map offer (range_with_len 0 m)))) (zero-add m)
          (taken_upto 0 m None (λ q l. offered q (omega arith)) nothing_yet)

  -- There is only one, if no point offers two: each is not before the other.
  pub only_one : ((q : ℕ) (x y : S) → From q x → From q y → x ≡ y) → ((q : ℕ) (x : S) → From q x → (e : S) × (at q ≡ Some e))
      → ((x y : S) → before x y ≡ false → before y x ≡ false → x ≡ y)
      → (m : ℕ) (x y : S) → Furthest m x → Furthest m y → x ≡ y
  only_one alike entered tie m x y ((q, l, f), h) ((r, k, g), i) =
      tie x y (not_after x y r k g h) (not_after y x q l f i)
    where
      not_after : (x y : S) (q : ℕ) → q < m → From q y → ((q : ℕ) (e : S) → q < m → at q ≡ Some e → (z : S) × From q z × (before x z ≡ false))
          → before x y ≡ false
      not_after x y q l f h =
          let (e, a) = entered q y f in
          let (z, g, n) = h q e l a in
          subst (λ (w : S). before x w ≡ false) (alike q z y g f) n

-- The same entries and offers below m have the same furthest.
module _ {S : Type 0} (before : S → S → Bool) (at same : ℕ → Option S) (From Same : ℕ → S → Type 0) (m : ℕ)
    (entries : (q : ℕ) → q < m → at q ≡ same q) (offers : (q : ℕ) (x : S) → q < m → From q x → Same q x) where
  pub furthest_same : (x : S) → Furthest before at From m x → Furthest before same Same m x
  furthest_same x ((q, l, f), h) =
      ((q, l, offers q x l f), λ r e k a. let (y, g, n) = h r e k (entries r k ∙ a) in (y, offers r y k g, n))
