-- On a table whose closing is done there are dates by the date rule, they are small, and they keep every entry. Assumes nothing.
-- Every premise is one about sizes: with entries of size at most b, point p's date has at most the size p×b.
use Rattle.std.proofs.Common.{◌≡◌, ℕ, zero, suc, ◌+◌, ◌*◌, ◌<◌, ◌≤◌, List, [], ◌∷◌, ◌++◌, Some, None, Option, cond, unwrap_or, sym, refl, ap, ◌∙◌, subst, mul-le-mul_right, suc-mul, arith}
use native.Mathlib.Decide.{ℕ_discrete}
use Rattle.std.specs.List.{reduce, filter_map, range_with_len}
use Rattle.std.proofs.lemmas.List.{length_push, get_or_push, get_or_append_left}
use Rattle.spans.specs.Kind.{Kind, Laws, reach, ◌≤⟨◌⟩◌}
use Rattle.spans.specs.Sums.{◌⊕⟨◌⟩◌, ⊖⟨◌⟩◌}
use Rattle.spans.specs.Order.{le_trans, le_of_eq, le_refl}
use Rattle.spans.proofs.Group.{sum_some, sum_size, assoc, zero_right, opposite_some, opposite_size, le_sums, take_away, give_back}
use Rattle.networks.specs.Plan.{date}
use Rattle.distances.specs.Table.{Table, joined, Small, Done}
use Rattle.distances.specs.Steps.{earliest, latest, GreatestSoFar, LeastSoFar}
use Rattle.distances.specs.DateRule.{EarliestFrom, LatestFrom, Dated, at_earliest, at_latest, at_zero, ByDateRule}
use Rattle.distances.proofs.Tables.{is_there}
use Rattle.distances.proofs.Furthest.{never_both, Offer, furthest_of}
use Rattle.distances.proofs.OneDating.{later_ranks, earlier_ranks, DatedBelow, dated_below_more}

-- ---- numbers
times_below : (q p b : ℕ) → q < p → q * b + b ≤ p * b
times_below q p b l = omega (arith, suc-mul q b, mul-le-mul_right {m = suc q} {n = p} b l)

module _ {S : Type 0} {K : Kind S} (laws : Laws S K) where
  -- ---- sums and differences
  sum_is : {a b x : S} → K.plus a b ≡ Some x → a ⊕⟨ K ⟩ b ≡ x
  sum_is e = ap (λ (o : Option S). unwrap_or o K.zero) e

  opposite_is : {a x : S} → K.opposite a ≡ Some x → ⊖⟨ K ⟩ a ≡ x
  opposite_is e = ap (λ (o : Option S). unwrap_or o K.zero) e

  -- ---- what a point before p offers
  module _ (d : Table S) (dates : List S) (p : ℕ) where
    earliest_there : (q : ℕ) (e : S) → d p q ≡ Some e → K.size (date K dates q) + K.size e ≤ reach
        → EarliestFrom K d dates p q (date K dates q ⊕⟨ K ⟩ (⊖⟨ K ⟩ e))
    earliest_there q e a h =
        (e, ⊖⟨ K ⟩ e, a, opposite_some laws e (omega arith), sum_some laws (date K dates q) (⊖⟨ K ⟩ e) (omega (arith, opposite_size laws e)))

    latest_there : (q : ℕ) (e : S) → d q p ≡ Some e → K.size (date K dates q) + K.size e ≤ reach
        → LatestFrom K d dates p q (date K dates q ⊕⟨ K ⟩ e)
    latest_there q e a h = (e, a, sum_some laws (date K dates q) e h)

    offers_earliest : (q : ℕ) (o : Option S) → d p q ≡ o → ((e : S) → o ≡ Some e → K.size (date K dates q) + K.size e ≤ reach)
        → Offer K.less (d p) (EarliestFrom K d dates p) q (earliest K (date K dates q) o)
    unfolding earliest_there
    offers_earliest q None a h = a
    offers_earliest q (Some e) a h =
        let w = earliest_there q e a (h e refl) in
        let is : earliest K (date K dates q) (Some e) ≡ Some (date K dates q ⊕⟨ K ⟩ (⊖⟨ K ⟩ e)) = ap (joined K (Some (date K dates q))) w.3 ∙ w.4 in
        subst (Offer K.less (d p) (EarliestFrom K d dates p) q) (sym is) w

    offers_latest : (q : ℕ) (o : Option S) → d q p ≡ o → ((e : S) → o ≡ Some e → K.size (date K dates q) + K.size e ≤ reach)
        → Offer (λ x y. K.less y x) (λ r. d r p) (LatestFrom K d dates p) q (latest K (date K dates q) o)
    unfolding latest_there
    offers_latest q None a h = a
    offers_latest q (Some e) a h =
        let w = latest_there q e a (h e refl) in
        subst (Offer (λ x y. K.less y x) (λ r. d r p) (LatestFrom K d dates p) q) (sym w.2) w

    -- with entries of size b at most, near enough to every date before p
    module _ (b : ℕ) (small : Small K d b) (near : (q : ℕ) → q < p → K.size (date K dates q) + b ≤ reach) where
      -- the greatest earliest date is the latest of what the points before p offer, in turn
      pub greatest_of : GreatestSoFar K d dates p p
          (reduce (λ x y. cond (K.less x y) y x) (filter_map (λ q. earliest K (date K dates q) (d p q)) (range_with_len 0 p)))
      greatest_of =
          furthest_of K.less (d p) (EarliestFrom K d dates p) (later_ranks laws) (λ q. earliest K (date K dates q) (d p q)) p
          (λ q l. offers_earliest q (d p q) refl (λ e a. omega (arith, small p q e a, near q l)))

      -- and the least latest one the earliest of those
      pub least_of : LeastSoFar K d dates p p
          (reduce (λ x y. cond (K.less y x) y x) (filter_map (λ q. latest K (date K dates q) (d q p)) (range_with_len 0 p)))
      least_of =
          furthest_of (λ x y. K.less y x) (λ q. d q p) (LatestFrom K d dates p) (earlier_ranks laws) (λ q. latest K (date K dates q) (d q p)) p
          (λ q l. offers_latest q (d q p) refl (λ e a. omega (arith, small q p e a, near q l)))

      -- p has a date: the furthest either way, or zero
      date_there : (x : S) × Dated K d dates p x
      date_there = chosen _ _ greatest_of least_of
        where
          chosen : (o r : Option S) → GreatestSoFar K d dates p p o → LeastSoFar K d dates p p r → (x : S) × Dated K d dates p x
          chosen (Some x) r up down = (x, at_earliest up)
          chosen None (Some x) up down = (x, at_latest up down)
          chosen None None up down = (K.zero, at_zero up down)

    -- its size, by one entry from an earlier date
    pub dated_size : (b : ℕ) → Small K d b → ((q : ℕ) → q < p → K.size (date K dates q) ≤ q * b)
        → (x : S) → Dated K d dates p x → K.size x ≤ p * b
    dated_size b small near x (at_earliest ((q, l, (e, f, a, o, s)), h)) =
        omega (arith, times_below q p b l, near q l, small p q e a, laws.opposite_size e f o, laws.sum_size _ f x s)
    dated_size b small near x (at_latest none ((q, l, (e, a, s)), h)) =
        omega (arith, times_below q p b l, near q l, small q p e a, laws.sum_size _ e x s)
    dated_size b small near x (at_zero none neither) = omega (arith, laws.zero_size)

  -- dates below m have the size that their number says
  pub dates_small : (d : Table S) (b : ℕ) → Small K d b → (dates : List S) (m : ℕ) → DatedBelow K d dates m
      → (p : ℕ) → p < m → K.size (date K dates p) ≤ p * b
  dates_small d b small dates zero each p l = absurd (omega arith)
  dates_small d b small dates (suc m) each p l =
      let before : (q : ℕ) → q < m → K.size (date K dates q) ≤ q * b = dates_small d b small dates m (λ q k. each q (omega arith)) in
      elim (ℕ_discrete p m) [
        | yes e ↦ subst (λ (q : ℕ). K.size (date K dates q) ≤ q * b) (sym e) (dated_size d dates m b small before _ (each m (omega arith)))
        | no e ↦ before p (omega arith)
      ]

  module _ (d : Table S) (n b : ℕ) (done : Done K n b d) (room : 8 * (n * b) ≤ reach) where
    -- one point more: what p's date keeps, if the dates before p keep the entries among themselves
    module _ (dates : List S) (p : ℕ) (within : p < n) (near : (q : ℕ) → q < p → K.size (date K dates q) ≤ q * b)
        (kept : (i j : ℕ) (a : S) → i < p → j < p → d i j ≡ Some a → date K dates j ≤⟨ K ⟩ (date K dates i ⊕⟨ K ⟩ a)) where
      date_size : (q : ℕ) → q < p → K.size (date K dates q) + b ≤ n * b
      date_size q l = omega (arith, near q l, times_below q n b (omega arith))

      -- An entry c into p and the entry a that sets the date lead from q to r, so r's date is not above q's plus c + a.
      keeps_into : (x : S) → Dated K d dates p x → (q : ℕ) (c : S) → q < p → d q p ≡ Some c → x ≤⟨ K ⟩ (date K dates q ⊕⟨ K ⟩ c)
      keeps_into x (at_earliest ((r, k, (a, f, h, o, s)), bound)) q c l y =
          let (g, z, low) = is_there laws (d q r) (c ⊕⟨ K ⟩ a) (done.closed q p r c a y h) in
          let sq : K.size (date K dates q) + b ≤ n * b = date_size q l in
          let sr : K.size (date K dates r) + b ≤ n * b = date_size r k in
          let sc : K.size c ≤ b = done.small q p c y in
          let sa : K.size a ≤ b = done.small p r a h in
          let sg : K.size g ≤ b = done.small q r g z in
          let sca : K.size (c ⊕⟨ K ⟩ a) ≤ K.size c + K.size a = sum_size laws c a in
          let sqc : K.size (date K dates q ⊕⟨ K ⟩ c) ≤ K.size (date K dates q) + K.size c = sum_size laws (date K dates q) c in
          let far : date K dates r ≤⟨ K ⟩ ((date K dates q ⊕⟨ K ⟩ c) ⊕⟨ K ⟩ a) =
          rw (assoc laws (date K dates q) c a (omega arith))
          (le_trans laws (kept q r g l k z)
          (le_sums laws (date K dates q) (date K dates q) g (c ⊕⟨ K ⟩ a) (omega arith) (omega arith) (omega arith) (le_refl laws) low)) in
          let is : date K dates r ⊕⟨ K ⟩ (⊖⟨ K ⟩ a) ≡ x = ap (λ (v : S). date K dates r ⊕⟨ K ⟩ v) (opposite_is o) ∙ sum_is s in
          subst (λ (v : S). v ≤⟨ K ⟩ (date K dates q ⊕⟨ K ⟩ c)) is
          (take_away laws (date K dates r) (date K dates q ⊕⟨ K ⟩ c) a (omega arith) far)
      keeps_into x (at_latest none (w, bound)) q c l y =
          let (z, (e, h, s), low) = bound q c l y in
          let same : e ≡ c = cc in
          subst (λ (v : S). x ≤⟨ K ⟩ v) (sym (sum_is (rw same at s))) low
      keeps_into x (at_zero none neither) q c l y = never_both (neither q l) y

      -- An entry a out of p bounds p's date from below, since the rule took the greatest.
      keeps_out : (x : S) → Dated K d dates p x → (q : ℕ) (a : S) → q < p → d p q ≡ Some a → date K dates q ≤⟨ K ⟩ (x ⊕⟨ K ⟩ a)
      keeps_out x (at_earliest (w, bound)) q a l y =
          let (z, (e, f, h, o, s), low) = bound q a l y in
          let same : e ≡ a = cc in
          let is : date K dates q ⊕⟨ K ⟩ (⊖⟨ K ⟩ a) ≡ z = ap (λ (v : S). date K dates q ⊕⟨ K ⟩ v) (opposite_is (rw same at o)) ∙ sum_is s in
          let sq : K.size (date K dates q) + b ≤ n * b = date_size q l in
          let sa : K.size a ≤ b = done.small p q a y in
          let sx : K.size x ≤ p * b = dated_size d dates p b done.small near x (at_earliest (w, bound)) in
          give_back laws (date K dates q) x a (omega (arith, times_below p n b within)) (subst (λ (v : S). v ≤⟨ K ⟩ x) (sym is) low)
      keeps_out x (at_latest none l) q a k y = never_both (none q k) y
      keeps_out x (at_zero none neither) q a k y = never_both (none q k) y

      -- the entry from p to itself is zero
      keeps_itself : (a : S) → K.size (date K dates p) ≤ n * b → d p p ≡ Some a → date K dates p ≤⟨ K ⟩ (date K dates p ⊕⟨ K ⟩ a)
      keeps_itself a h y =
          let z = done.diagonal p within in
          let is : a ≡ K.zero = cc in
          le_of_eq laws (sym (ap (λ (v : S). date K dates p ⊕⟨ K ⟩ v) is ∙ zero_right laws (date K dates p) (omega arith)))

      -- so the dates of p and of the points before it keep the entries among them
      keeps_more : Dated K d dates p (date K dates p) → (i j : ℕ) (a : S) → i < suc p → j < suc p → d i j ≡ Some a
          → date K dates j ≤⟨ K ⟩ (date K dates i ⊕⟨ K ⟩ a)
      keeps_more here i j a k l y = by_points (ℕ_discrete i p) (ℕ_discrete j p)
        where
          by_points : Dec (i ≡ p) → Dec (j ≡ p) → date K dates j ≤⟨ K ⟩ (date K dates i ⊕⟨ K ⟩ a)
          by_points (no s) (no t) = kept i j a (omega arith) (omega arith) y
          by_points (no s) (yes t) = rw t (keeps_into (date K dates p) here i a (omega arith) (rw t at y))
          by_points (yes s) (no t) = rw s (keeps_out (date K dates p) here j a (omega arith) (rw s at y))
          by_points (yes s) (yes t) =
              rw (s, t) (keeps_itself a (omega (arith, dated_size d dates p b done.small near _ here, times_below p n b within)) (rw (s, t) at y))

    -- the dates of the points below m keep every entry among them
    keeps_below : (dates : List S) → DatedBelow K d dates n → (m : ℕ) → m ≤ n
        → (i j : ℕ) (a : S) → i < m → j < m → d i j ≡ Some a → date K dates j ≤⟨ K ⟩ (date K dates i ⊕⟨ K ⟩ a)
    keeps_below dates each zero h = λ i j a k. absurd (omega arith)
    keeps_below dates each (suc m) h =
        keeps_more dates m h (dates_small d b done.small dates m (λ q l. each q (omega arith))) (keeps_below dates each m (omega arith)) (each m h)

    -- Dates by the rule are small, and keep every entry: point by point.
    pub rule_keeps : (dates : List S) → ByDateRule K d dates n
        → ((p : ℕ) → p < n → K.size (date K dates p) ≤ p * b)
        × ((i j : ℕ) (a : S) → i < n → j < n → d i j ≡ Some a → date K dates j ≤⟨ K ⟩ (date K dates i ⊕⟨ K ⟩ a))
    rule_keeps dates rule =
        (dates_small d b done.small dates n rule.each, keeps_below dates rule.each n (omega arith))

    -- no point comes before point 0
    pub first_zero : (dates : List S) → ByDateRule K d dates n → 0 < n → date K dates 0 ≡ K.zero
    first_zero dates rule h = by_rule (date K dates 0) (rule.each 0 h)
      where
        by_rule : (x : S) → Dated K d dates 0 x → x ≡ K.zero
        by_rule x (at_earliest ((q, l, w), g)) = absurd (omega arith)
        by_rule x (at_latest none ((q, l, w), g)) = absurd (omega arith)
        by_rule x (at_zero none neither) = refl

    -- the first m points have dates: each date is put behind those before it
    dates_upto : (m : ℕ) → m ≤ n → (dates : List S) × ByDateRule K d dates m
    dates_upto zero h = ([], record { one_each = refl; each = λ p l. absurd (omega arith) })
    dates_upto (suc m) h =
        let (dates, rule) = dates_upto m (omega arith) in
        let (x, here) = date_there d dates m b done.small
        (λ q l. omega (arith, dates_small d b done.small dates m rule.each q l, times_below q n b (omega arith))) in
        let before : (q : ℕ) → q < m → date K dates q ≡ date K (dates ++ (x ∷ [])) q =
        λ q l. sym (get_or_append_left dates (x ∷ []) K.zero q (omega (arith, rule.one_each))) in
        let each : DatedBelow K d (dates ++ (x ∷ [])) (m + 1) =
        dated_below_more K d dates (dates ++ (x ∷ [])) m before x (get_or_push dates x K.zero m rule.one_each) rule.each here in (
          dates ++ (x ∷ []),
          record {
            one_each = omega (arith, length_push dates x, rule.one_each);
            each = λ p l. each p (omega arith);
          },
        )

    -- There are dates by the rule: those of the first n points.
    pub rule_exists : (dates : List S) × ByDateRule K d dates n
    rule_exists = dates_upto n (omega arith)
