-- A stage takes the ways over k where they are shorter, and keeps a table closed. Assumes nothing.
--     Half d k p q c       c, the entry of (p, q) after the stage, was there before or is the sum of the ways to and from k
--     Staged K d k b       what a stage needs of the table before it
use Rattle.std.proofs.Common.{◌≡◌, ℕ, suc, ◌+◌, ◌*◌, ◌<◌, ◌≤◌, Bool, true, false, cond, eqb, ◌⊎◌, Some, None, Option, unwrap_or, sym, refl, ap, ◌∙◌, subst, inl, inr, arith}
use native.Mathlib.Decide.{dec_lt, ℕ_discrete}
use Rattle.std.proofs.lemmas.Bool.{ne_eqb}
use Rattle.spans.specs.Kind.{Kind, Laws, reach, ◌<⟨◌⟩◌, ◌≤⟨◌⟩◌}
use Rattle.spans.specs.Sums.{◌⊕⟨◌⟩◌}
use Rattle.spans.specs.Order.{lt_le, le_refl, le_trans}
use Rattle.spans.proofs.Group.{sum_some, sum_size, comm, assoc, zero_left, zero_right, le_plus, le_plus_left}
use Rattle.distances.specs.Table.{Table, joined, beats, AtMost, shortens, stage, Closed, Small}

module _ {S : Type 0} (K : Kind S) where
  -- no way over a point below k is shorter than its entry
  abbrev pub ClosedBelow : Table S → ℕ → Type 0
  ClosedBelow d k = (i m j : ℕ) (a c : S) → (i ≡ j → ⊥) → m < k → d i m ≡ Some a → d m j ≡ Some c → AtMost K (d i j) (a ⊕⟨ K ⟩ c)

  -- to k and back is never below zero, from a point below k
  abbrev pub Fair : Table S → ℕ → Type 0
  Fair d k = (m : ℕ) (a c : S) → m < k → d m k ≡ Some a → d k m ≡ Some c → K.zero ≤⟨ K ⟩ (a ⊕⟨ K ⟩ c)

  -- there and back is never below zero, between points below k
  abbrev pub Even : Table S → ℕ → Type 0
  Even d k = (i j : ℕ) (a c : S) → i < k → j < k → (i ≡ j → ⊥) → d i j ≡ Some a → d j i ≡ Some c → K.zero ≤⟨ K ⟩ (a ⊕⟨ K ⟩ c)

  -- a point with an entry is at zero from itself
  abbrev pub Zeros : Table S → Type 0
  Zeros d = (i j : ℕ) (a : S) → d i j ≡ Some a → (d i i ≡ Some K.zero) × (d j j ≡ Some K.zero)

  abbrev pub Over : Table S → ℕ → ℕ → ℕ → S → Type 0
  Over d k p q c = (a : S) × (e : S) × (d p k ≡ Some a) × (d k q ≡ Some e) × (c ≡ a ⊕⟨ K ⟩ e)

  abbrev pub Half : Table S → ℕ → ℕ → ℕ → S → Type 0
  Half d k p q c = (d p q ≡ Some c) ⊎ Over d k p q c

  pub record Staged (d : Table S) (k b : ℕ) : Type 0 where
    pub room : 16 * b ≤ reach
    pub small : Small K d b
    pub zeros : Zeros d
    pub here : d k k ≡ Some K.zero
    pub closed : ClosedBelow d k
    pub fair : Fair d k

pub none_some : {X A : Type 0} {a : X} → ◌≡◌ {A = Option X} None (Some a) → A
none_some e = let z : ◌≡◌ {A = ℕ} 0 1 = cc in absurd (omega arith)

-- the value under a test that came out false
pub off_test : (t u : Bool) → u ≡ false → cond t false u ≡ false
off_test true u e = refl
off_test false u e = e

module _ {S : Type 0} {K : Kind S} (laws : Laws S K) where
  -- ---- entries that are there and not above
  pub at_most : (x : Option S) (a s : S) → x ≡ Some a → a ≤⟨ K ⟩ s → AtMost K x s
  at_most x a s e h = subst (λ (y : Option S). AtMost K y s) (sym e) h

  pub is_there : (x : Option S) (s : S) → AtMost K x s → (a : S) × (x ≡ Some a) × (a ≤⟨ K ⟩ s)
  is_there None s h = absurd h
  is_there (Some a) s h = (a, refl, h)

  pub at_most_up : (x : Option S) (s t : S) → AtMost K x s → s ≤⟨ K ⟩ t → AtMost K x t
  at_most_up None s t h k = absurd h
  at_most_up (Some a) s t h k = le_trans laws h k

  -- ---- the lesser of two entries
  abbrev pick : Option S → Option S → Option S
  pick x y = cond (beats K y x) y x

  pick_left : (x y : Option S) (s : S) → AtMost K x s → AtMost K (pick x y) s
  pick_left None y s h = absurd h
  pick_left (Some a) None s h = h
  pick_left (Some a) (Some b) s h = by_test (K.less b a) refl
    where
      by_test : (t : Bool) → K.less b a ≡ t → AtMost K (cond t (Some b) (Some a)) s
      by_test true e = le_trans laws (lt_le laws e) h
      by_test false e = h

  pick_right : (x y : Option S) (s : S) → AtMost K y s → AtMost K (pick x y) s
  pick_right x None s h = absurd h
  pick_right None (Some b) s h = h
  pick_right (Some a) (Some b) s h = by_test (K.less b a) refl
    where
      by_test : (t : Bool) → K.less b a ≡ t → AtMost K (cond t (Some b) (Some a)) s
      by_test true e = h
      by_test false e = le_trans laws e h

  -- ---- the sum of two entries
  pub joined_parts : (x y : Option S) (c : S) → joined K x y ≡ Some c
      → (a : S) × (b : S) × (x ≡ Some a) × (y ≡ Some b) × (c ≡ a ⊕⟨ K ⟩ b)
  joined_parts None y c e = none_some e
  joined_parts (Some a) None c e = none_some e
  joined_parts (Some a) (Some b) c e = (a, b, refl, refl, sym (ap (λ (o : Option S). unwrap_or o K.zero) e))

  pub joined_some : (x y : Option S) (a b : S) → x ≡ Some a → y ≡ Some b → K.size a + K.size b ≤ reach
      → joined K x y ≡ Some (a ⊕⟨ K ⟩ b)
  joined_some x y a b e f h = rw (e, f) (sum_some laws a b h)

  -- there and back, and then on, is no shorter than going on at once
  pub round_adds : (e f g : S) → K.size e + K.size f + K.size g ≤ reach → K.zero ≤⟨ K ⟩ (e ⊕⟨ K ⟩ f) → g ≤⟨ K ⟩ (e ⊕⟨ K ⟩ (f ⊕⟨ K ⟩ g))
  round_adds e f g h back =
      rw (assoc laws e f g h, zero_left laws g (omega arith)) at
      (le_plus laws K.zero (e ⊕⟨ K ⟩ f) g (omega (arith, laws.zero_size)) (omega (arith, sum_size laws e f)) back)

  -- ---- an entry after the stage
  pub stage_cases : (d : Table S) (k i j : ℕ) (c : S) → stage K d k i j ≡ Some c → Half K d k i j c
  stage_cases d k i j c e = by_test (shortens K d k i j) e
    where
      by_test : (t : Bool) → cond t (joined K (d i k) (d k j)) (d i j) ≡ Some c → Half K d k i j c
      by_test true q = inr (joined_parts (d i k) (d k j) c q)
      by_test false q = inl q

  stage_off : (d : Table S) (k i j : ℕ) → (i ≡ j → ⊥) → stage K d k i j ≡ pick (d i j) (joined K (d i k) (d k j))
  stage_off d k i j off = rw (ne_eqb i j off) refl

  pub stage_old : (d : Table S) (k i j : ℕ) (s : S) → (i ≡ j → ⊥) → AtMost K (d i j) s → AtMost K (stage K d k i j) s
  stage_old d k i j s off h =
      subst (λ (y : Option S). AtMost K y s) (sym (stage_off d k i j off)) (pick_left (d i j) (joined K (d i k) (d k j)) s h)

  pub half_small : (d : Table S) (k b : ℕ) → Small K d b → (p q : ℕ) (c : S) → Half K d k p q c → K.size c ≤ 2 * b
  half_small d k b small p q c (inl e) = omega (arith, small p q c e)
  half_small d k b small p q c (inr (x, y, e, f, r)) =
      omega (arith, small p k x e, small k q y f, sum_size laws x y, ap K.size r)

  pub stage_small : (d : Table S) (k b : ℕ) → Small K d b → Small K (stage K d k) (2 * b)
  stage_small d k b small i j c e = half_small d k b small i j c (stage_cases d k i j c e)

  -- ---- ways into and out of k are not changed
  module _ (d : Table S) (k b : ℕ) (room : 16 * b ≤ reach) (small : Small K d b) (here : d k k ≡ Some K.zero) where
    sum_still : (a x : S) (o : Option S) → x ≡ a → (o ≡ None) ⊎ (o ≡ Some x) → beats K o (Some a) ≡ false
    sum_still a x o same (inl e) = rw e refl
    sum_still a x o same (inr e) = rw (e, same) (le_refl laws)

    to_still : (x : Option S) → ((a : S) → x ≡ Some a → K.size a ≤ b) → beats K (joined K x (Some K.zero)) x ≡ false
    to_still None h = refl
    to_still (Some a) h =
        let z : K.size a + K.size K.zero ≤ reach = omega (arith, h a refl, laws.zero_size) in
        sum_still a _ _ (zero_right laws a (omega arith)) (inr (sum_some laws a K.zero z))

    from_still : (x : Option S) → ((a : S) → x ≡ Some a → K.size a ≤ b) → beats K (joined K (Some K.zero) x) x ≡ false
    from_still None h = refl
    from_still (Some a) h =
        let z : K.size K.zero + K.size a ≤ reach = omega (arith, h a refl, laws.zero_size) in
        sum_still a _ _ (zero_left laws a (omega arith)) (inr (sum_some laws K.zero a z))

    pub to_calm : (i : ℕ) → shortens K d k i k ≡ false
    to_calm i =
        off_test (eqb i k) _
        (subst (λ (y : Option S). beats K (joined K (d i k) y) (d i k) ≡ false) (sym here) (to_still (d i k) (small i k)))

    pub from_calm : (j : ℕ) → shortens K d k k j ≡ false
    from_calm j =
        off_test (eqb k j) _
        (subst (λ (y : Option S). beats K (joined K y (d k j)) (d k j) ≡ false) (sym here) (from_still (d k j) (small k j)))

    pub to_same : (i : ℕ) → stage K d k i k ≡ d i k
    to_same i = rw (to_calm i) refl

    pub from_same : (j : ℕ) → stage K d k k j ≡ d k j
    from_same j = rw (from_calm j) refl

  -- ---- the stage keeps the table closed
  module _ (d : Table S) (k b : ℕ) (s : Staged K d k b) where
    pub stage_via : (i j : ℕ) (a c t : S) → (i ≡ j → ⊥) → d i k ≡ Some a → d k j ≡ Some c → (a ⊕⟨ K ⟩ c) ≤⟨ K ⟩ t
        → AtMost K (stage K d k i j) t
    stage_via i j a c t off e f h =
        let room = s.room in
        subst (λ (y : Option S). AtMost K y t) (sym (stage_off d k i j off))
        (pick_right (d i j) (joined K (d i k) (d k j)) t
        (at_most _ (a ⊕⟨ K ⟩ c) t (joined_some _ _ a c e f (omega (arith, s.small i k a e, s.small k j c f))) h))

    -- from k to m, back to k, and on, is no shorter than going on at once
    round : (m : ℕ) (e f g : S) → m < k → K.size g ≤ b → d k m ≡ Some e → d m k ≡ Some f → g ≤⟨ K ⟩ (e ⊕⟨ K ⟩ (f ⊕⟨ K ⟩ g))
    round m e f g l zg q u =
        let room = s.room in
        let ze = s.small k m e q in
        let zf = s.small m k f u in
        round_adds e f g (omega arith) (rw (comm laws e f (omega arith)) (s.fair m f e l u q))

    -- from k over m to j, by an old entry or over k again
    pub onward : (m j : ℕ) (e t : S) → m < k → d k m ≡ Some e → Half K d k m j t → AtMost K (d k j) (e ⊕⟨ K ⟩ t)
    onward m j e t l q (inr (f, g, u, v, adds)) =
        at_most (d k j) g _ v (subst (λ (o : S). g ≤⟨ K ⟩ (e ⊕⟨ K ⟩ o)) (sym adds) (round m e f g l (s.small k j g v) q u))
    onward m j e t l q (inl u) = by_point (ℕ_discrete k j)
      where
        by_point : Dec (k ≡ j) → AtMost K (d k j) (e ⊕⟨ K ⟩ t)
        by_point (no other) = s.closed k m j e t other l q u
        by_point (yes same) =
            let room = s.room in
            let back : d m k ≡ Some t = subst (λ (y : ℕ). d m y ≡ Some t) (sym same) u in
            let z : K.size e + K.size t ≤ reach = omega (arith, s.small k m e q, s.small m k t back) in
            at_most (d k j) K.zero _ (subst (λ (y : ℕ). d k y ≡ Some K.zero) same s.here)
            (rw (comm laws e t z) (s.fair m t e l back q))

    -- from i over m to k
    inward : (i m : ℕ) (a c : S) → m < k → d i m ≡ Some a → d m k ≡ Some c → AtMost K (d i k) (a ⊕⟨ K ⟩ c)
    inward i m a c l p q = by_point (ℕ_discrete i k)
      where
        by_point : Dec (i ≡ k) → AtMost K (d i k) (a ⊕⟨ K ⟩ c)
        by_point (no other) = s.closed i m k a c other l p q
        by_point (yes same) =
            let room = s.room in
            let front : d k m ≡ Some a = subst (λ (y : ℕ). d y m ≡ Some a) same p in
            let z : K.size a + K.size c ≤ reach = omega (arith, s.small k m a front, s.small m k c q) in
            at_most (d i k) K.zero _ (subst (λ (y : ℕ). d y k ≡ Some K.zero) (sym same) s.here)
            (rw (comm laws a c z) (s.fair m c a l q front))

    -- the ways in which the two halves came
    pub kept : (i m j : ℕ) → (i ≡ j → ⊥) → m < k → (a c : S) → Half K d k i m a → Half K d k m j c
        → AtMost K (stage K d k i j) (a ⊕⟨ K ⟩ c)
    kept i m j off l a c (inl p) (inl q) = stage_old d k i j (a ⊕⟨ K ⟩ c) off (s.closed i m j a c off l p q)
    kept i m j off l a c (inr (e, f, p, q, adds)) h =
        let room = s.room in
        let (g, v, low) = is_there (d k j) (f ⊕⟨ K ⟩ c) (onward m j f c l q h) in
        let ze = s.small i k e p in
        let zf = s.small k m f q in
        let zg = s.small k j g v in
        let zc = half_small d k b s.small m j c h in
        let zfc = sum_size laws f c in
        let over : (e ⊕⟨ K ⟩ g) ≤⟨ K ⟩ (e ⊕⟨ K ⟩ (f ⊕⟨ K ⟩ c)) = le_plus_left laws g (f ⊕⟨ K ⟩ c) e (omega arith) (omega arith) low in
        stage_via i j e g (a ⊕⟨ K ⟩ c) off p v (rw (adds, assoc laws e f c (omega arith)) over)
    kept i m j off l a c (inl p) (inr (e, f, q, u, adds)) =
        let room = s.room in
        let (g, v, low) = is_there (d i k) (a ⊕⟨ K ⟩ e) (inward i m a e l p q) in
        let za = s.small i m a p in
        let ze = s.small m k e q in
        let zf = s.small k j f u in
        let zg = s.small i k g v in
        let zae = sum_size laws a e in
        let over : (g ⊕⟨ K ⟩ f) ≤⟨ K ⟩ ((a ⊕⟨ K ⟩ e) ⊕⟨ K ⟩ f) = le_plus laws g (a ⊕⟨ K ⟩ e) f (omega arith) (omega arith) low in
        stage_via i j g f (a ⊕⟨ K ⟩ c) off v u (rw (adds, ← assoc laws a e f (omega arith)) over)

    pub stage_closed : ClosedBelow K (stage K d k) (suc k)
    stage_closed i m j a c off l p q = by_middle (dec_lt m k)
      where
        by_middle : Dec (m < k) → AtMost K (stage K d k i j) (a ⊕⟨ K ⟩ c)
        by_middle (yes low) = kept i m j off low a c (stage_cases d k i m a p) (stage_cases d k m j c q)
        by_middle (no high) =
            let e : m ≡ k = omega arith in
            let p₀ : d i k ≡ Some a = sym (to_same d k b s.room s.small s.here i) ∙ subst (λ (y : ℕ). stage K d k i y ≡ Some a) e p in
            let q₀ : d k j ≡ Some c = sym (from_same d k b s.room s.small s.here j) ∙ subst (λ (y : ℕ). stage K d k y j ≡ Some c) e q in
            stage_via i j a c (a ⊕⟨ K ⟩ c) off p₀ q₀ (le_refl laws)

    -- ---- there and back
    -- out of i over k to j and back
    around : (i j : ℕ) (p q c : S) → i < k → j < k → d i k ≡ Some p → d k j ≡ Some q → Half K d k j i c
        → K.zero ≤⟨ K ⟩ ((p ⊕⟨ K ⟩ q) ⊕⟨ K ⟩ c)
    around i j p q c li lj x y h =
        let room = s.room in
        let (g, z, low) = is_there (d k i) (q ⊕⟨ K ⟩ c) (onward j i q c lj y h) in
        let zp = s.small i k p x in
        let zq = s.small k j q y in
        let zg = s.small k i g z in
        let zc = half_small d k b s.small j i c h in
        let zqc = sum_size laws q c in
        rw (assoc laws p q c (omega arith))
        (le_trans laws (s.fair i p g li x z) (le_plus_left laws g (q ⊕⟨ K ⟩ c) p (omega arith) (omega arith) low))

    module _ (even : Even K d k) where
      both_halves : (i j : ℕ) (a c : S) → i < k → j < k → (i ≡ j → ⊥) → Half K d k i j a → Half K d k j i c
          → K.zero ≤⟨ K ⟩ (a ⊕⟨ K ⟩ c)
      both_halves i j a c li lj off (inl x) (inl y) = even i j a c li lj off x y
      both_halves i j a c li lj off (inr (p, q, x, y, adds)) h =
          subst (λ (o : S). K.zero ≤⟨ K ⟩ (o ⊕⟨ K ⟩ c)) (sym adds) (around i j p q c li lj x y h)
      both_halves i j a c li lj off (inl x) (inr (p, q, u, v, adds)) =
          let room = s.room in
          let z : K.size a + K.size c ≤ reach = omega (arith, s.small i j a x, half_small d k b s.small j i c (inr (p, q, u, v, adds))) in
          rw (comm laws a c z) (subst (λ (o : S). K.zero ≤⟨ K ⟩ (o ⊕⟨ K ⟩ a)) (sym adds) (around j i p q a lj li u v (inl x)))

      pub stage_even : Even K (stage K d k) (suc k)
      stage_even i j a c li lj off x y = by_points (dec_lt i k) (dec_lt j k)
        where
          into : (p : ℕ) (t : S) → stage K d k p k ≡ Some t → d p k ≡ Some t
          into p t e = sym (to_same d k b s.room s.small s.here p) ∙ e

          out : (p : ℕ) (t : S) → stage K d k k p ≡ Some t → d k p ≡ Some t
          out p t e = sym (from_same d k b s.room s.small s.here p) ∙ e

          by_points : Dec (i < k) → Dec (j < k) → K.zero ≤⟨ K ⟩ (a ⊕⟨ K ⟩ c)
          by_points (yes p) (yes q) = both_halves i j a c p q off (stage_cases d k i j a x) (stage_cases d k j i c y)
          by_points (yes p) (no q) =
              let e : j ≡ k = omega arith in
              s.fair i a c p (into i a (subst (λ (o : ℕ). stage K d k i o ≡ Some a) e x)) (out i c (subst (λ (o : ℕ). stage K d k o i ≡ Some c) e y))
          by_points (no p) (yes q) =
              let room = s.room in
              let e : i ≡ k = omega arith in
              let x₀ : d k j ≡ Some a = out j a (subst (λ (o : ℕ). stage K d k o j ≡ Some a) e x) in
              let y₀ : d j k ≡ Some c = into j c (subst (λ (o : ℕ). stage K d k j o ≡ Some c) e y) in
              let z : K.size a + K.size c ≤ reach = omega (arith, s.small k j a x₀, s.small j k c y₀) in
              rw (comm laws a c z) (s.fair j c a q y₀ x₀)
          by_points (no p) (no q) = absurd (off (omega arith))

  -- at the end no way over any point is shorter, from a point to itself too
  pub all_closed : (n : ℕ) (d : Table S) → ((i j : ℕ) (a : S) → d i j ≡ Some a → (i < n) × (j < n)) → ((i : ℕ) → i < n → d i i ≡ Some K.zero)
      → ClosedBelow K d n → Even K d n → Closed K d
  all_closed n d inside diagonal closed even i m j a c x y = by_points (ℕ_discrete i j) (ℕ_discrete i m)
    where
      zero_at_most : (t : S) → i ≡ j → K.zero ≤⟨ K ⟩ t → AtMost K (d i j) t
      zero_at_most t o h = at_most (d i j) K.zero t (subst (λ (z : ℕ). d i z ≡ Some K.zero) o (diagonal i (inside i m a x).0)) h

      by_points : Dec (i ≡ j) → Dec (i ≡ m) → AtMost K (d i j) (a ⊕⟨ K ⟩ c)
      by_points (no o) q = closed i m j a c o (inside i m a x).1 x y
      by_points (yes o) (no q) =
          zero_at_most _ o (even i m a c (inside i m a x).0 (inside i m a x).1 q x (subst (λ (z : ℕ). d m z ≡ Some c) (sym o) y))
      by_points (yes o) (yes q) =
          let z : d i i ≡ Some K.zero = diagonal i (inside i m a x).0 in
          let x₀ : d i i ≡ Some a = subst (λ (v : ℕ). d i v ≡ Some a) (sym q) x in
          let y₀ : d i i ≡ Some c = subst (λ (v : ℕ). d i v ≡ Some c) (sym o) (subst (λ (v : ℕ). d v j ≡ Some c) (sym q) y) in
          let ea : a ≡ K.zero = cc in
          let ec : c ≡ K.zero = cc in
          zero_at_most _ o (rw (ea, ec, zero_left laws K.zero (omega (arith, laws.zero_size))) (le_refl laws))
