-- What stands behind each entry of a table with middle points: an edge, or two halves. A stage keeps it. Assumes nothing.
--     Piece K N d links k i j a     the entry a of (i, j) is an edge's weight, or the sum of its halves over a point below k
use Rattle.std.proofs.Common.{◌≡◌, ℕ, zero, suc, ◌+◌, ◌*◌, ◌<◌, ◌≤◌, Bool, true, false, cond, eqb, Some, None, Option, sym, refl, ap, ◌∙◌, subst, inl, inr, arith}
use Rattle.std.proofs.lemmas.Bool.{both_ways, cases_Bool, eq-eqb}
use Rattle.spans.specs.Kind.{Kind, Laws, reach, ◌<⟨◌⟩◌, ◌≤⟨◌⟩◌}
use Rattle.spans.specs.Sums.{◌⊕⟨◌⟩◌}
use Rattle.spans.specs.Order.{le_trans}
use Rattle.spans.proofs.Group.{sum_size, comm, assoc, lt_plus, le_plus_left}
use Rattle.networks.specs.Network.{Network}
use Rattle.distances.specs.Graph.{Edge}
use Rattle.distances.specs.declared.link.Link.TheVariants.{Direct, Over}
use Rattle.distances.specs.Table.{Table, Links, is_direct, rank, joined, beats, AtMost, shortens, stage, stage_links, closes, Small}
use Rattle.distances.proofs.Links.{not_over, same_code, same_point}
use Rattle.distances.proofs.Tables.{ClosedBelow, Fair, Staged, none_some, is_there, joined_parts, joined_some, to_calm, from_calm, to_same, from_same, kept}

module _ {S : Type 0} (K : Kind S) (N : Network S) where
  -- the two halves over m
  pub record Split (d : Table S) (links : Links) (k i j : ℕ) (a : S) (m : ℕ) : Type 0 where
    pub low : m < k
    pub off_first : i ≡ m → ⊥
    pub off_last : m ≡ j → ⊥
    pub to : S
    pub from : S
    pub first : d i m ≡ Some to
    pub second : d m j ≡ Some from
    pub adds : a ≡ to ⊕⟨ K ⟩ from
    pub first_low : rank (links i m) ≤ m
    pub second_low : rank (links m j) ≤ m

  pub data Piece (d : Table S) (links : Links) (k i j : ℕ) (a : S) : Type 0 where
    direct : (c : ℕ) → links i j ≡ Direct c → Edge K N c i j a → Piece d links k i j a
    over : (m : ℕ) → links i j ≡ Over m → Split d links k i j a m → Piece d links k i j a

  abbrev pub Pieced : Table S → Links → ℕ → Type 0
  Pieced d links k = (i j : ℕ) (a : S) → (i ≡ j → ⊥) → d i j ≡ Some a → Piece d links k i j a

  pub one_edge : (d : Table S) (links : Links) (k i j : ℕ) (a : S) (c : ℕ) → links i j ≡ Direct c → Piece d links k i j a → Edge K N c i j a
  one_edge d links k i j a c e (direct o p q) = subst (λ (x : ℕ). Edge K N x i j a) (same_code p e) q
  one_edge d links k i j a c e (over m p s) = absurd (not_over e p)

  pub split : (d : Table S) (links : Links) (k i j : ℕ) (a : S) (m : ℕ) → links i j ≡ Over m → Piece d links k i j a → Split d links k i j a m
  split d links k i j a m e (direct c p q) = absurd (not_over p e)
  split d links k i j a m e (over m₀ p s) = subst (λ (o : ℕ). Split d links k i j a o) (same_point p e) s

module _ {S : Type 0} {K : Kind S} (laws : Laws S K) where
  -- ---- an entry that the way over k shortens
  abbrev pub Beaten : Option S → Option S → Option S → Type 0
  Beaten x y z = (e : S) × (f : S) × (x ≡ Some e) × (y ≡ Some f) × (joined K x y ≡ Some (e ⊕⟨ K ⟩ f)) × ((b : S) → z ≡ Some b → (e ⊕⟨ K ⟩ f) <⟨ K ⟩ b)

  beaten_by : (x y z o : Option S) → joined K x y ≡ o → beats K o z ≡ true → Beaten x y z
  beaten_by x y z None e h = absurd (both_ways _ refl h)
  beaten_by x y z (Some c) e h =
      let (a, b, p, q, adds) = joined_parts laws x y c e in
      (a, b, p, q, subst (λ (o : S). joined K x y ≡ Some o) adds e, λ v r. subst (λ (o : S). o <⟨ K ⟩ v) adds (less z r h))
    where
      less : (z : Option S) {v : S} → z ≡ Some v → beats K (Some c) z ≡ true → c <⟨ K ⟩ v
      less None r h = none_some r
      less (Some w) {v} r h = let same : w ≡ v = cc in subst (λ (o : S). c <⟨ K ⟩ o) same h

  pub shortened : (d : Table S) (k i j : ℕ) → shortens K d k i j ≡ true → Beaten (d i k) (d k j) (d i j)
  shortened d k i j h = beaten_by (d i k) (d k j) (d i j) _ refl (under (eqb i j) _ h)
    where
      under : (t u : Bool) → cond t false u ≡ true → u ≡ true
      under true u q = absurd (both_ways _ refl q)
      under false u q = q

  pub shortened_off : (d : Table S) (k i j : ℕ) → shortens K d k i j ≡ true → i ≡ j → ⊥
  shortened_off d k i j h o =
      both_ways _ (ap (λ (t : Bool). cond t false (beats K (joined K (d i k) (d k j)) (d i j))) (eq-eqb i j o)) h

  module _ (d : Table S) (k b : ℕ) (s : Staged K d k b) where
    pub ends_apart : (i j : ℕ) → shortens K d k i j ≡ true → (i ≡ k → ⊥) × (k ≡ j → ⊥)
    ends_apart i j h = (
      (λ o. both_ways _ (subst (λ (y : ℕ). shortens K d k y j ≡ false) (sym o) (from_calm laws d k b s.room s.small s.here j)) h),
      (λ o. both_ways _ (subst (λ (y : ℕ). shortens K d k i y ≡ false) o (to_calm laws d k b s.room s.small s.here i)) h),
    )

    -- ---- what the stage leaves alone has halves that it leaves alone
    module _ (i m j : ℕ) (off : i ≡ j → ⊥) (low : m < k) (a e t : S) (calm : shortens K d k i j ≡ false)
        (whole : d i j ≡ Some a) (left : d i m ≡ Some e) (right : d m j ≡ Some t) (adds : a ≡ e ⊕⟨ K ⟩ t) where
      not_shorter : (x : S) → AtMost K (stage K d k i j) x → x <⟨ K ⟩ (e ⊕⟨ K ⟩ t) → ⊥
      not_shorter x h less =
          let stays : stage K d k i j ≡ Some a = rw calm whole in
          both_ways _ (subst (λ (y : Option S). AtMost K y x) stays h) (subst (λ (o : S). x <⟨ K ⟩ o) (sym adds) less)

      pub calm_left : shortens K d k i m ≡ false
      calm_left = elim (cases_Bool (shortens K d k i m)) [ inr h ↦ h | inl h ↦ absurd (clash h) ]
        where
          clash : shortens K d k i m ≡ true → ⊥
          clash h =
              let (f, g, p, q, sum, less) = shortened d k i m h in
              let room = s.room in
              let zf = s.small i k f p in
              let zg = s.small k m g q in
              let ze = s.small i m e left in
              let zt = s.small m j t right in
              let zfg = sum_size laws f g in
              not_shorter ((f ⊕⟨ K ⟩ g) ⊕⟨ K ⟩ t) (kept laws d k b s i m j off low (f ⊕⟨ K ⟩ g) t (inr (f, g, p, q, refl)) (inl right))
              (lt_plus laws (f ⊕⟨ K ⟩ g) e t (omega arith) (omega arith) (less e left))

      pub calm_right : shortens K d k m j ≡ false
      calm_right = elim (cases_Bool (shortens K d k m j)) [ inr h ↦ h | inl h ↦ absurd (clash h) ]
        where
          clash : shortens K d k m j ≡ true → ⊥
          clash h =
              let (f, g, p, q, sum, less) = shortened d k m j h in
              let room = s.room in
              let zf = s.small m k f p in
              let zg = s.small k j g q in
              let ze = s.small i m e left in
              let zt = s.small m j t right in
              let zfg = sum_size laws f g in
              not_shorter (e ⊕⟨ K ⟩ (f ⊕⟨ K ⟩ g)) (kept laws d k b s i m j off low e (f ⊕⟨ K ⟩ g) (inl left) (inr (f, g, p, q, refl)))
              (rw (comm laws e (f ⊕⟨ K ⟩ g) (omega arith), comm laws e t (omega arith)) (lt_plus laws (f ⊕⟨ K ⟩ g) t e (omega arith) (omega arith) (less t right)))

    module _ (N : Network S) (links : Links) (low : (i j : ℕ) → rank (links i j) ≤ k) (pieced : Pieced K N d links k) where
      pub links_low : (i j : ℕ) → rank (stage_links K d links k i j) ≤ suc k
      links_low i j = by_test (shortens K d k i j)
        where
          by_test : (t : Bool) → rank (cond t (Over k) (links i j)) ≤ suc k
          by_test true = omega arith
          by_test false = omega (arith, low i j)

      new_piece : (i j : ℕ) (a : S) → shortens K d k i j ≡ true → stage K d k i j ≡ Some a
          → Piece K N (stage K d k) (stage_links K d links k) (suc k) i j a
      new_piece i j a h e =
          let (f, g, p, q, adds) = joined_parts laws (d i k) (d k j) a (rw h at e) in
          let front = to_calm laws d k b s.room s.small s.here i in
          let rear = from_calm laws d k b s.room s.small s.here j in
          over k (rw h refl) (record {
            low = omega arith;
            off_first = (ends_apart i j h).0;
            off_last = (ends_apart i j h).1;
            to = f;
            from = g;
            first = to_same laws d k b s.room s.small s.here i ∙ p;
            second = from_same laws d k b s.room s.small s.here j ∙ q;
            adds = adds;
            first_low = rw front (low i k);
            second_low = rw rear (low k j);
          })

      old_piece : (i j : ℕ) (a : S) → (i ≡ j → ⊥) → shortens K d k i j ≡ false → d i j ≡ Some a → Piece K N d links k i j a
          → Piece K N (stage K d k) (stage_links K d links k) (suc k) i j a
      old_piece i j a off h e (direct c p q) = direct c (rw h p) q
      old_piece i j a off h e (over m p t) =
          let cl = calm_left i m j off t.low a t.to t.from h e t.first t.second t.adds in
          let cr = calm_right i m j off t.low a t.to t.from h e t.first t.second t.adds in
          over m (rw h p) (record {
            low = omega (arith, t.low);
            off_first = t.off_first;
            off_last = t.off_last;
            to = t.to;
            from = t.from;
            first = rw cl t.first;
            second = rw cr t.second;
            adds = t.adds;
            first_low = rw cl t.first_low;
            second_low = rw cr t.second_low;
          })

      pub stage_pieced : Pieced K N (stage K d k) (stage_links K d links k) (suc k)
      stage_pieced i j a off e = elim (cases_Bool (shortens K d k i j)) [
        | inl h ↦ new_piece i j a h e
        | inr h ↦ (let was : d i j ≡ Some a = rw h at e in old_piece i j a off h was (pieced i j a off was))
      ]

  -- ---- to look at the direct edges into k suffices: induction on the rank of (i, k)
  module _ (N : Network S) (d : Table S) (links : Links) (k b : ℕ) (room : 16 * b ≤ reach) (small : Small K d b)
      (closed : ClosedBelow K d k) (pieced : Pieced K N d links k) (none : (i : ℕ) → i < k → closes K d links k i ≡ false) where
    abbrev FairTo : ℕ → Type 0
    FairTo f = (i : ℕ) (a c : S) → i < k → rank (links i k) ≤ f → d i k ≡ Some a → d k i ≡ Some c → K.zero ≤⟨ K ⟩ (a ⊕⟨ K ⟩ c)

    fair_edge : (i : ℕ) (a c : S) → i < k → is_direct (links i k) ≡ true → d i k ≡ Some a → d k i ≡ Some c → K.zero ≤⟨ K ⟩ (a ⊕⟨ K ⟩ c)
    fair_edge i a c l e x y =
        let z : K.size a + K.size c ≤ reach = omega (arith, small i k a x, small k i c y) in
        rw (e, joined_some laws (d i k) (d k i) a c x y z) at (none i l)

    fair_over : (f : ℕ) → FairTo f → (i : ℕ) (a c : S) → i < k → rank (links i k) ≤ suc f → d i k ≡ Some a → d k i ≡ Some c
        → Piece K N d links k i k a → K.zero ≤⟨ K ⟩ (a ⊕⟨ K ⟩ c)
    fair_over f ih i a c l h p q (direct o x y) = fair_edge i a c l (ap is_direct x) p q
    fair_over f ih i a c l h p q (over m x t) =
        let less = t.low in
        let was : rank (links i k) ≡ suc m = ap rank x in
        let firsts = t.second_low in
        let (g, z, low) = is_there laws (d k m) (c ⊕⟨ K ⟩ t.to) (closed k i m c t.to (λ e. omega arith) l q t.first) in
        let zc = small k i c q in
        let zs = small i m t.to t.first in
        let zt = small m k t.from t.second in
        let zg = small k m g z in
        let zcs = sum_size laws c t.to in
        let base : K.zero ≤⟨ K ⟩ (t.from ⊕⟨ K ⟩ g) = ih m t.from g less (omega arith) t.second z in
        let step : (t.from ⊕⟨ K ⟩ g) ≤⟨ K ⟩ (t.from ⊕⟨ K ⟩ (c ⊕⟨ K ⟩ t.to)) = le_plus_left laws g (c ⊕⟨ K ⟩ t.to) t.from (omega arith) (omega arith) low in
        let turn : a ⊕⟨ K ⟩ c ≡ t.from ⊕⟨ K ⟩ (c ⊕⟨ K ⟩ t.to) =
        ap (λ (y : S). y ⊕⟨ K ⟩ c) (t.adds ∙ comm laws t.to t.from (omega arith)) ∙ assoc laws t.from t.to c (omega arith)
        ∙ ap (λ (y : S). t.from ⊕⟨ K ⟩ y) (comm laws t.to c (omega arith)) in
        rw turn (le_trans laws base step)

    fair_upto : (f : ℕ) → FairTo f
    fair_upto zero i a c l h p q = elim (pieced i k a (λ e. omega arith) p) [
      | direct o x y ↦ fair_edge i a c l (ap is_direct x) p q
      | over m x t ↦ (let was : rank (links i k) ≡ suc m = ap rank x in absurd (omega arith))
    ]
    fair_upto (suc f) i a c l h p q = fair_over f (fair_upto f) i a c l h p q (pieced i k a (λ e. omega arith) p)

    pub fair : Fair K d k
    fair i a c l p q = fair_upto (rank (links i k)) i a c l (omega arith) p q
