-- One edge more in a table whose closing is done: where it closes no cycle below zero, the table stays closed. Assumes nothing.
--     Goes d i j w a b s         s leads from a to b in the table, or over an edge from i to j of weight w
--     Added K d i j w e         the table e has for each two points the lesser of both
--     Free K d i j w            the edge and the way back are not below zero
use Rattle.std.proofs.Common.{◌≡◌, ℕ, ◌*◌, ◌<◌, ◌≤◌, ◌⊎◌, Some, None, Option, sym, refl, ap, ◌∙◌, subst, inl, inr, arith}
use Rattle.spans.specs.Kind.{Kind, Laws, reach, ◌≤⟨◌⟩◌}
use Rattle.spans.specs.Sums.{◌⊕⟨◌⟩◌}
use Rattle.spans.specs.Order.{lt_le, le_refl, le_trans, le_antisym, le_or_lt}
use Rattle.spans.proofs.Group.{sum_size, comm, assoc, zero_left, zero_right, le_plus, le_plus_left}
use Rattle.distances.specs.Table.{Table, AtMost, Small, Closed, Done}
use Rattle.distances.proofs.Tables.{none_some, at_most, is_there, at_most_up, round_adds}

-- ---- the lesser of two entries
module _ {S : Type 0} {K : Kind S} (laws : Laws S K) where
  record LesserOf (x y z : Option S) : Type 0 where
    one : (z ≡ x) ⊎ (z ≡ y)
    first : (s : S) → x ≡ Some s → AtMost K z s
    second : (s : S) → y ≡ Some s → AtMost K z s

  lesser_of : (x y : Option S) → (z : Option S) × LesserOf x y z
  lesser_of None y = (y, record { one = inr refl; first = λ s e. none_some e; second = λ s e. at_most laws y s s e (le_refl laws) })
  lesser_of (Some a) None =
      (Some a, record { one = inl refl; first = λ s e. at_most laws (Some a) s s e (le_refl laws); second = λ s e. none_some e })
  lesser_of (Some a) (Some b) = elim (le_or_lt laws a b) [
    | inl h ↦ (
      Some a,
      record {
        one = inl refl;
        first = λ s e. at_most laws (Some a) s s e (le_refl laws);
        second = λ s e. let same : b ≡ s = cc in subst (λ (o : S). a ≤⟨ K ⟩ o) same h;
      },
    )
    | inr h ↦ (
      Some b,
      record {
        one = inr refl;
        first = λ s e. let same : a ≡ s = cc in subst (λ (o : S). b ≤⟨ K ⟩ o) same (lt_le laws h);
        second = λ s e. at_most laws (Some b) s s e (le_refl laws);
      },
    )
  ]

-- ---- the table with the edge
module _ {S : Type 0} (K : Kind S) (d : Table S) (i j : ℕ) (w : S) where
  abbrev pub Goes : ℕ → ℕ → S → Type 0
  Goes a b s = (d a b ≡ Some s) ⊎ ((x : S) × (y : S) × (d a i ≡ Some x) × (d j b ≡ Some y) × (s ≡ x ⊕⟨ K ⟩ (w ⊕⟨ K ⟩ y)))

  pub record Added (e : Table S) : Type 0 where
    pub goes : (a b : ℕ) (s : S) → e a b ≡ Some s → Goes a b s
    pub old : (a b : ℕ) (s : S) → d a b ≡ Some s → AtMost K (e a b) s
    pub new : (a b : ℕ) (x y : S) → d a i ≡ Some x → d j b ≡ Some y → AtMost K (e a b) (x ⊕⟨ K ⟩ (w ⊕⟨ K ⟩ y))

  abbrev pub Free : Type 0
  Free = (c : S) → d j i ≡ Some c → K.zero ≤⟨ K ⟩ (w ⊕⟨ K ⟩ c)

  -- over the edge, where there are ways to it and from it
  abbrev over : Option S → Option S → Option S
  over None y = None
  over (Some x) None = None
  over (Some x) (Some y) = Some (x ⊕⟨ K ⟩ (w ⊕⟨ K ⟩ y))

  over_parts : (x y : Option S) (s : S) → over x y ≡ Some s → (a : S) × (b : S) × (x ≡ Some a) × (y ≡ Some b) × (s ≡ a ⊕⟨ K ⟩ (w ⊕⟨ K ⟩ b))
  over_parts None y s e = none_some e
  over_parts (Some a) None s e = none_some e
  over_parts (Some a) (Some b) s e = let same : a ⊕⟨ K ⟩ (w ⊕⟨ K ⟩ b) ≡ s = cc in (a, b, refl, refl, sym same)

module _ {S : Type 0} {K : Kind S} (laws : Laws S K) (d : Table S) (i j : ℕ) (w : S) where
  pub an_added : (e : Table S) × Added K d i j w e
  an_added = (λ a b. (z a b).0, record { goes = goes; old = λ a b. (z a b).1.first; new = new })
    where
      z : (a b : ℕ) → (o : Option S) × LesserOf laws (d a b) (over K d i j w (d a i) (d j b)) o
      z a b = lesser_of laws (d a b) (over K d i j w (d a i) (d j b))

      goes : (a b : ℕ) (s : S) → (z a b).0 ≡ Some s → Goes K d i j w a b s
      goes a b s e = elim ((z a b).1.one) [
        | inl o ↦ inl (sym o ∙ e)
        | inr o ↦ inr (over_parts K d i j w (d a i) (d j b) s (sym o ∙ e))
      ]

      new : (a b : ℕ) (x y : S) → d a i ≡ Some x → d j b ≡ Some y → AtMost K (z a b).0 (x ⊕⟨ K ⟩ (w ⊕⟨ K ⟩ y))
      new a b x y e f = (z a b).1.second (x ⊕⟨ K ⟩ (w ⊕⟨ K ⟩ y)) (rw (e, f) refl)

  module _ (e : Table S) (added : Added K d i j w e) where
    -- no entry is above what it was
    pub old_at_most : (p q : ℕ) (s : S) → AtMost K (d p q) s → AtMost K (e p q) s
    old_at_most p q s h =
        let (g, k, low) = is_there laws (d p q) s h in
        at_most_up laws (e p q) g s (added.old p q g k) low

  module _ (n b : ℕ) (room : 8 * b ≤ reach) (light : K.size w ≤ b) (done : Done K n b d) (li : i < n) (lj : j < n) (free : Free K d i j w)
      (e : Table S) (added : Added K d i j w e) where
    added_small : Small K e (3 * b)
    added_small p q s k = elim (added.goes p q s k) [
      | inl h ↦ omega (arith, done.small p q s h)
      | inr (x, y, h, g, adds) ↦ omega (arith, done.small p i x h, done.small j q y g, sum_size laws w y, sum_size laws x (w ⊕⟨ K ⟩ y), ap K.size adds)
    ]

    -- the edge, and what leads from its end back to its start, is not below zero
    round : (m : ℕ) (y u : S) → d j m ≡ Some y → d m i ≡ Some u → K.zero ≤⟨ K ⟩ (w ⊕⟨ K ⟩ (y ⊕⟨ K ⟩ u))
    round m y u f g =
        let (o, k, low) = is_there laws (d j i) (y ⊕⟨ K ⟩ u) (done.closed j m i y u f g) in
        let zo = done.small j i o k in
        let zy = done.small j m y f in
        let zu = done.small m i u g in
        let zyu = sum_size laws y u in
        le_trans laws (free o k) (le_plus_left laws o (y ⊕⟨ K ⟩ u) w (omega arith) (omega arith) low)

    joins : (p m q : ℕ) (s t : S) → Goes K d i j w p m s → Goes K d i j w m q t → AtMost K (e p q) (s ⊕⟨ K ⟩ t)
    joins p m q s t (inl h) (inl g) = old_at_most e added p q (s ⊕⟨ K ⟩ t) (done.closed p m q s t h g)
    joins p m q s t (inr (x, y, h, f, adds)) (inl g) =
        let (o, k, low) = is_there laws (d j q) (y ⊕⟨ K ⟩ t) (done.closed j m q y t f g) in
        let zx = done.small p i x h in
        let zy = done.small j m y f in
        let zt = done.small m q t g in
        let zo = done.small j q o k in
        let zyt = sum_size laws y t in
        let zwo = sum_size laws w o in
        let zwy = sum_size laws w y in
        let zwyt = sum_size laws w (y ⊕⟨ K ⟩ t) in
        let inner : (w ⊕⟨ K ⟩ o) ≤⟨ K ⟩ (w ⊕⟨ K ⟩ (y ⊕⟨ K ⟩ t)) = le_plus_left laws o (y ⊕⟨ K ⟩ t) w (omega arith) (omega arith) low in
        let more : (x ⊕⟨ K ⟩ (w ⊕⟨ K ⟩ o)) ≤⟨ K ⟩ (x ⊕⟨ K ⟩ (w ⊕⟨ K ⟩ (y ⊕⟨ K ⟩ t))) =
        le_plus_left laws (w ⊕⟨ K ⟩ o) (w ⊕⟨ K ⟩ (y ⊕⟨ K ⟩ t)) x (omega arith) (omega arith) inner in
        at_most_up laws (e p q) (x ⊕⟨ K ⟩ (w ⊕⟨ K ⟩ o)) (s ⊕⟨ K ⟩ t) (added.new p q x o h k)
        (rw (adds, assoc laws x (w ⊕⟨ K ⟩ y) t (omega arith), assoc laws w y t (omega arith)) more)
    joins p m q s t (inl h) (inr (u, v, g, f, adds)) =
        let (o, k, low) = is_there laws (d p i) (s ⊕⟨ K ⟩ u) (done.closed p m i s u h g) in
        let zs = done.small p m s h in
        let zu = done.small m i u g in
        let zv = done.small j q v f in
        let zo = done.small p i o k in
        let zsu = sum_size laws s u in
        let zwv = sum_size laws w v in
        let more : (o ⊕⟨ K ⟩ (w ⊕⟨ K ⟩ v)) ≤⟨ K ⟩ ((s ⊕⟨ K ⟩ u) ⊕⟨ K ⟩ (w ⊕⟨ K ⟩ v)) =
        le_plus laws o (s ⊕⟨ K ⟩ u) (w ⊕⟨ K ⟩ v) (omega arith) (omega arith) low in
        at_most_up laws (e p q) (o ⊕⟨ K ⟩ (w ⊕⟨ K ⟩ v)) (s ⊕⟨ K ⟩ t) (added.new p q o v k f)
        (rw (adds, ← assoc laws s u (w ⊕⟨ K ⟩ v) (omega arith)) more)
    joins p m q s t (inr (x, y, h, f, adds)) (inr (u, v, g, k, sums)) =
        let zx = done.small p i x h in
        let zy = done.small j m y f in
        let zu = done.small m i u g in
        let zv = done.small j q v k in
        let zyu = sum_size laws y u in
        let zwv = sum_size laws w v in
        let zwy = sum_size laws w y in
        let zuwv = sum_size laws u (w ⊕⟨ K ⟩ v) in
        let zyuwv = sum_size laws y (u ⊕⟨ K ⟩ (w ⊕⟨ K ⟩ v)) in
        let zall = sum_size laws w (y ⊕⟨ K ⟩ (u ⊕⟨ K ⟩ (w ⊕⟨ K ⟩ v))) in
        let inner : (w ⊕⟨ K ⟩ v) ≤⟨ K ⟩ (w ⊕⟨ K ⟩ (y ⊕⟨ K ⟩ (u ⊕⟨ K ⟩ (w ⊕⟨ K ⟩ v)))) =
        rw (assoc laws y u (w ⊕⟨ K ⟩ v) (omega arith)) at (round_adds laws w (y ⊕⟨ K ⟩ u) (w ⊕⟨ K ⟩ v) (omega arith) (round m y u f g)) in
        let more : (x ⊕⟨ K ⟩ (w ⊕⟨ K ⟩ v)) ≤⟨ K ⟩ (x ⊕⟨ K ⟩ (w ⊕⟨ K ⟩ (y ⊕⟨ K ⟩ (u ⊕⟨ K ⟩ (w ⊕⟨ K ⟩ v))))) =
        le_plus_left laws (w ⊕⟨ K ⟩ v) (w ⊕⟨ K ⟩ (y ⊕⟨ K ⟩ (u ⊕⟨ K ⟩ (w ⊕⟨ K ⟩ v)))) x (omega arith) (omega arith) inner in
        let regroup : s ⊕⟨ K ⟩ t ≡ x ⊕⟨ K ⟩ (w ⊕⟨ K ⟩ (y ⊕⟨ K ⟩ (u ⊕⟨ K ⟩ (w ⊕⟨ K ⟩ v)))) =
        ap (λ (o : S). o ⊕⟨ K ⟩ t) adds ∙ ap (λ (o : S). (x ⊕⟨ K ⟩ (w ⊕⟨ K ⟩ y)) ⊕⟨ K ⟩ o) sums
        ∙ assoc laws x (w ⊕⟨ K ⟩ y) (u ⊕⟨ K ⟩ (w ⊕⟨ K ⟩ v)) (omega arith)
        ∙ ap (λ (o : S). x ⊕⟨ K ⟩ o) (assoc laws w y (u ⊕⟨ K ⟩ (w ⊕⟨ K ⟩ v)) (omega arith)) in
        at_most_up laws (e p q) (x ⊕⟨ K ⟩ (w ⊕⟨ K ⟩ v)) (s ⊕⟨ K ⟩ t) (added.new p q x v h k)
        (subst (λ (o : S). (x ⊕⟨ K ⟩ (w ⊕⟨ K ⟩ v)) ≤⟨ K ⟩ o) (sym regroup) more)

    added_closed : Closed K e
    added_closed p m q s t h g = joins p m q s t (added.goes p m s h) (added.goes m q t g)

    added_zero : (p : ℕ) → p < n → e p p ≡ Some K.zero
    added_zero p l =
        let (g, k, low) = is_there laws (e p p) K.zero (added.old p p K.zero (done.diagonal p l)) in
        k ∙ ap (λ (o : S). Some o) (le_antisym laws low (high g (added.goes p p g k)))
      where
        high : (g : S) → Goes K d i j w p p g → K.zero ≤⟨ K ⟩ g
        high g (inl h) = let here = done.diagonal p l in let same : K.zero ≡ g = cc in subst (λ (o : S). K.zero ≤⟨ K ⟩ o) same (le_refl laws)
        high g (inr (x, y, h, f, adds)) =
            let zx = done.small p i x h in
            let zy = done.small j p y f in
            let zwy = sum_size laws w y in
            rw (adds, comm laws x (w ⊕⟨ K ⟩ y) (omega arith), assoc laws w y x (omega arith)) (round p y x f h)

    pub added_done : Done K n (3 * b) e
    added_done = record {
      inside = λ p q s k. elim (added.goes p q s k) [
        | inl h ↦ done.inside p q s h
        | inr (x, y, h, g, adds) ↦ ((done.inside p i x h).0, (done.inside j q y g).1)
      ];
      diagonal = added_zero;
      small = added_small;
      closed = added_closed;
    }

    -- the edge is kept
    pub edge_kept : AtMost K (e i j) w
    edge_kept =
        let zz = laws.zero_size in
        rw (zero_right laws w (omega arith), zero_left laws w (omega arith)) at
        (added.new i j K.zero K.zero (done.diagonal i li) (done.diagonal j lj))

    -- and its entry is no other than it was or the edge
    pub edge_entry : (s : S) → e i j ≡ Some s → (d i j ≡ Some s) ⊎ (s ≡ w)
    edge_entry s k = elim (added.goes i j s k) [
      | inl o ↦ inl o
      | inr (x, y, a, c, adds) ↦
          let zz = laws.zero_size in
          let di = done.diagonal i li in
          let dj = done.diagonal j lj in
          let first : x ≡ K.zero = cc in
          let last : y ≡ K.zero = cc in
          inr (rw (first, last, zero_right laws w (omega arith), zero_left laws w (omega arith)) at adds)
    ]
