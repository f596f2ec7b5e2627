-- The way that a table of links gives for an entry is a chain of edges through distinct points, and stays one. Assumes nothing.
--     Simple K d links       each way of an entry that is there visits no point twice
use Rattle.std.proofs.Common.{◌≡◌, ℕ, zero, suc, ◌+◌, ◌*◌, ◌<◌, ◌≤◌, true, false, ◌⊎◌, List, [], ◌∷◌, ◌++◌, length, Some, sym, refl, ap, ◌∙◌, subst, inl, inr, arith, length-append}
use native.Mathlib.Decide.{dec_lt, ℕ_discrete}
use Rattle.std.proofs.lemmas.Bool.{both_ways, cases_Bool}
use Rattle.spans.specs.Kind.{Kind, Laws, reach, ◌<⟨◌⟩◌, ◌≤⟨◌⟩◌}
use Rattle.spans.specs.Sums.{◌⊕⟨◌⟩◌}
use Rattle.spans.specs.Order.{le_refl, le_trans}
use Rattle.spans.proofs.Group.{sum_some, sum_size, assoc, zero_left, zero_right, le_plus, le_plus_left, le_sums}
use Rattle.networks.specs.Limits.{largest_end}
use Rattle.networks.specs.Network.{Network}
use Rattle.distances.specs.Graph.{Chain, stay, go}
use Rattle.distances.specs.declared.link.Link.{Link}
use Rattle.distances.specs.declared.link.Link.TheVariants.{Direct, Over}
use Rattle.distances.specs.Table.{Table, Links, rank, shortens, stage, stage_links}
use Rattle.distances.specs.Unfolding.{Unfolds, edge, halves, Falls}
use Rattle.distances.proofs.Links.{not_over, same_point}
use Rattle.distances.proofs.Distincts.{Among, Apart, among_either, apart_append, apart_last, apart_few}
use Rattle.distances.proofs.Tables.{Staged, is_there, to_calm, from_calm, round_adds}
use Rattle.distances.proofs.Pieces.{Split, Pieced, one_edge, split, Beaten, shortened, ends_apart, calm_left, calm_right}
use Rattle.distances.proofs.Chains.{Sound, chain_append}

pub unfolds_lengths : {links : Links} {i j : ℕ} {cs ps : List ℕ} → Unfolds links i j cs ps → length cs ≡ length ps
unfolds_lengths (edge c e) = refl
unfolds_lengths (halves {cs = cs} {ds = ds} {ps = ps} {qs = qs} m e x y) =
    omega (arith, length-append cs ds, length-append ps qs, unfolds_lengths x, unfolds_lengths y)

-- where links fall there is a way
way_upto : (n : ℕ) (links : Links) → Falls n links → (f i j : ℕ) → rank (links i j) ≤ f → (cs : List ℕ) × (ps : List ℕ) × Unfolds links i j cs ps
way_upto n links falls zero i j h = by_link (links i j) refl
  where
    by_link : (x : Link) → links i j ≡ x → (cs : List ℕ) × (ps : List ℕ) × Unfolds links i j cs ps
    by_link (Direct c) e = (c ∷ [], i ∷ [], edge c e)
    by_link (Over m) e = let was : rank (links i j) ≡ suc m = ap rank e in absurd (omega arith)
way_upto n links falls (suc f) i j h = by_link (links i j) refl (way_upto n links falls f)
  where
    by_link : (x : Link) → links i j ≡ x → ((p q : ℕ) → rank (links p q) ≤ f → (cs : List ℕ) × (ps : List ℕ) × Unfolds links p q cs ps)
        → (cs : List ℕ) × (ps : List ℕ) × Unfolds links i j cs ps
    by_link (Direct c) e ih = (c ∷ [], i ∷ [], edge c e)
    by_link (Over m) e ih =
        let was : rank (links i j) ≡ suc m = ap rank e in
        let (cs, ps, x) = ih i m (omega (arith, falls.first i j m e)) in
        let (ds, qs, y) = ih m j (omega (arith, falls.second i j m e)) in
        (cs ++ ds, ps ++ qs, halves m e x y)

pub a_way : (n : ℕ) (links : Links) → Falls n links → (i j : ℕ) → (cs : List ℕ) × (ps : List ℕ) × Unfolds links i j cs ps
a_way n links falls i j = way_upto n links falls (rank (links i j)) i j (omega arith)

module _ {S : Type 0} (K : Kind S) where
  abbrev pub Simple : Table S → Links → Type 0
  Simple d links = (i j : ℕ) (a : S) (cs ps : List ℕ) → (i ≡ j → ⊥) → d i j ≡ Some a → Unfolds links i j cs ps → Apart ps × (Among j ps → ⊥)

module _ {S : Type 0} {K : Kind S} (laws : Laws S K) (N : Network S) where
  module _ (d : Table S) (links : Links) (k : ℕ) (pieced : Pieced K N d links k) where
    -- the points that a way leaves are its first one and points below k
    pub way_where : {i j : ℕ} {cs ps : List ℕ} → Unfolds links i j cs ps → (a : S) → (i ≡ j → ⊥) → d i j ≡ Some a
        → (v : ℕ) → Among v ps → (v ≡ i) ⊎ (v < k)
    way_where (edge c e) a off p v (inl h) = inl h
    way_where (edge c e) a off p v (inr h) = absurd h
    way_where {i} {j} (halves {ps = ps} {qs = qs} m e x y) a off p v h =
        let t = split K N d links k i j a m e (pieced i j a off p) in
        elim (among_either v ps qs h) [
          | inl n ↦ way_where x t.to t.off_first t.first v n
          | inr n ↦ elim (way_where y t.from t.off_last t.second v n) [ inl o ↦ inr (omega (arith, t.low)) | inr o ↦ inr o ]
        ]

    -- its edges add up to the entry
    pub way_chain : Sound K N → {i j : ℕ} {cs ps : List ℕ} → Unfolds links i j cs ps → (a : S) → (i ≡ j → ⊥) → d i j ≡ Some a
        → length cs * largest_end ≤ reach → Chain K N i j cs ps a
    way_chain sound {i} {j} (edge c e) a off p h =
        let x = one_edge K N d links k i j a c e (pieced i j a off p) in
        let z : K.size a + K.size K.zero ≤ reach = omega (arith, sound.light c i j a x, laws.zero_size) in
        go x stay (sum_some laws a K.zero z ∙ ap (λ (o : S). Some o) (zero_right laws a (omega arith)))
    way_chain sound {i} {j} (halves {cs = cs} {ds = ds} {ps = ps} {qs = qs} m e x y) a off p h =
        let t = split K N d links k i j a m e (pieced i j a off p) in
        let o = length-append cs ds in
        subst (λ (z : S). Chain K N i j (cs ++ ds) (ps ++ qs) z) (sym t.adds)
        (chain_append laws N sound (omega arith)
        (way_chain sound x t.to t.off_first t.first (omega arith)) (way_chain sound y t.from t.off_last t.second (omega arith)))

    -- distinct points are few
    pub way_few : (n : ℕ) → k ≤ n → ((i j : ℕ) (a : S) → d i j ≡ Some a → (i < n) × (j < n)) → Simple K d links
        → {i j : ℕ} {cs ps : List ℕ} → Unfolds links i j cs ps → (a : S) → (i ≡ j → ⊥) → d i j ≡ Some a → suc (length cs) ≤ n
    way_few n kn inside simple {i} {j} {cs} {ps} x a off p =
        let (apart, last) = simple i j a cs ps off p x in
        let few = apart_few n (ps ++ j ∷ []) (apart_last ps j apart last) within in
        omega (arith, few, unfolds_lengths x, length-append ps (j ∷ []))
      where
        within : (v : ℕ) → Among v (ps ++ j ∷ []) → v < n
        within v h = elim (among_either v ps (j ∷ []) h) [
          | inl m ↦ elim (way_where x a off p v m) [ inl o ↦ omega (arith, (inside i j a p).0) | inr o ↦ omega arith ]
          | inr m ↦ elim m [ inl o ↦ omega (arith, (inside i j a p).1) | inr o ↦ absurd o ]
        ]

  -- ---- one stage
  -- the way over v is no longer than a
  abbrev On : Table S → ℕ → ℕ → S → ℕ → Type 0
  On d i j a v = (s : S) × (t : S) × (d i v ≡ Some s) × (d v j ≡ Some t) × ((s ⊕⟨ K ⟩ t) ≤⟨ K ⟩ a)

  module _ (d : Table S) (links : Links) (k b : ℕ) (g : Staged K d k b) (pieced : Pieced K N d links k) where
    on_first : (i j : ℕ) (a : S) → d i j ≡ Some a → On d i j a i
    on_first i j a p =
        let room = g.room in
        (K.zero, a, (g.zeros i j a p).0, p, rw (zero_left laws a (omega (arith, g.small i j a p))) (le_refl laws))

    on_last : (i j : ℕ) (a : S) → d i j ≡ Some a → On d i j a j
    on_last i j a p =
        let room = g.room in
        (a, K.zero, p, (g.zeros i j a p).1, rw (zero_right laws a (omega (arith, g.small i j a p))) (le_refl laws))

    -- a point on a half is on the whole
    on_left : (i j m v : ℕ) (a : S) (t : Split K N d links k i j a m) → (v ≡ j → ⊥) → On d i m t.to v → On d i j a v
    on_left i j m v a t ne (e, f, x, y, h) =
        let room = g.room in
        let (r, z, low) = is_there laws (d v j) (f ⊕⟨ K ⟩ t.from) (g.closed v m j f t.from ne t.low y t.second) in
        let zs = g.small i m t.to t.first in
        let zt = g.small m j t.from t.second in
        let ze = g.small i v e x in
        let zf = g.small v m f y in
        let zr = g.small v j r z in
        let zft = sum_size laws f t.from in
        let zef = sum_size laws e f in
        let one : (e ⊕⟨ K ⟩ r) ≤⟨ K ⟩ (e ⊕⟨ K ⟩ (f ⊕⟨ K ⟩ t.from)) = le_plus_left laws r (f ⊕⟨ K ⟩ t.from) e (omega arith) (omega arith) low in
        let two : ((e ⊕⟨ K ⟩ f) ⊕⟨ K ⟩ t.from) ≤⟨ K ⟩ (t.to ⊕⟨ K ⟩ t.from) = le_plus laws (e ⊕⟨ K ⟩ f) t.to t.from (omega arith) (omega arith) h in
        (e, r, x, z, rw t.adds (le_trans laws one (rw (assoc laws e f t.from (omega arith)) at two)))

    on_right : (i j m v : ℕ) (a : S) (t : Split K N d links k i j a m) → (i ≡ v → ⊥) → On d m j t.from v → On d i j a v
    on_right i j m v a t ne (e, f, x, y, h) =
        let room = g.room in
        let (r, z, low) = is_there laws (d i v) (t.to ⊕⟨ K ⟩ e) (g.closed i m v t.to e ne t.low t.first x) in
        let zs = g.small i m t.to t.first in
        let zt = g.small m j t.from t.second in
        let ze = g.small m v e x in
        let zf = g.small v j f y in
        let zr = g.small i v r z in
        let zse = sum_size laws t.to e in
        let zef = sum_size laws e f in
        let one : (r ⊕⟨ K ⟩ f) ≤⟨ K ⟩ ((t.to ⊕⟨ K ⟩ e) ⊕⟨ K ⟩ f) = le_plus laws r (t.to ⊕⟨ K ⟩ e) f (omega arith) (omega arith) low in
        let two : (t.to ⊕⟨ K ⟩ (e ⊕⟨ K ⟩ f)) ≤⟨ K ⟩ (t.to ⊕⟨ K ⟩ t.from) = le_plus_left laws (e ⊕⟨ K ⟩ f) t.from t.to (omega arith) (omega arith) h in
        (r, f, z, y, rw t.adds (le_trans laws (rw (assoc laws t.to e f (omega arith)) at one) two))

    on_halves : (i j m v : ℕ) (a : S) (t : Split K N d links k i j a m) (ps qs : List ℕ) → d i j ≡ Some a → Among v (ps ++ qs)
        → (Among v ps → On d i m t.to v) → (Among v qs → On d m j t.from v) → Dec (v ≡ i) → Dec (v ≡ j) → On d i j a v
    on_halves i j m v a t ps qs p h left right (yes o) z = subst (λ (y : ℕ). On d i j a y) (sym o) (on_first i j a p)
    on_halves i j m v a t ps qs p h left right (no o) (yes z) = subst (λ (y : ℕ). On d i j a y) (sym z) (on_last i j a p)
    on_halves i j m v a t ps qs p h left right (no o) (no z) = elim (among_either v ps qs h) [
      | inl n ↦ on_left i j m v a t z (left n)
      | inr n ↦ on_right i j m v a t (λ u. o (sym u)) (right n)
    ]

    -- every point that a way leaves is on it
    on_way : {i j : ℕ} {cs ps : List ℕ} → Unfolds links i j cs ps → (a : S) → (i ≡ j → ⊥) → d i j ≡ Some a → (v : ℕ) → Among v ps → On d i j a v
    on_way {i} {j} (edge c e) a off p v (inl h) = subst (λ (y : ℕ). On d i j a y) (sym h) (on_first i j a p)
    on_way {i} {j} (edge c e) a off p v (inr h) = absurd h
    on_way {i} {j} (halves {ps = ps} {qs = qs} m e x y) a off p v h =
        let t = split K N d links k i j a m e (pieced i j a off p) in
        on_halves i j m v a t ps qs p h (on_way x t.to t.off_first t.first v) (on_way y t.from t.off_last t.second v) (ℕ_discrete v i) (ℕ_discrete v j)

    -- a way that the stage leaves is what it was
    way_before : {i j : ℕ} {cs ps : List ℕ} → Unfolds (stage_links K d links k) i j cs ps → (a : S) → (i ≡ j → ⊥) → shortens K d k i j ≡ false
        → d i j ≡ Some a → Unfolds links i j cs ps
    way_before (edge c e) a off calm p = edge c (rw calm at e)
    way_before {i} {j} (halves m e x y) a off calm p =
        let e₀ : links i j ≡ Over m = rw calm at e in
        let t = split K N d links k i j a m e₀ (pieced i j a off p) in
        let cl = calm_left laws d k b g i m j off t.low a t.to t.from calm p t.first t.second t.adds in
        let cr = calm_right laws d k b g i m j off t.low a t.to t.from calm p t.first t.second t.adds in
        halves m e₀ (way_before x t.to t.off_first cl t.first) (way_before y t.from t.off_last cr t.second)

    -- with a point on both halves nothing would be shortened: the round from it over k and back is not below zero
    shared : (i j v : ℕ) (p q : S) → (i ≡ j → ⊥) → v < k → d i k ≡ Some p → d k j ≡ Some q
        → ((a : S) → d i j ≡ Some a → (p ⊕⟨ K ⟩ q) <⟨ K ⟩ a) → On d i k p v → On d k j q v → ⊥
    shared i j v p q off l x y less (s, t, u, z, h) (e, f, u₁, z₁, h₁) =
        let room = g.room in
        let (r, c, low) = is_there laws (d i j) (s ⊕⟨ K ⟩ f) (g.closed i v j s f off l u z₁) in
        let zp = g.small i k p x in
        let zq = g.small k j q y in
        let zs = g.small i v s u in
        let zt = g.small v k t z in
        let ze = g.small k v e u₁ in
        let zf = g.small v j f z₁ in
        let zst = sum_size laws s t in
        let zef = sum_size laws e f in
        let ztef = sum_size laws t (e ⊕⟨ K ⟩ f) in
        let one : ((s ⊕⟨ K ⟩ t) ⊕⟨ K ⟩ (e ⊕⟨ K ⟩ f)) ≤⟨ K ⟩ (p ⊕⟨ K ⟩ q) = le_sums laws (s ⊕⟨ K ⟩ t) p (e ⊕⟨ K ⟩ f) q (omega arith) (omega arith) (omega arith) h h₁ in
        let two : f ≤⟨ K ⟩ (t ⊕⟨ K ⟩ (e ⊕⟨ K ⟩ f)) = round_adds laws t e f (omega arith) (g.fair v t e l z u₁) in
        let three : (s ⊕⟨ K ⟩ f) ≤⟨ K ⟩ (s ⊕⟨ K ⟩ (t ⊕⟨ K ⟩ (e ⊕⟨ K ⟩ f))) = le_plus_left laws f (t ⊕⟨ K ⟩ (e ⊕⟨ K ⟩ f)) s (omega arith) (omega arith) two in
        let four = le_trans laws low (le_trans laws three (rw (assoc laws s t (e ⊕⟨ K ⟩ f) (omega arith)) at one)) in
        both_ways _ four (less r c)

    module _ (simple : Simple K d links) where
      -- the two halves of a shortened entry have no point in common
      joined_simple : (i j : ℕ) (cs ds ps qs : List ℕ) → (i ≡ j → ⊥) → shortens K d k i j ≡ true
          → Unfolds (stage_links K d links k) i k cs ps → Unfolds (stage_links K d links k) k j ds qs → Apart (ps ++ qs) × (Among j (ps ++ qs) → ⊥)
      joined_simple i j cs ds ps qs off h x y = whole (shortened laws d k i j h) (ends_apart laws d k b g i j h)
        where
          whole : Beaten laws (d i k) (d k j) (d i j) → (i ≡ k → ⊥) × (k ≡ j → ⊥) → Apart (ps ++ qs) × (Among j (ps ++ qs) → ⊥)
          whole (e, f, p, q, sum, less) (ne, nf) = (
            apart_append ps qs first.0 second.0 (λ v m n. meet v m n (dec_lt v k)),
            (λ m. elim (among_either j ps qs m) [ inl n ↦ early n | inr n ↦ second.1 n ]),
          )
            where
              x₀ : Unfolds links i k cs ps
              x₀ = way_before x e ne (to_calm laws d k b g.room g.small g.here i) p

              y₀ : Unfolds links k j ds qs
              y₀ = way_before y f nf (from_calm laws d k b g.room g.small g.here j) q

              first : Apart ps × (Among k ps → ⊥)
              first = simple i k e cs ps ne p x₀

              second : Apart qs × (Among j qs → ⊥)
              second = simple k j f ds qs nf q y₀

              meet : (v : ℕ) → Among v ps → Among v qs → Dec (v < k) → ⊥
              meet v m n (yes l) = shared i j v e f off l p q less (on_way x₀ e ne p v m) (on_way y₀ f nf q v n)
              meet v m n (no l) = elim (way_where d links k pieced y₀ f nf q v n) [
                | inl o ↦ first.1 (subst (λ (z : ℕ). Among z ps) o m)
                | inr o ↦ l o
              ]

              early : Among j ps → ⊥
              early m = elim (way_where d links k pieced x₀ e ne p j m) [
                | inl o ↦ off (sym o)
                | inr l ↦ shared i j j e f off l p q less (on_way x₀ e ne p j m) (on_last k j f q)
              ]

      new_simple : (i j : ℕ) (cs ps : List ℕ) → (i ≡ j → ⊥) → shortens K d k i j ≡ true → Unfolds (stage_links K d links k) i j cs ps
          → Apart ps × (Among j ps → ⊥)
      new_simple i j cs ps off h (edge c e) = let z : Over k ≡ Direct c = rw h at e in absurd (not_over z refl)
      new_simple i j cs ps off h (halves {cs = c₁} {ds = c₂} {ps = p₁} {qs = p₂} m e x y) =
          let z : Over k ≡ Over m = rw h at e in
          let o : m ≡ k = same_point z refl in
          joined_simple i j c₁ c₂ p₁ p₂ off h (subst (λ (u : ℕ). Unfolds (stage_links K d links k) i u c₁ p₁) o x)
          (subst (λ (u : ℕ). Unfolds (stage_links K d links k) u j c₂ p₂) o y)

      pub stage_simple : Simple K (stage K d k) (stage_links K d links k)
      stage_simple i j a cs ps off p x = elim (cases_Bool (shortens K d k i j)) [
        | inl h ↦ new_simple i j cs ps off h x
        | inr h ↦ (let p₀ : d i j ≡ Some a = rw h at p in simple i j a cs ps off p₀ (way_before x a off h p₀))
      ]
