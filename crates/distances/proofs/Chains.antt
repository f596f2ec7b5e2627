-- Chains of edges: their sizes, their points, and one after another. Assumes nothing.
--     Sound K N      what the proofs about chains use of a legal network: where its edges lead, and how heavy they are
use Rattle.std.proofs.Common.{◌≡◌, ℕ, suc, ◌+◌, ◌*◌, ◌<◌, ◌≤◌, List, [], ◌∷◌, ◌++◌, length, Some, Option, unwrap_or, sym, refl, ap, ◌∙◌, subst, inl, inr, arith, length-append}
use Rattle.spans.specs.Kind.{Kind, Laws, reach, ◌≤⟨◌⟩◌}
use Rattle.spans.specs.Sums.{◌⊕⟨◌⟩◌}
use Rattle.spans.specs.Order.{le_refl}
use Rattle.spans.proofs.Group.{sum_some, sum_size, assoc, zero_left, le_sums}
use Rattle.networks.specs.Limits.{largest_end}
use Rattle.networks.specs.Network.{Network}
use Rattle.distances.specs.Graph.{Edge, Chain, stay, go, Distinct, Route}
use Rattle.distances.specs.Table.{Table, AtMost, Small, Closed}
use Rattle.distances.proofs.Distincts.{Among, distinct_apart, apart_few, among_front}
use Rattle.distances.proofs.Tables.{at_most, is_there, at_most_up}

pub record Sound {S : Type 0} (K : Kind S) (N : Network S) : Type 0 where
  pub inside : (c i j : ℕ) (a : S) → Edge K N c i j a → (i < N.points) × (j < N.points)
  pub light : (c i j : ℕ) (a : S) → Edge K N c i j a → K.size a ≤ largest_end
  pub off : (c i j : ℕ) (a : S) → Edge K N c i j a → i ≡ j → ⊥

module _ {S : Type 0} {K : Kind S} (laws : Laws S K) (N : Network S) (sound : Sound K N) where
  pub chain_size : {i j : ℕ} {cs ps : List ℕ} {t : S} → Chain K N i j cs ps t → K.size t ≤ length cs * largest_end
  chain_size stay = omega (arith, laws.zero_size)
  chain_size (go {c = c} {i = i} {m = m} {w = w} {t = u} {u = t} e x s) =
      omega (arith, sound.light c i m w e, chain_size x, laws.sum_size w u t s)

  pub chain_lengths : {i j : ℕ} {cs ps : List ℕ} {t : S} → Chain K N i j cs ps t → length cs ≡ length ps
  chain_lengths stay = refl
  chain_lengths (go e x s) = ap suc (chain_lengths x)

  -- the points of a chain that ends inside are inside
  pub chain_inside : {i j : ℕ} {cs ps : List ℕ} {t : S} → j < N.points → Chain K N i j cs ps t → (v : ℕ) → Among v (ps ++ j ∷ []) → v < N.points
  chain_inside l stay v (inl e) = omega arith
  chain_inside l stay v (inr e) = absurd e
  chain_inside l (go {c = c} {i = i} {m = m} {w = w} e x s) v (inl o) = omega (arith, (sound.inside c i m w e).0)
  chain_inside l (go e x s) v (inr o) = chain_inside l x v o

  pub chain_begins : {i j : ℕ} {cs ps : List ℕ} {t : S} → 0 < length ps → Chain K N i j cs ps t → i < N.points
  chain_begins l stay = absurd (omega arith)
  chain_begins l (go {c = c} {i = i} {m = m} {w = w} e x s) = (sound.inside c i m w e).0

  -- distinct points are few, and so are the edges
  pub route_few : {i j : ℕ} {cs : List ℕ} {t : S} → j < N.points → Route K N i j cs t → suc (length cs) ≤ N.points
  route_few {i} {j} {cs} {t} l (ps, x, d) =
      let few = apart_few N.points (ps ++ j ∷ []) (distinct_apart (ps ++ j ∷ []) d) (chain_inside l x) in
      omega (arith, few, chain_lengths x, length-append ps (j ∷ []))

  pub cycle_few : {i : ℕ} {cs ps : List ℕ} {t : S} → i < N.points → Chain K N i i cs ps t → Distinct ps → length cs ≤ N.points
  cycle_few {i} {cs} {ps} l x d =
      let few = apart_few N.points ps (distinct_apart ps d) (λ v m. chain_inside l x v (among_front v ps (i ∷ []) m)) in
      omega (arith, few, chain_lengths x)

  -- one chain after another
  pub chain_append : {i m j : ℕ} {cs ps ds qs : List ℕ} {t u : S} → (length cs + length ds) * largest_end ≤ reach
      → Chain K N i m cs ps t → Chain K N m j ds qs u → Chain K N i j (cs ++ ds) (ps ++ qs) (t ⊕⟨ K ⟩ u)
  chain_append {i} {m} {j} {ds = ds} {qs = qs} {u = u} h stay y =
      subst (λ (o : S). Chain K N i j ds qs o) (sym (zero_left laws u (omega (arith, chain_size y)))) y
  chain_append {ds = ds} {u = u} h (go {c = c} {i = i} {m = m} {w = w} {t = v} {u = t} {cs = cs} e x s) y =
      let zw = sound.light c i m w e in
      let zv = chain_size x in
      let zu = chain_size y in
      let zvu = sum_size laws v u in
      let sum : w ⊕⟨ K ⟩ v ≡ t = ap (λ (o : Option S). unwrap_or o K.zero) s in
      go e (chain_append (omega arith) x y)
      (sum_some laws w (v ⊕⟨ K ⟩ u) (omega arith) ∙ ap (λ (o : S). Some o) (sym (assoc laws w v u (omega arith)) ∙ ap (λ (o : S). o ⊕⟨ K ⟩ u) sum))

  -- no chain is below its entry in a closed table
  module _ (d : Table S) (b : ℕ) (room : 16 * b ≤ reach) (small : Small K d b) (closed : Closed K d)
      (below : (c i j : ℕ) (a : S) → Edge K N c i j a → AtMost K (d i j) a) (diagonal : (i : ℕ) → i < N.points → d i i ≡ Some K.zero) where
    pub chain_entry : {i j : ℕ} {cs ps : List ℕ} {t : S} → j < N.points → 16 * (length cs * largest_end) ≤ reach → Chain K N i j cs ps t → AtMost K (d i j) t
    chain_entry {i} l h stay = at_most laws (d i i) K.zero K.zero (diagonal i l) (le_refl laws)
    chain_entry {i} {j} l h (go {c = c} {m = m} {w = w} {t = u} {u = t} e x s) =
        let (f, y, lo) = is_there laws (d i m) w (below c i m w e) in
        let (g, z, hi) = is_there laws (d m j) u (chain_entry l (omega arith) x) in
        let zw = sound.light c i m w e in
        let zu = chain_size x in
        let zf = small i m f y in
        let zg = small m j g z in
        let sum : w ⊕⟨ K ⟩ u ≡ t = ap (λ (o : Option S). unwrap_or o K.zero) s in
        at_most_up laws (d i j) (f ⊕⟨ K ⟩ g) t (closed i m j f g y z)
        (subst (λ (o : S). (f ⊕⟨ K ⟩ g) ≤⟨ K ⟩ o) sum (le_sums laws f w g u (omega arith) (omega arith) (omega arith) lo hi))
