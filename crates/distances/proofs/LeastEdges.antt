-- The least edge between two points is an edge, and no edge between them is below it. Assumes nothing.
use Rattle.std.proofs.Common.{◌≡◌, ℕ, zero, suc, ◌+◌, ◌*◌, ◌<◌, ◌≤◌, Bool, true, false, cond, eqb, ◌⊎◌, length, Some, None, Option, refl, ap, subst, inl, inr, arith}
use native.Mathlib.Decide.{ℕ_discrete}
use Rattle.std.proofs.lemmas.Bool.{eq-eqb, eqb-true}
use Rattle.spans.specs.Kind.{Kind, Laws}
use Rattle.spans.specs.Order.{lt_le, le_refl, le_trans}
use Rattle.networks.specs.Network.{Network, condition_at}
use Rattle.distances.specs.Graph.{Edge, forward, backward, hull_of}
use Rattle.distances.specs.Table.{AtMost}
use Rattle.distances.specs.Edges.{Coded, coded, weight, only_at, opposite_end, lesser, ahead, back, least_edge}
use Rattle.distances.proofs.Tables.{none_some}

module _ {S : Type 0} where
  only_at_parts : (p q i j : ℕ) (x : Coded S) (v : S × ℕ) → only_at p q i j x ≡ Some v → (p ≡ i) × (q ≡ j) × (x ≡ Some v)
  only_at_parts p q i j x v e = by_tests (eqb p i) (eqb q j) refl refl e
    where
      by_tests : (s t : Bool) → eqb p i ≡ s → eqb q j ≡ t → cond s (cond t x None) None ≡ Some v → (p ≡ i) × (q ≡ j) × (x ≡ Some v)
      by_tests true true f g e = (eqb-true p i f, eqb-true q j g, e)
      by_tests true false f g e = none_some e
      by_tests false t f g e = none_some e

  only_at_here : (p q : ℕ) (x : Coded S) → only_at p q p q x ≡ x
  only_at_here p q x = rw (eq-eqb p p refl, eq-eqb q q refl) refl

  coded_parts : (o : ℕ) (x : Option S) (a : S) (c : ℕ) → coded o x ≡ Some (a, c) → (x ≡ Some a) × (o ≡ c)
  coded_parts o None a c e = none_some e
  coded_parts o (Some b) a c e =
      let f : ◌≡◌ {A = S × ℕ} (b, o) (a, c) = cc in
      (ap (λ (x : S × ℕ). Some x.0) f, ap (λ (x : S × ℕ). x.1) f)

  -- a weight that is there has a code
  pub weight_coded : (x : Coded S) (a : S) → weight x ≡ Some a → (c : ℕ) × (x ≡ Some (a, c))
  weight_coded None a e = none_some e
  weight_coded (Some x) a e = let f : x.0 ≡ a = cc in (x.1, ap (λ (o : S). Some (o, x.1)) f)

module _ {S : Type 0} (K : Kind S) (N : Network S) where
  opposite_parts : (x : Option S) (w : S) → opposite_end K x ≡ Some w → (a : S) × (x ≡ Some a) × (K.opposite a ≡ Some w)
  opposite_parts None w e = none_some e
  opposite_parts (Some a) w e = (a, refl, e)

  lesser_either : (x y : Coded S) (v : S × ℕ) → lesser K x y ≡ Some v → (x ≡ Some v) ⊎ (y ≡ Some v)
  lesser_either None y v e = inr e
  lesser_either (Some x) None v e = inl e
  lesser_either (Some x) (Some y) v e = by_test (K.less y.0 x.0) e
    where
      by_test : (t : Bool) → cond t (Some y) (Some x) ≡ Some v → (Some x ≡ Some v) ⊎ (Some y ≡ Some v)
      by_test true e = inr e
      by_test false e = inl e

  ahead_edge : (k i j : ℕ) (a : S) (c : ℕ) → k < length N.conditions → ahead K N k i j ≡ Some (a, c) → Edge K N c i j a
  ahead_edge k i j a c l e =
      let (p, q, z) = only_at_parts (condition_at N k).from (condition_at N k).to i j _ (a, c) e in
      let (u, v) = coded_parts (2 * k) (hull_of K N k).high a c z in
      subst (λ (o : ℕ). Edge K N o i j a) v (subst (λ (o : ℕ). Edge K N (2 * k) o j a) p
      (subst (λ (o : ℕ). Edge K N (2 * k) (condition_at N k).from o a) q (forward {k = k} {w = a} l u)))

  back_edge : (k i j : ℕ) (a : S) (c : ℕ) → k < length N.conditions → back K N k i j ≡ Some (a, c) → Edge K N c i j a
  back_edge k i j a c l e =
      let (p, q, z) = only_at_parts (condition_at N k).to (condition_at N k).from i j _ (a, c) e in
      let (u, v) = coded_parts (2 * k + 1) (opposite_end K (hull_of K N k).low) a c z in
      let (b, s, t) = opposite_parts (hull_of K N k).low a u in
      subst (λ (o : ℕ). Edge K N o i j a) v (subst (λ (o : ℕ). Edge K N (2 * k + 1) o j a) p
      (subst (λ (o : ℕ). Edge K N (2 * k + 1) (condition_at N k).to o a) q (backward {k = k} {a = b} {w = a} l s t)))

  pub least_edge_real : (m : ℕ) → m ≤ length N.conditions → (i j : ℕ) (a : S) (c : ℕ) → least_edge K N m i j ≡ Some (a, c) → Edge K N c i j a
  least_edge_real zero h i j a c e = none_some e
  least_edge_real (suc m) h i j a c e = elim (lesser_either (lesser K (least_edge K N m i j) (ahead K N m i j)) (back K N m i j) (a, c) e) [
    | inl x ↦ elim (lesser_either (least_edge K N m i j) (ahead K N m i j) (a, c) x) [
      | inl y ↦ least_edge_real m (omega arith) i j a c y
      | inr y ↦ ahead_edge m i j a c h y
    ]
    | inr x ↦ back_edge m i j a c h x
  ]

module _ {S : Type 0} {K : Kind S} (laws : Laws S K) (N : Network S) where
  abbrev Under : Coded S → S → Type 0
  Under x s = AtMost K (weight x) s

  under_left : (x y : Coded S) (s : S) → Under x s → Under (lesser K x y) s
  under_left None y s h = absurd h
  under_left (Some x) None s h = h
  under_left (Some x) (Some y) s h = by_test (K.less y.0 x.0) refl
    where
      by_test : (t : Bool) → K.less y.0 x.0 ≡ t → Under (cond t (Some y) (Some x)) s
      by_test true e = le_trans laws (lt_le laws e) h
      by_test false e = h

  under_right : (x y : Coded S) (s : S) → Under y s → Under (lesser K x y) s
  under_right x None s h = absurd h
  under_right None (Some y) s h = h
  under_right (Some x) (Some y) s h = by_test (K.less y.0 x.0) refl
    where
      by_test : (t : Bool) → K.less y.0 x.0 ≡ t → Under (cond t (Some y) (Some x)) s
      by_test true e = h
      by_test false e = le_trans laws e h

  under_upto : (m k i j : ℕ) (s : S) → k < m → Under (ahead K N k i j) s ⊎ Under (back K N k i j) s → Under (least_edge K N m i j) s
  under_upto zero k i j s l h = absurd (omega arith)
  under_upto (suc m) k i j s l h = elim (ℕ_discrete k m) [
    | yes e ↦ here (subst (λ (o : ℕ). Under (ahead K N o i j) s ⊎ Under (back K N o i j) s) e h)
    | no e ↦ under_left (lesser K (least_edge K N m i j) (ahead K N m i j)) (back K N m i j) s (under_left (least_edge K N m i j) (ahead K N m i j) s (under_upto m k i j s (omega arith) h))
  ]
    where
      here : Under (ahead K N m i j) s ⊎ Under (back K N m i j) s → Under (least_edge K N (suc m) i j) s
      here (inl x) = under_left (lesser K (least_edge K N m i j) (ahead K N m i j)) (back K N m i j) s (under_right (least_edge K N m i j) (ahead K N m i j) s x)
      here (inr x) = under_right (lesser K (least_edge K N m i j) (ahead K N m i j)) (back K N m i j) s x

  pub least_edge_least : (c i j : ℕ) (a : S) → Edge K N c i j a → AtMost K (weight (least_edge K N (length N.conditions) i j)) a
  least_edge_least c i j a (forward {k} {w} l e) =
      under_upto (length N.conditions) k _ _ w l
      (inl (rw (only_at_here (condition_at N k).from (condition_at N k).to (coded (2 * k) (hull_of K N k).high), e) (le_refl laws)))
  least_edge_least c i j a (backward {k} {a = b} {w} l e f) =
      under_upto (length N.conditions) k _ _ w l
      (inr (rw (only_at_here (condition_at N k).to (condition_at N k).from (coded (2 * k + 1) (opposite_end K (hull_of K N k).low)), e, f) (le_refl laws)))
