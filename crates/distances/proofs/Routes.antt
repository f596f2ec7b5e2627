-- The hulls of a network have its edges, so its routes and its least totals. Assumes nothing.
use Rattle.std.proofs.Common.{◌≡◌, ℕ, ◌+◌, ◌*◌, List, [], ◌∷◌, Some, None, Option, sym, refl, ap, ◌∙◌, subst, arith}
use Rattle.spans.specs.Kind.{Kind}
use Rattle.networks.specs.declared.window.Window.{Window}
use Rattle.networks.specs.Network.{Condition, Network, condition_at, window_of}
use Rattle.networks.specs.Hull.{hull_windows_lem, hull, hulls}
use Rattle.layers.proofs.Hulls.{hull_at, hull_points}
use Rattle.distances.specs.Graph.{hull_of, Edge, forward, backward, Chain, stay, go, Route}
use Rattle.distances.specs.Distance.{Least, LeastTotals}

-- ---- one edge for each edge, so one route for each route
module _ {S : Type 0} (K : Kind S) (M N : Network S) (edges : (c i j : ℕ) (a : S) → Edge K M c i j a → Edge K N c i j a) where
  chain_of : (i j : ℕ) (cs ps : List ℕ) (t : S) → Chain K M i j cs ps t → Chain K N i j cs ps t
  chain_of i j cs ps t stay = stay
  chain_of i j cs ps t (go e c u) = go (edges _ _ _ _ e) (chain_of _ _ _ _ _ c) u

  pub route_of : (i j : ℕ) (cs : List ℕ) (t : S) → Route K M i j cs t → Route K N i j cs t
  route_of i j cs t (ps, c, d) = (ps, chain_of i j cs ps t c, d)

module _ {S : Type 0} (K : Kind S) (M N : Network S) (edges : (c i j : ℕ) (a : S) → Edge K M c i j a → Edge K N c i j a)
    (back : (c i j : ℕ) (a : S) → Edge K N c i j a → Edge K M c i j a) where
  pub least_of : (i j : ℕ) (x : Option S) → Least K M i j x → Least K N i j x
  least_of i j None none = λ cs t r. none cs t (route_of K N M back i j cs t r)
  least_of i j (Some t) ((cs, r), least) =
      ((cs, route_of K M N edges i j cs t r), λ ds u q. least ds u (route_of K N M back i j ds u q))

-- ---- a hull is its own hull
module _ {S : Type 0} where
  windows_twice : (vs : List (Window S)) → hull_windows_lem (hull_windows_lem vs) ≡ hull_windows_lem vs
  windows_twice [] = refl
  windows_twice (v ∷ vs) = refl

  hull_twice : (c : Condition S) → hull (hull c) ≡ hull c
  hull_twice c = ap (λ (vs : List (Window S)). record { from = c.from; to = c.to; windows = vs }) (windows_twice c.windows)

module _ {S : Type 0} (K : Kind S) (N : Network S) where
  hulls_hull : (k : ℕ) → hull_of K (hulls N) k ≡ hull_of K N k
  hulls_hull k = ap (λ (c : Condition S). window_of c 0) (ap hull (hull_at N k) ∙ hull_twice (condition_at N k))

  edge_of_hulls : (c i j : ℕ) (a : S) → Edge K (hulls N) c i j a → Edge K N c i j a
  edge_of_hulls c i j a (forward {k} {w} l e) =
      let joins = hull_points N k in
      let same = ap (λ (v : Window S). v.high) (sym (hulls_hull k)) in
      subst (λ (p : ℕ). Edge K N (2 * k) p j w) (sym joins.same_from)
      (subst (λ (p : ℕ). Edge K N (2 * k) (condition_at N k).from p w) (sym joins.same_to) (forward (omega (arith, joins.same_count)) (same ∙ e)))
  edge_of_hulls c i j a (backward {k} {a = b} {w} l e o) =
      let joins = hull_points N k in
      let same = ap (λ (v : Window S). v.low) (sym (hulls_hull k)) in
      subst (λ (p : ℕ). Edge K N (2 * k + 1) p j w) (sym joins.same_to)
      (subst (λ (p : ℕ). Edge K N (2 * k + 1) (condition_at N k).to p w) (sym joins.same_from) (backward (omega (arith, joins.same_count)) (same ∙ e) o))

  hulls_edge : (c i j : ℕ) (a : S) → Edge K N c i j a → Edge K (hulls N) c i j a
  hulls_edge c i j a (forward {k} {w} l e) =
      let joins = hull_points N k in
      let same = ap (λ (v : Window S). v.high) (hulls_hull k) in
      subst (λ (p : ℕ). Edge K (hulls N) (2 * k) p j w) joins.same_from
      (subst (λ (p : ℕ). Edge K (hulls N) (2 * k) (condition_at (hulls N) k).from p w) joins.same_to (forward (omega (arith, joins.same_count)) (same ∙ e)))
  hulls_edge c i j a (backward {k} {a = b} {w} l e o) =
      let joins = hull_points N k in
      let same = ap (λ (v : Window S). v.low) (hulls_hull k) in
      subst (λ (p : ℕ). Edge K (hulls N) (2 * k + 1) p j w) joins.same_to
      (subst (λ (p : ℕ). Edge K (hulls N) (2 * k + 1) (condition_at (hulls N) k).to p w) joins.same_from (backward (omega (arith, joins.same_count)) (same ∙ e) o))

  pub hulls_least : (entry : ℕ → ℕ → Option S) → LeastTotals K N entry → LeastTotals K (hulls N) entry
  hulls_least entry least i j li lj = least_of K N (hulls N) hulls_edge edge_of_hulls i j (entry i j) (least i j li lj)
