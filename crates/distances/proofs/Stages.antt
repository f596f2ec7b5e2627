-- What stands after the stages below k: it stands at the start, each stage keeps it, and at the end it gives the least totals;
-- or an edge closes a way below zero. Assumes nothing.
--     Stands K N b d links k     entries are totals of ways over points below k, and no such way is shorter; sizes are at most b
use Rattle.std.proofs.Common.{◌≡◌, ℕ, suc, ◌+◌, ◌*◌, ◌<◌, ◌≤◌, Bool, true, false, cond, eqb, ltb, ◌⊎◌, List, [], ◌∷◌, ◌++◌, length, Some, None, Option, sym, refl, ap, ◌∙◌, subst, inl, inr, arith, length-append}
use mathlib.Core.Path.{fun_ext}
use native.Mathlib.Decide.{ℕ_discrete}
use Rattle.std.proofs.lemmas.Bool.{both_ways, cases_Bool, eq-eqb, ne_eqb, eqb-true, lt-ltb, ltb-true}
use Rattle.spans.specs.Kind.{Kind, Laws, reach, ◌<⟨◌⟩◌, ◌≤⟨◌⟩◌}
use Rattle.spans.specs.Sums.{◌⊕⟨◌⟩◌}
use Rattle.spans.proofs.Group.{sum_some, comm, zero_right}
use Rattle.networks.specs.Limits.{largest_end}
use Rattle.networks.specs.Network.{Network}
use Rattle.distances.specs.Graph.{Edge, Chain, stay, go, Route, NegativeCycle}
use Rattle.distances.specs.Distance.{Least}
use Rattle.distances.specs.declared.link.Link.TheVariants.{Direct, Over}
use Rattle.distances.specs.Table.{Table, Links, is_direct, rank, joined, below_zero, AtMost, shortens, stage, stage_links, closes, Small, Done}
use Rattle.distances.specs.Unfolding.{Unfolds, edge, halves, Falls}
use Rattle.distances.specs.Edges.{weight, least_edge}
use Rattle.distances.specs.Begun.{begun}
use Rattle.distances.specs.Closing.{IsClosingEdge}
use Rattle.distances.proofs.Links.{direct_rank, direct_code}
use Rattle.distances.proofs.Distincts.{Among, Apart, apart_last, apart_distinct}
use Rattle.distances.proofs.Tables.{ClosedBelow, Even, Zeros, Staged, none_some, joined_parts, stage_cases, stage_old, stage_closed, stage_even, all_closed}
use Rattle.distances.proofs.Pieces.{Split, Pieced, direct, one_edge, split, shortened, shortened_off, links_low, stage_pieced, fair}
use Rattle.distances.proofs.Chains.{Sound, chain_size, chain_append, chain_entry, route_few}
use Rattle.distances.proofs.Ways.{Simple, a_way, way_chain, way_few, stage_simple}
use Rattle.distances.proofs.LeastEdges.{weight_coded, least_edge_real, least_edge_least}

pub record Stands {S : Type 0} (K : Kind S) (N : Network S) (b : ℕ) (d : Table S) (links : Links) (k : ℕ) : Type 0 where
  pub inside : (i j : ℕ) (a : S) → d i j ≡ Some a → (i < N.points) × (j < N.points)
  pub diagonal : (i : ℕ) → i < N.points → d i i ≡ Some K.zero
  pub small : Small K d b
  pub below : (c i j : ℕ) (a : S) → Edge K N c i j a → AtMost K (d i j) a
  pub low : (i j : ℕ) → rank (links i j) ≤ k
  pub there : (i j m : ℕ) → links i j ≡ Over m → (i ≡ j → ⊥) × ((a : S) × (d i j ≡ Some a))
  pub closed : ClosedBelow K d k
  pub even : Even K d k
  pub pieced : Pieced K N d links k
  pub simple : Simple K d links

-- the limit on totals, as a number b: a route has fewer edges than there are points, and sums of some totals are there
module _ {S : Type 0} {K : Kind S} (laws : Laws S K) (N : Network S) (sound : Sound K N)
    (b : ℕ) (wide : N.points * largest_end ≤ b) (room : 16 * b ≤ reach) where
  -- ---- the start
  begun_either : (i j : ℕ) (a : S) → begun K N i j ≡ Some a
      → ((i ≡ j) × (i < N.points) × (K.zero ≡ a)) ⊎ ((i ≡ j → ⊥) × ((c : ℕ) × (least_edge K N (length N.conditions) i j ≡ Some (a, c))))
  begun_either i j a e = by_tests (eqb i j) (ltb i N.points) refl refl (ℕ_discrete i j) e
    where
      by_tests : (s t : Bool) → eqb i j ≡ s → ltb i N.points ≡ t → Dec (i ≡ j)
          → cond s (cond t (Some K.zero) None) (weight (least_edge K N (length N.conditions) i j)) ≡ Some a
          → ((i ≡ j) × (i < N.points) × (K.zero ≡ a)) ⊎ ((i ≡ j → ⊥) × ((c : ℕ) × (least_edge K N (length N.conditions) i j ≡ Some (a, c))))
      by_tests true true f g o e = inl (eqb-true i j f, ltb-true i N.points g, cc)
      by_tests true false f g o e = none_some e
      by_tests false t f g (yes o) e = absurd (both_ways _ f (eq-eqb i j o))
      by_tests false t f g (no o) e = inr (o, weight_coded _ a e)

  real : (i j : ℕ) (a : S) (c : ℕ) → least_edge K N (length N.conditions) i j ≡ Some (a, c) → Edge K N c i j a
  real i j a c e = least_edge_real K N (length N.conditions) (omega arith) i j a c e

  pub stands_begun : (links : Links) → ((i j c : ℕ) (a : S) → least_edge K N (length N.conditions) i j ≡ Some (a, c) → links i j ≡ Direct c)
      → ((i j : ℕ) → is_direct (links i j) ≡ true) → 1 ≤ N.points → Stands K N b (begun K N) links 0
  stands_begun links coded straight some = record {
    inside = λ i j a e. elim (begun_either i j a e) [
      | inl (o, l, z) ↦ (l, omega arith)
      | inr (o, (c, x)) ↦ sound.inside c i j a (real i j a c x)
    ];
    diagonal = λ i l. rw (eq-eqb i i refl, lt-ltb i N.points l) refl;
    small = λ i j a e. elim (begun_either i j a e) [
      | inl (o, l, z) ↦ omega (arith, ap K.size z, laws.zero_size)
      | inr (o, (c, x)) ↦ omega (arith, sound.light c i j a (real i j a c x))
    ];
    below = λ c i j a e. rw (ne_eqb i j (sound.off c i j a e)) (least_edge_least laws N c i j a e);
    low = λ i j. omega (arith, direct_rank (links i j) (straight i j));
    there = λ i j m e. absurd (both_ways _ (ap is_direct e) (straight i j));
    closed = λ i m j a c off l x y. absurd (omega arith);
    even = λ i j a c li lj off x y. absurd (omega arith);
    pieced = λ i j a off e. elim (begun_either i j a e) [
      | inl (o, l, z) ↦ absurd (off o)
      | inr (o, (c, x)) ↦ direct c (coded i j c a x) (real i j a c x)
    ];
    simple = λ i j a cs ps off e x. alone i j cs ps off x;
  }
    where
      alone : (i j : ℕ) (cs ps : List ℕ) → (i ≡ j → ⊥) → Unfolds links i j cs ps → Apart ps × (Among j ps → ⊥)
      alone i j cs ps off (edge c e) = (((λ m. m), tt), λ m. elim m [ inl o ↦ off (sym o) | inr o ↦ o ])
      alone i j cs ps off (halves m e x y) = absurd (both_ways _ (ap is_direct e) (straight i j))

  -- ---- middles fall, so that ways can be unfolded
  falls_from : (d : Table S) (links : Links) (k : ℕ) → k ≤ N.points
      → ((i j m : ℕ) → links i j ≡ Over m → (i ≡ j → ⊥) × ((a : S) × (d i j ≡ Some a))) → Pieced K N d links k → Falls N.points links
  falls_from d links k l there pieced = record {
    inside = λ i j m e. (let s = parts i j m e in omega (arith, s.1.low));
    first = λ i j m e. (parts i j m e).1.first_low;
    second = λ i j m e. (parts i j m e).1.second_low;
  }
    where
      parts : (i j m : ℕ) → links i j ≡ Over m → (a : S) × Split K N d links k i j a m
      parts i j m e = let (off, (a, p)) = there i j m e in (a, split K N d links k i j a m e (pieced i j a off p))

  -- an entry is the total of few edges, so it is small
  small_again : (d : Table S) (links : Links) (k : ℕ) → k ≤ N.points → ((i j : ℕ) (a : S) → d i j ≡ Some a → (i < N.points) × (j < N.points))
      → ((i : ℕ) → i < N.points → d i i ≡ Some K.zero)
      → ((i j m : ℕ) → links i j ≡ Over m → (i ≡ j → ⊥) × ((a : S) × (d i j ≡ Some a))) → Pieced K N d links k → Simple K d links → Small K d b
  small_again d links k l inside diagonal there pieced simple i j a p = by_points (ℕ_discrete i j)
    where
      by_points : Dec (i ≡ j) → K.size a ≤ b
      by_points (yes e) =
          let q : d i i ≡ Some K.zero = diagonal i (inside i j a p).0 in
          let r : d i i ≡ Some a = subst (λ (o : ℕ). d i o ≡ Some a) (sym e) p in
          let s : a ≡ K.zero = cc in
          omega (arith, ap K.size s, laws.zero_size)
      by_points (no off) =
          let (cs, ps, x) = a_way N.points links (falls_from d links k l there pieced) i j in
          let few = way_few laws N d links k pieced N.points l inside simple x a off p in
          omega (arith, chain_size laws N sound (way_chain laws N d links k pieced sound x a off p (omega arith)))

  -- ---- a stage before which no edge closes a way below zero
  module _ (d : Table S) (links : Links) (k : ℕ) (s : Stands K N b d links k) (lk : k < N.points) where
    zeros : Zeros K d
    zeros i j a e = (s.diagonal i (s.inside i j a e).0, s.diagonal j (s.inside i j a e).1)

    module _ (none : (i : ℕ) → i < k → closes K d links k i ≡ false) where
      staged : Staged K d k b
      staged = record {
        room = room;
        small = s.small;
        zeros = zeros;
        here = s.diagonal k lk;
        closed = s.closed;
        fair = fair laws N d links k b room s.small s.closed s.pieced none;
      }

      inside_after : (i j : ℕ) (a : S) → stage K d k i j ≡ Some a → (i < N.points) × (j < N.points)
      inside_after i j a e = elim (stage_cases laws d k i j a e) [
        | inl p ↦ s.inside i j a p
        | inr (x, y, p, q, r) ↦ ((s.inside i k x p).0, (s.inside k j y q).1)
      ]

      diagonal_after : (i : ℕ) → i < N.points → stage K d k i i ≡ Some K.zero
      diagonal_after i l = rw (eq-eqb i i refl) (s.diagonal i l)

      there_after : (i j m : ℕ) → stage_links K d links k i j ≡ Over m → (i ≡ j → ⊥) × ((a : S) × (stage K d k i j ≡ Some a))
      there_after i j m e = elim (cases_Bool (shortens K d k i j)) [
        | inl h ↦ (let (x, y, p, q, sum, less) = shortened laws d k i j h in (shortened_off laws d k i j h, (x ⊕⟨ K ⟩ y, rw h sum)))
        | inr h ↦ (let (off, (a, p)) = s.there i j m (rw h at e) in (off, (a, rw h p)))
      ]

      pieced_after : Pieced K N (stage K d k) (stage_links K d links k) (suc k)
      pieced_after = stage_pieced laws d k b staged N links s.low s.pieced

      simple_after : Simple K (stage K d k) (stage_links K d links k)
      simple_after = stage_simple laws N d links k b staged s.pieced s.simple

      stands_after : Stands K N b (stage K d k) (stage_links K d links k) (suc k)
      stands_after = record {
        inside = inside_after;
        diagonal = diagonal_after;
        small = small_again (stage K d k) (stage_links K d links k) (suc k) lk inside_after diagonal_after there_after pieced_after simple_after;
        below = λ c i j a e. stage_old laws d k i j a (sound.off c i j a e) (s.below c i j a e);
        low = links_low laws d k b staged N links s.low s.pieced;
        there = there_after;
        closed = stage_closed laws d k b staged;
        even = stage_even laws d k b staged s.even;
        pieced = pieced_after;
        simple = simple_after;
      }

      -- of tables that are the stage's at each two points
      pub stands_next : (e : Table S) (m : Links) → ((p q : ℕ) → e p q ≡ stage K d k p q) → ((p q : ℕ) → m p q ≡ stage_links K d links k p q)
          → Stands K N b e m (k + 1)
      stands_next e m p q =
          let x : e ≡ stage K d k = fun_ext (λ i. fun_ext (λ j. p i j)) in
          let y : m ≡ stage_links K d links k = fun_ext (λ i. fun_ext (λ j. q i j)) in
          let z : k + 1 ≡ suc k = omega arith in
          rw (x, y, z) stands_after

    -- ---- an edge that closes a way below zero
    module _ (i : ℕ) (li : i < k) (found : closes K d links k i ≡ true) where
      abbrev Parts : Type 0
      Parts = (is_direct (links i k) ≡ true) × ((a : S) × (c : S) × (d i k ≡ Some a) × (d k i ≡ Some c) × ((a ⊕⟨ K ⟩ c) <⟨ K ⟩ K.zero))

      parts : Parts
      parts = by_test (is_direct (links i k)) refl found
        where
          sum_below : (o : Option S) → joined K (d i k) (d k i) ≡ o → below_zero K o ≡ true
              → (a : S) × (c : S) × (d i k ≡ Some a) × (d k i ≡ Some c) × ((a ⊕⟨ K ⟩ c) <⟨ K ⟩ K.zero)
          sum_below None e h = absurd (both_ways _ refl h)
          sum_below (Some t) e h =
              let (a, c, p, q, adds) = joined_parts laws (d i k) (d k i) t e in
              (a, c, p, q, subst (λ (o : S). o <⟨ K ⟩ K.zero) adds h)

          by_test : (t : Bool) → is_direct (links i k) ≡ t → cond t (below_zero K (joined K (d i k) (d k i))) false ≡ true → Parts
          by_test true e h = (e, sum_below _ refl h)
          by_test false e h = absurd (both_ways _ refl h)

      -- its code
      pub closing_code : (code : ℕ) × (links i k ≡ Direct code)
      closing_code = direct_code (links i k) parts.0

      pub closing_edge : (code : ℕ) → links i k ≡ Direct code → IsClosingEdge K N links k i code
      closing_edge code back = record {
        falls = falls_from d links k (omega arith) s.there s.pieced;
        back = back;
        few = λ cs ps x. few cs ps x;
        negative = λ cs ps x. negative cs ps x;
      }
        where
          off : k ≡ i → ⊥
          off e = omega arith

          few : (cs ps : List ℕ) → Unfolds links k i cs ps → suc (length cs) ≤ N.points
          few cs ps x =
              let (e, (a, c, p, q, h)) = parts in
              way_few laws N d links k s.pieced N.points (omega arith) s.inside s.simple x c off q

          negative : (cs ps : List ℕ) → Unfolds links k i cs ps → NegativeCycle K N (cs ++ code ∷ [])
          negative cs ps x =
              let (e, (a, c, p, q, h)) = parts in
              let size = few cs ps x in
              let last : Edge K N code i k a = one_edge K N d links k i k a code back (s.pieced i k a (λ o. off (sym o)) p) in
              let za = s.small i k a p in
              let zc = s.small k i c q in
              let alone : Chain K N i k (code ∷ []) (i ∷ []) a =
              go last stay (sum_some laws a K.zero (omega (arith, laws.zero_size)) ∙ ap (λ (o : S). Some o) (zero_right laws a (omega arith))) in
              let way = way_chain laws N d links k s.pieced sound x c off q (omega arith) in
              let (apart, not_last) = s.simple k i c cs ps off q x in (
                c ⊕⟨ K ⟩ a,
                (
                  k,
                  ps ++ i ∷ [],
                  chain_append laws N sound (omega arith) way alone,
                  apart_distinct (ps ++ i ∷ []) (apart_last ps i apart not_last),
                  omega (arith, length-append ps (i ∷ [])),
                ),
                rw (comm laws c a (omega arith)) h,
              )

  -- ---- the end
  module _ (d : Table S) (links : Links) (s : Stands K N b d links N.points) where
    pub stands_done : Done K N.points b d
    stands_done = record {
      inside = s.inside;
      diagonal = s.diagonal;
      small = s.small;
      closed = all_closed laws N.points d s.inside s.diagonal s.closed s.even;
    }

    no_less : (i j : ℕ) (cs : List ℕ) (t : S) → j < N.points → Route K N i j cs t → AtMost K (d i j) t
    no_less i j cs t l (ps, x, apart) =
        let few = route_few laws N sound l (ps, x, apart) in
        chain_entry laws N sound d b room s.small stands_done.closed s.below s.diagonal l (omega arith) x

    a_route : (i j : ℕ) (a : S) → i < N.points → d i j ≡ Some a → (cs : List ℕ) × Route K N i j cs a
    a_route i j a li p = by_points (ℕ_discrete i j)
      where
        by_points : Dec (i ≡ j) → (cs : List ℕ) × Route K N i j cs a
        by_points (yes o) =
            let q : d i i ≡ Some a = subst (λ (z : ℕ). d i z ≡ Some a) (sym o) p in
            let z : K.zero ≡ a = cc (s.diagonal i li, q) in
            ([], ([], subst (λ (u : ℕ). Chain K N i u [] [] a) o (subst (λ (u : S). Chain K N i i [] [] u) z stay), apart_distinct (j ∷ []) ((λ m. m), tt)))
        by_points (no off) =
            let (cs, ps, x) = a_way N.points links (falls_from d links N.points (omega arith) s.there s.pieced) i j in
            let few = way_few laws N d links N.points s.pieced N.points (omega arith) s.inside s.simple x a off p in
            let (apart, last) = s.simple i j a cs ps off p x in
            (cs, (ps, way_chain laws N d links N.points s.pieced sound x a off p (omega arith), apart_distinct (ps ++ j ∷ []) (apart_last ps j apart last)))

    pub stands_least : (i j : ℕ) → i < N.points → j < N.points → Least K N i j (d i j)
    stands_least i j li lj = by_entry (d i j) refl
      where
        by_entry : (x : Option S) → d i j ≡ x → Least K N i j x
        by_entry None e = λ cs t r. subst (λ (o : Option S). AtMost K o t) e (no_less i j cs t lj r)
        by_entry (Some a) e = (a_route i j a li e, λ cs u r. subst (λ (o : Option S). AtMost K o u) e (no_less i j cs u lj r))
