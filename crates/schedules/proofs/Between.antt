-- A distance between two points that the entries both ways allow occurs in some plan of the hulls, and no other does. Assumes nothing.
use Rattle.std.proofs.Common.{◌≡◌, ℕ, suc, ◌*◌, ◌<◌, ◌≤◌, List, Some, None, Option, unwrap_or, sym, refl, ap, ◌∙◌, subst, inl, inr, arith}
use Rattle.spans.specs.Kind.{Kind, Laws, reach, ◌≤⟨◌⟩◌}
use Rattle.spans.specs.Sums.{◌⊕⟨◌⟩◌, ⊖⟨◌⟩◌}
use Rattle.spans.specs.Order.{le_of_eq, le_trans}
use Rattle.spans.proofs.Group.{opposite_some, opposite_size, inverse_left, le_plus, le_plus_left, take_away}
use Rattle.networks.specs.Limits.{largest_date, largest_distance}
use Rattle.networks.specs.Network.{Network}
use Rattle.networks.specs.Hull.{hulls}
use Rattle.networks.specs.Plan.{date, HighKept, Plan, HasPlan}
use Rattle.networks.specs.Legal.{Legal}
use Rattle.distances.specs.Limits.{largest_total}
use Rattle.distances.specs.Graph.{Edge}
use Rattle.distances.specs.Distance.{Least, LeastTotals}
use Rattle.distances.specs.DateRule.{ByDateRule}
use Rattle.distances.specs.Table.{Table, AtMost, Done}
use Rattle.distances.specs.Edges.{opposite_end}
use Rattle.distances.proofs.Tables.{none_some, is_there}
use Rattle.distances.proofs.Chains.{chain_size, route_few}
use Rattle.distances.proofs.Plans.{KeepsEdges, keeping_plan}
use Rattle.distances.proofs.Dating.{rule_keeps, rule_exists, first_zero}
use Rattle.distances.proofs.Deciding.{sound, one_least, decided, done_table}
use Rattle.schedules.specs.Range.{ApartBy}
use Rattle.schedules.proofs.Apart.{furthest, comes_after, apart_by, apart_at_most, apart_at_least}
use Rattle.schedules.proofs.Adding.{Added, Free, an_added, old_at_most, added_done, edge_kept, edge_entry}

-- ---- the table with an edge each way, of weight s and its opposite
module _ {S : Type 0} {K : Kind S} (laws : Laws S K) (N : Network S) (legal : Legal K N) (d : Table S) (done : Done K N.points largest_total d)
    (below : (c i j : ℕ) (a : S) → Edge K N c i j a → AtMost K (d i j) a) (i j : ℕ) (li : i < N.points) (lj : j < N.points)
    (s : S) (small : K.size s ≤ furthest) (low : Free K d i j s) (high : (a : S) → d i j ≡ Some a → s ≤⟨ K ⟩ a) where
  wider : Done K N.points furthest d
  wider = record {
    inside = done.inside;
    diagonal = done.diagonal;
    small = λ p q a e. omega (arith, done.small p q a e);
    closed = done.closed;
  }

  module _ (e : Table S) (one : Added K d i j s e) where
    one_done : Done K N.points (3 * furthest) e
    one_done = added_done laws d i j s N.points furthest (omega arith) small wider li lj low e one

    -- the way back is free too, since s is not above the entry
    free_back : Free K e j i (⊖⟨ K ⟩ s)
    free_back c x =
        let zo = opposite_size laws s in
        let zc = one_done.small i j c x in
        let least : s ≤⟨ K ⟩ c = elim (edge_entry laws d i j s N.points furthest (omega arith) small wider li lj low e one c x) [
          | inl h ↦ high c h
          | inr h ↦ le_of_eq laws (sym h)
        ] in
        rw (inverse_left laws s (omega arith)) at (le_plus_left laws s c (⊖⟨ K ⟩ s) (omega arith) (omega arith) least)

    module _ (f : Table S) (both : Added K e j i (⊖⟨ K ⟩ s) f) where
      light : K.size (⊖⟨ K ⟩ s) ≤ 3 * furthest
      light = omega (arith, opposite_size laws s)

      both_done : Done K N.points (3 * (3 * furthest)) f
      both_done = added_done laws e j i (⊖⟨ K ⟩ s) N.points (3 * furthest) (omega arith) light one_done lj li free_back f both

      far_room : 8 * (N.points * (3 * (3 * furthest))) ≤ reach
      far_room = omega (arith, legal.few_points)

      module _ (dates : List S) (rule : ByDateRule K f dates N.points) where
        near : (p : ℕ) → p < N.points → K.size (date K dates p) ≤ largest_date
        near p l = omega (arith, legal.few_points, (rule_keeps laws f N.points (3 * (3 * furthest)) both_done far_room dates rule).0 p l)

        -- what the table has once both edges are added is kept
        kept : (p q : ℕ) (a : S) → p < N.points → q < N.points → K.size a ≤ 3 * furthest → AtMost K (f p q) a
            → date K dates q ≤⟨ K ⟩ (date K dates p ⊕⟨ K ⟩ a)
        kept p q a lp lq za h =
            let (g, x, less) = is_there laws (f p q) a h in
            let zg = both_done.small p q g x in
            let zp = near p lp in
            le_trans laws ((rule_keeps laws f N.points (3 * (3 * furthest)) both_done far_room dates rule).1 p q g lp lq x)
            (le_plus_left laws g a (date K dates p) (omega arith) (omega arith) less)

        -- and so is what it had after the first one, or before
        kept_first : (p q : ℕ) (a : S) → p < N.points → q < N.points → K.size a ≤ 3 * furthest → AtMost K (e p q) a
            → date K dates q ≤⟨ K ⟩ (date K dates p ⊕⟨ K ⟩ a)
        kept_first p q a lp lq za h = kept p q a lp lq za (old_at_most laws e j i (⊖⟨ K ⟩ s) f both p q a h)

        keeps : KeepsEdges laws N legal (date K dates)
        keeps c p q a x =
            let (lp, lq) = (sound laws N legal).inside c p q a x in
            let za = (sound laws N legal).light c p q a x in
            kept_first p q a lp lq (omega arith) (old_at_most laws d i j s e one p q a (below c p q a x))

        plan : Plan K (hulls N) dates
        plan =
            keeping_plan laws N legal dates rule.one_each
            (first_zero laws f N.points (3 * (3 * furthest)) both_done far_room dates rule legal.some_point) near keeps

        apart : ApartBy K dates i j s
        apart =
            let ahead = kept_first i j s li lj (omega arith) (edge_kept laws d i j s N.points furthest (omega arith) small wider li lj low e one) in
            let back = kept j i (⊖⟨ K ⟩ s) lj li light
            (edge_kept laws e j i (⊖⟨ K ⟩ s) N.points (3 * furthest) (omega arith) light one_done lj li free_back f both) in
            apart_by laws dates i j (near i li) s small
            (comes_after laws (date K dates i) (date K dates j) s (near i li) (near j lj) small ahead back)

      dated_apart : (dates : List S) × Plan K (hulls N) dates × ApartBy K dates i j s
      dated_apart =
          let (dates, rule) = rule_exists laws f N.points (3 * (3 * furthest)) both_done far_room in
          (dates, plan dates rule, apart dates rule)

  -- every distance that the table allows occurs
  pub table_allows : (dates : List S) × Plan K (hulls N) dates × ApartBy K dates i j s
  table_allows =
      let (e, one) = an_added laws d i j s in
      let (f, both) = an_added laws e j i (⊖⟨ K ⟩ s) in
      dated_apart e one f both

-- ---- with the least totals of a network whose hulls have a plan
module _ {S : Type 0} {K : Kind S} (laws : Laws S K) (N : Network S) (legal : Legal K N) (entry : Table S) (least : LeastTotals K N entry)
    (i j : ℕ) (li : i < N.points) (lj : j < N.points) where
  -- a total is small: 47 edges of at most 2^24 each stay below 2^30
  pub total_small : (a : S) → entry i j ≡ Some a → suc (K.size a) ≤ largest_distance
  total_small a e =
      let ((cs, (ps, x, apart)), low) = subst (Least K N i j) e (least i j li lj) in
      let few = route_few laws N (sound laws N legal) lj (ps, x, apart) in
      omega (arith, chain_size laws N (sound laws N legal) x, legal.few_points)

  -- every plan keeps it
  pub total_kept : HasPlan K (hulls N) → (dates : List S) → Plan K (hulls N) dates → HighKept K (entry i j) (date K dates i) (date K dates j)
  total_kept has dates plan = elim (decided laws N legal) [
    | inl (cs, c, none) ↦ absurd (none has)
    | inr (other, again, d) ↦
        subst (λ (x : Option S). HighKept K x (date K dates i) (date K dates j)) (sym (d.only_totals entry least i j li lj)) (d.kept dates plan i j li lj)
  ]

module _ {S : Type 0} {K : Kind S} (laws : Laws S K) (N : Network S) (legal : Legal K N) (entry : Table S) (least : LeastTotals K N entry)
    (i j : ℕ) (li : i < N.points) (lj : j < N.points) where
  module _ (dates : List S) (plan : Plan K (hulls N) dates) (t : S) (apart : ApartBy K dates i j t) where
    -- no distance is above the entry ahead
    pub not_above : (a : S) → entry i j ≡ Some a → t ≤⟨ K ⟩ a
    not_above a e =
        let (s, adds, h) = subst (λ (x : Option S). HighKept K x (date K dates i) (date K dates j)) e (total_kept laws N legal entry least i j li lj (dates, plan) dates plan) in
        apart_at_most laws dates i j (plan.in_reach i li) (plan.in_reach j lj) t apart a (omega (arith, total_small laws N legal entry least i j li lj a e))
        (subst (λ (x : S). date K dates j ≤⟨ K ⟩ x) (sym (ap (λ (o : Option S). unwrap_or o K.zero) adds)) h)

    -- and none is below the opposite of the entry back
    pub not_below : (a : S) → opposite_end K (entry j i) ≡ Some a → a ≤⟨ K ⟩ t
    not_below a e = by_entry (entry j i) refl e
      where
        by_entry : (x : Option S) → entry j i ≡ x → opposite_end K x ≡ Some a → a ≤⟨ K ⟩ t
        by_entry None e o = none_some o
        by_entry (Some c) e o =
            let (s, adds, h) = subst (λ (x : Option S). HighKept K x (date K dates j) (date K dates i)) e (total_kept laws N legal entry least j i lj li (dates, plan) dates plan) in
            let zc = total_small laws N legal entry least j i lj li c e in
            let zo = opposite_size laws c in
            let zi = plan.in_reach i li in
            let zj = plan.in_reach j lj in
            let back : date K dates i ≤⟨ K ⟩ (date K dates j ⊕⟨ K ⟩ c) = subst (λ (x : S). date K dates i ≤⟨ K ⟩ x) (sym (ap (λ (o : Option S). unwrap_or o K.zero) adds)) h in
            let is : ⊖⟨ K ⟩ c ≡ a = ap (λ (o : Option S). unwrap_or o K.zero) o in
            subst (λ (x : S). x ≤⟨ K ⟩ t) is
            (apart_at_least laws dates i j zi zj t apart (⊖⟨ K ⟩ c) (omega arith)
            (take_away laws (date K dates i) (date K dates j) c (omega arith) back))

  -- every distance between the two occurs
  pub between : HasPlan K (hulls N) → (s : S) → K.size s ≤ furthest
      → ((a : S) → opposite_end K (entry j i) ≡ Some a → a ≤⟨ K ⟩ s) → ((a : S) → entry i j ≡ Some a → s ≤⟨ K ⟩ a)
      → (dates : List S) × Plan K (hulls N) dates × ApartBy K dates i j s
  between has s small low high =
      let (d, done, totals, below) = done_table laws N legal has in
      let same : (p q : ℕ) → p < N.points → q < N.points → entry p q ≡ d p q =
      λ p q lp lq. one_least laws N p q (entry p q) (d p q) (least p q lp lq) (totals p q lp lq) in
      table_allows laws N legal d done below i j li lj s small
      (λ c e. free c (same j i lj li ∙ e)) (λ a e. high a (same i j li lj ∙ e))
    where
      free : (c : S) → entry j i ≡ Some c → K.zero ≤⟨ K ⟩ (s ⊕⟨ K ⟩ c)
      free c e =
          let zc = total_small laws N legal entry least j i lj li c e in
          let zo = opposite_size laws c in
          rw (inverse_left laws c (omega arith)) at
          (le_plus laws (⊖⟨ K ⟩ c) s c (omega arith) (omega arith)
          (low (⊖⟨ K ⟩ c) (ap (opposite_end K) e ∙ opposite_some laws c (omega arith))))
