-- The lemma about networks: the stages run through, without any call, to a cycle below zero or to least totals. Assumes nothing.
use Rattle.std.proofs.Common.{◌≡◌, ℕ, zero, suc, ◌+◌, ◌*◌, ◌<◌, ◌≤◌, Bool, true, false, ◌⊎◌, List, [], ◌∷◌, ◌++◌, length, Some, None, Option, sym, refl, ap, subst, inl, inr, arith}
use native.Mathlib.Decide.{ℕ_discrete}
use Rattle.std.proofs.lemmas.Bool.{cases_Bool}
use Rattle.spans.specs.Kind.{Kind, Laws, reach, ◌≤⟨◌⟩◌}
use Rattle.spans.specs.Sums.{◌⊕⟨◌⟩◌}
use Rattle.spans.specs.Order.{le_trans, le_antisym}
use Rattle.spans.proofs.Group.{sum_some, le_plus_left}
use Rattle.networks.specs.Limits.{largest_end, largest_date}
use Rattle.networks.specs.Network.{Network}
use Rattle.networks.specs.Hull.{hulls}
use Rattle.networks.specs.Plan.{date, HighKept, Plan, HasPlan}
use Rattle.networks.specs.Legal.{Legal}
use Rattle.distances.specs.Limits.{largest_total}
use Rattle.distances.specs.Graph.{Edge, NegativeCycle}
use Rattle.distances.specs.Distance.{Least, LeastTotals}
use Rattle.distances.specs.declared.link.Link.TheVariants.{Direct}
use Rattle.distances.specs.Table.{Table, Links, AtMost, stage, stage_links, closes, Done}
use Rattle.distances.specs.Edges.{Coded, least_edge}
use Rattle.distances.specs.Begun.{begun}
use Rattle.distances.specs.DateRule.{ByDateRule}
use Rattle.distances.specs.Decided.{DatedDistances, Decided}
use Rattle.distances.proofs.Chains.{Sound, chain_size, route_few}
use Rattle.distances.proofs.Ways.{a_way}
use Rattle.distances.proofs.Stages.{Stands, stands_begun, stands_next, closing_code, closing_edge, stands_done, stands_least}
use Rattle.distances.proofs.Plans.{legal_sound, KeepsEdges, keeping_plan, plan_near, plan_keeps, chain_kept, cycle_no_plan}
use Rattle.distances.proofs.Dating.{rule_keeps, rule_exists, first_zero}
use Rattle.distances.proofs.OneDating.{one_dates}
use Rattle.distances.proofs.Tables.{is_there}

-- the first number below k at which a test holds, or none
first_below : (t : ℕ → Bool) (k : ℕ) → ((i : ℕ) × (i < k) × (t i ≡ true)) ⊎ ((i : ℕ) → i < k → t i ≡ false)
first_below t zero = inr (λ i l. absurd (omega arith))
first_below t (suc k) = elim (first_below t k) [
  | inl (i, l, e) ↦ inl (i, omega arith, e)
  | inr h ↦ elim (cases_Bool (t k)) [
    | inl e ↦ inl (k, omega arith, e)
    | inr e ↦ inr (λ i l. elim (ℕ_discrete i k) [ yes o ↦ subst (λ (z : ℕ). t z ≡ false) (sym o) e | no o ↦ h i (omega arith) ])
  ]
]

abbrev code : {S : Type 0} → Coded S → ℕ
code None = 0
code (Some x) = x.1

module _ {S : Type 0} {K : Kind S} (laws : Laws S K) where
  pub one_least : (N : Network S) (i j : ℕ) (x y : Option S) → Least K N i j x → Least K N i j y → x ≡ y
  one_least N i j None None p q = refl
  one_least N i j None (Some b) p ((cs, r), h) = absurd (p cs b r)
  one_least N i j (Some a) None ((cs, r), h) q = absurd (q cs a r)
  one_least N i j (Some a) (Some b) ((cs, r), h) ((ds, s), k) = ap (λ (o : S). Some o) (le_antisym laws (h ds b s) (k cs a r))

  module _ (N : Network S) (legal : Legal K N) where
    pub sound : Sound K N
    sound = legal_sound laws N legal

    abbrev first_links : Links
    first_links i j = Direct (code (least_edge K N (length N.conditions) i j))

    -- the limits fit: a route's total, and sums of some
    pub wide : N.points * largest_end ≤ largest_total
    wide = omega (arith, legal.few_points)

    pub room : 16 * largest_total ≤ reach
    room = omega arith

    -- ---- dates of a table whose closing is done are a plan of the hulls
    module _ (d : Table S) (done : Done K N.points largest_total d) (below : (c i j : ℕ) (a : S) → Edge K N c i j a → AtMost K (d i j) a) where
      dates_room : 8 * (N.points * largest_total) ≤ reach
      dates_room = omega (arith, legal.few_points)

      pub ruled_plan : (dates : List S) → ByDateRule K d dates N.points → Plan K (hulls N) dates
      ruled_plan dates rule =
          keeping_plan laws N legal dates rule.one_each (first_zero laws d N.points largest_total done dates_room dates rule legal.some_point) near keeps
        where
          near : (p : ℕ) → p < N.points → K.size (date K dates p) ≤ largest_date
          near p l = omega (arith, legal.few_points, (rule_keeps laws d N.points largest_total done dates_room dates rule).0 p l)

          keeps : KeepsEdges laws N legal (date K dates)
          keeps c i j a e =
              let (li, lj) = sound.inside c i j a e in
              let (g, x, h) = is_there laws (d i j) a (below c i j a e) in
              let za = sound.light c i j a e in
              let zg = done.small i j g x in
              let zi = near i li in
              le_trans laws ((rule_keeps laws d N.points largest_total done dates_room dates rule).1 i j g li lj x)
              (le_plus_left laws g a (date K dates i) (omega arith) (omega arith) h)

      pub some_dates : (dates : List S) × ByDateRule K d dates N.points
      some_dates = rule_exists laws d N.points largest_total done dates_room

    -- ---- the stages run through
    run : (f k : ℕ) → k + f ≡ N.points → (d : Table S) (links : Links) → Stands K N largest_total d links k
        → ((cs : List ℕ) × NegativeCycle K N cs) ⊎ ((e : Table S) × (m : Links) × Stands K N largest_total e m N.points)
    run zero k e d links s = inr (d, links, subst (λ (o : ℕ). Stands K N largest_total d links o) (let z : k ≡ N.points = omega arith in z) s)
    run (suc f) k e d links s = elim (first_below (closes K d links k) k) [
      | inl (i, li, found) ↦ (
          let (code, back) = closing_code laws N sound largest_total wide room d links k s (omega arith) i li found in
          let c = closing_edge laws N sound largest_total wide room d links k s (omega arith) i li found code back in
          let (cs, ps, x) = a_way N.points links c.falls k i in
          inl (cs ++ code ∷ [], c.negative cs ps x))
      | inr none ↦ run f (k + 1) (omega arith) (stage K d k) (stage_links K d links k)
          (stands_next laws N sound largest_total wide room d links k s (omega arith) none
          (stage K d k) (stage_links K d links k) (λ p q. refl) (λ p q. refl))
    ]

    -- an entry is the total of a route, and plans keep routes
    entry_kept : (plan : List S) → Plan K (hulls N) plan → (i j : ℕ) (x : Option S) → j < N.points → Least K N i j x → HighKept K x (date K plan i) (date K plan j)
    entry_kept plan p i j None lj least = tt
    entry_kept plan p i j (Some a) lj ((cs, (ps, x, apart)), least) =
        let few = route_few laws N sound lj (ps, x, apart) in
        let most = legal.few_points in
        let za = chain_size laws N sound x in
        let zi = plan_near laws N legal plan p i in
        (date K plan i ⊕⟨ K ⟩ a, sum_some laws (date K plan i) a (omega arith), chain_kept laws N legal (date K plan) p.in_reach (plan_keeps laws N legal plan p) lj (omega arith) x)

    dated : (d : Table S) (links : Links) → Stands K N largest_total d links N.points
        → (entry : Table S) × (dates : List S) × DatedDistances K N entry dates
    dated d links s =
        let done = stands_done laws N sound largest_total wide room d links s in
        let least = stands_least laws N sound largest_total wide room d links s in
        let (dates, rule) = some_dates d done s.below in (
          d,
          dates,
          record {
            least = least;
            ruled = rule;
            plan = ruled_plan d done s.below dates rule;
            kept = λ plan p i j li lj. entry_kept plan p i j (d i j) lj (least i j li lj);
            only_totals = λ other totals i j li lj. one_least N i j (other i j) (d i j) (totals i j li lj) (least i j li lj);
            only_dates = λ other again totals ruled. one_dates laws other d N.points (λ i j li lj. one_least N i j (other i j) (d i j) (totals i j li lj) (least i j li lj)) again dates ruled rule;
          },
        )

    ran : ((cs : List ℕ) × NegativeCycle K N cs) ⊎ ((d : Table S) × (links : Links) × Stands K N largest_total d links N.points)
    ran =
        run N.points 0 (omega arith) (begun K N) first_links
        (stands_begun laws N sound largest_total wide room first_links (λ i j c a e. ap (λ x. Direct (code x)) e) (λ i j. refl) legal.some_point)

    pub decided : Decided K N
    decided = elim ran [
      | inl (cs, c) ↦ inl (cs, c, cycle_no_plan laws N legal cs c)
      | inr (d, links, s) ↦ inr (dated d links s)
    ]

    -- where the hulls have a plan, the table of least totals
    pub done_table : HasPlan K (hulls N)
        → (d : Table S) × Done K N.points largest_total d × LeastTotals K N d × ((c i j : ℕ) (a : S) → Edge K N c i j a → AtMost K (d i j) a)
    done_table plan = elim ran [
      | inl (cs, c) ↦ absurd (cycle_no_plan laws N legal cs c plan)
      | inr (d, links, s) ↦ (d, stands_done laws N sound largest_total wide room d links s, stands_least laws N sound largest_total wide room d links s, s.below)
    ]
