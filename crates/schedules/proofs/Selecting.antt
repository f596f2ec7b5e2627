-- Selections, whole and in part: their own hulls, their legality, and their plans, which together are the network's. Assumes nothing.
--     Agrees place vs ws           the numbers below `place` are the same
--     NumbersThere N ws place     below `place` each number is that of a window
--     Lone N ws place next         from `place` up to `next` each condition has a single window, and its number is 0
use Rattle.std.proofs.Common.{◌≡◌, ℕ, zero, suc, ◌+◌, ◌-◌, ◌<◌, ◌≤◌, Bool, true, false, cond, ltb, ◌⊎◌, List, [], ◌∷◌, length, get_or, Some, sym, refl, ap, ◌∙◌, subst, ap₂, inl, inr, arith, ext_get_or}
use native.Mathlib.Decide.{ℕ_discrete}
use Rattle.std.proofs.lemmas.List.{get_or_past, length-map}
use Rattle.std.proofs.lemmas.Bool.{lt-ltb, le-ltb, cases_lt}
use Rattle.spans.specs.Kind.{Kind, Laws, ◌≤⟨◌⟩◌}
use Rattle.networks.specs.declared.window.Window.{Window}
use Rattle.networks.specs.Limits.{largest_end}
use Rattle.networks.specs.Network.{Condition, Network, no_condition, open_window, condition_at, window_of}
use Rattle.networks.specs.Hull.{hull_windows_lem, hull, hulls}
use Rattle.networks.specs.Plan.{date, Fits, Meets, Plan}
use Rattle.networks.specs.Selection.{only, selected, chosen, Selection}
use Rattle.networks.specs.Refusal.{choices}
use Rattle.schedules.specs.Choosing.{Agrees, Lone, NumbersThere}
use Rattle.networks.specs.Legal.{Legal, LegalCondition}
use Rattle.layers.proofs.Hulls.{hull_at, hull_points, hull_one, hull_low_lem, hull_high_lem}
use Rattle.layers.proofs.Selections.{selected_length, selected_in, selected_past, selected_points, selected_one, selected_window, chosen_below, chosen_above, chosen_points}
use Rattle.distances.proofs.Tables.{none_some}
use Rattle.schedules.proofs.Rising.{plan_with, first_below, plan_of_hulls}

-- ---- the windows of one condition
module _ {S : Type 0} where
  -- at most one window is its own hull
  own_hull : (c : Condition S) → length c.windows ≤ 1 → hull c ≡ c
  own_hull c h = ap (λ (vs : List (Window S)). record { from = c.from; to = c.to; windows = vs }) (by_windows c.windows h)
    where
      by_windows : (vs : List (Window S)) → length vs ≤ 1 → hull_windows_lem vs ≡ vs
      by_windows [] h = refl
      by_windows (v ∷ []) h = refl
      by_windows (v ∷ u ∷ vs) h = absurd (omega arith)

  hull_few : (c : Condition S) → length (hull c).windows ≤ 1
  hull_few c = by_windows c.windows
    where
      by_windows : (vs : List (Window S)) → length (hull_windows_lem vs) ≤ 1
      by_windows [] = omega arith
      by_windows (v ∷ vs) = omega arith

  only_few : (c : Condition S) (w : ℕ) → length (only c w).windows ≤ 1
  only_few c w = by_test (ltb w (length c.windows))
    where
      by_test : (t : Bool) → length (cond t (window_of c w ∷ []) []) ≤ 1
      by_test true = omega arith
      by_test false = omega arith

  only_there : (c : Condition S) (w : ℕ) → w < length c.windows → only c w ≡ record { from = c.from; to = c.to; windows = window_of c w ∷ [] }
  only_there c w l = rw (lt-ltb w (length c.windows) l)

  -- the hull of a single window, and that window
  only_hull : (c : Condition S) → length c.windows ≡ 1 → only c 0 ≡ hull c
  only_hull c e =
      let l : 0 < length c.windows = omega arith in
      only_there c 0 l ∙ ap (λ (vs : List (Window S)). record { from = c.from; to = c.to; windows = vs }) (by_windows c.windows e)
    where
      by_windows : (vs : List (Window S)) → length vs ≡ 1 → get_or vs 0 open_window ∷ [] ≡ hull_windows_lem vs
      by_windows [] e = absurd (omega arith)
      by_windows (v ∷ []) e = refl
      by_windows (v ∷ u ∷ vs) e = absurd (omega arith)

-- ---- the same conditions make the same network
module _ {S : Type 0} where
  same_network : (M N : Network S) → M.points ≡ N.points → length M.conditions ≡ length N.conditions
      → ((k : ℕ) → k < length M.conditions → condition_at M k ≡ condition_at N k) → M ≡ N
  same_network M N e l h =
      ap₂ (λ (n : ℕ) (cs : List (Condition S)). record { points = n; conditions = cs }) e (ext_get_or no_condition M.conditions N.conditions l h)

  -- so a network whose conditions have at most one window is its own hulls
  pub few_hulls : (N : Network S) → ((k : ℕ) → k < length N.conditions → length (condition_at N k).windows ≤ 1) → hulls N ≡ N
  few_hulls N few =
      let same = length-map N.conditions hull in
      same_network (hulls N) N refl same (λ k l. hull_at N k ∙ own_hull (condition_at N k) (few k (omega arith)))

module _ {S : Type 0} (N : Network S) (ws : List ℕ) where
  -- nothing is chosen yet
  pub chosen_none : chosen N ws 0 ≡ hulls N
  chosen_none = refl

  -- every window is chosen
  pub chosen_all : chosen N ws (length N.conditions) ≡ selected N ws
  chosen_all =
      let all = (chosen_points N ws (length N.conditions) 0).same_count in
      same_network (chosen N ws (length N.conditions)) (selected N ws) refl (all ∙ sym (selected_length N.conditions ws))
      (λ k l. chosen_below N ws (length N.conditions) k (omega arith))

  selected_few : (k : ℕ) → length (condition_at (selected N ws) k).windows ≤ 1
  selected_few k =
      elim (cases_lt k (length ws)) [
        | inl l ↦ rw (selected_in N ws k l) (only_few (condition_at N k) (get_or ws k 0))
        | inr l ↦ rw (selected_past N ws k l) (omega arith)
      ]

  module _ (place : ℕ) where
    chosen_few : (k : ℕ) → length (condition_at (chosen N ws place) k).windows ≤ 1
    chosen_few k =
        elim (cases_lt k place) [
          | inl l ↦ rw (chosen_below N ws place k l) (selected_few k)
          | inr l ↦ rw (chosen_above N ws place k l, hull_at N k) (hull_few (condition_at N k))
        ]

    -- each condition has at most one window
    pub chosen_hulls : hulls (chosen N ws place) ≡ chosen N ws place
    chosen_hulls = few_hulls (chosen N ws place) (λ k l. chosen_few k)

    -- a condition with a single window is no choice
    pub chosen_skip : place < length N.conditions → length (condition_at N place).windows ≡ 1 → get_or ws place 0 ≡ 0 → place < length ws
        → chosen N ws (place + 1) ≡ chosen N ws place
    chosen_skip lc e z lw =
        same_network (chosen N ws (place + 1)) (chosen N ws place) refl
        ((chosen_points N ws (place + 1) 0).same_count ∙ sym (chosen_points N ws place 0).same_count)
        (λ k l. at k (cases_lt k place))
      where
        here : condition_at (chosen N ws (place + 1)) place ≡ condition_at (chosen N ws place) place
        here =
            chosen_below N ws (place + 1) place (omega arith) ∙ selected_in N ws place lw ∙ ap (only (condition_at N place)) z
            ∙ only_hull (condition_at N place) e ∙ sym (chosen_above N ws place place (omega arith) ∙ hull_at N place)

        at : (k : ℕ) → (k < place) ⊎ (place ≤ k) → condition_at (chosen N ws (place + 1)) k ≡ condition_at (chosen N ws place) k
        at k (inl l) = chosen_below N ws (place + 1) k (omega arith) ∙ sym (chosen_below N ws place k l)
        at k (inr l) = elim (ℕ_discrete k place) [
          | yes same ↦ subst (λ (i : ℕ). condition_at (chosen N ws (place + 1)) i ≡ condition_at (chosen N ws place) i) (sym same) here
          | no other ↦ chosen_above N ws (place + 1) k (omega arith) ∙ sym (chosen_above N ws place k l)
        ]

  -- a selection is its own hulls
  pub own_hulls : hulls (selected N ws) ≡ selected N ws
  own_hulls = ap hulls (sym chosen_all) ∙ chosen_hulls (length N.conditions) ∙ chosen_all

module _ {S : Type 0} (N : Network S) (ws : List ℕ) (place : ℕ) where
  -- so are all from a place up to the next
  pub chosen_skips : (next : ℕ) → place ≤ next → next ≤ length N.conditions → next ≤ length ws → Lone N ws place next
      → chosen N ws next ≡ chosen N ws place
  chosen_skips zero le lc lw lone = let e : 0 ≡ place = omega arith in ap (chosen N ws) e
  chosen_skips (suc next) le lc lw lone = elim (ℕ_discrete place (suc next)) [
    | yes e ↦ ap (chosen N ws) (sym e)
    | no e ↦
        let (one, number) = lone next (omega arith) (omega arith) in
        let more : suc next ≡ next + 1 = omega arith in
        ap (chosen N ws) more ∙ chosen_skip N ws next (omega arith) one number (omega arith)
        ∙ chosen_skips next (omega arith) (omega arith) (omega arith) (λ k h l. lone k h (omega arith))
  ]

-- ---- legality
module _ {S : Type 0} (K : Kind S) (n : ℕ) (c d : Condition S) (legal : LegalCondition K n c) where
  -- one window, from the low end of window v to the high end of window w
  narrowed_legal : (v w : ℕ) → d.from ≡ c.from → d.to ≡ c.to → 1 ≡ length d.windows
      → (window_of c v).low ≡ (window_of d 0).low → (window_of c w).high ≡ (window_of d 0).high
      → ((a b : S) → (window_of c v).low ≡ Some a → (window_of c w).high ≡ Some b → a ≤⟨ K ⟩ b) → LegalCondition K n d
  narrowed_legal v w same_from same_to one same_low same-high order = record {
    from_there = omega arith;
    to_there = omega arith;
    two_points = λ e. legal.two_points (sym same_from ∙ e ∙ same_to);
    some_window = omega arith;
    few_windows = omega arith;
    low_small = low_small;
    high_small = high_small;
    ordered = ordered;
    apart = λ u l. absurd (omega arith);
  }
    where
      past : (u : ℕ) → window_of d (suc u) ≡ open_window
      past u = get_or_past d.windows (suc u) open_window (omega arith)

      low_small : (u : ℕ) (a : S) → (window_of d u).low ≡ Some a → K.size a ≤ largest_end
      low_small zero a e = legal.low_small v a (same_low ∙ e)
      low_small (suc u) a e = none_some (ap (λ (o : Window S). o.low) (sym (past u)) ∙ e)

      high_small : (u : ℕ) (b : S) → (window_of d u).high ≡ Some b → K.size b ≤ largest_end
      high_small zero b e = legal.high_small w b (same-high ∙ e)
      high_small (suc u) b e = none_some (ap (λ (o : Window S). o.high) (sym (past u)) ∙ e)

      ordered : (u : ℕ) (a b : S) → (window_of d u).low ≡ Some a → (window_of d u).high ≡ Some b → a ≤⟨ K ⟩ b
      ordered zero a b e f = order a b (same_low ∙ e) (same-high ∙ f)
      ordered (suc u) a b e f = none_some (ap (λ (o : Window S). o.low) (sym (past u)) ∙ e)

no_choices : {S : Type 0} (cs : List (Condition S)) → ((k : ℕ) → length (get_or cs k no_condition).windows ≤ 1) → choices cs ≡ 0
no_choices [] h = refl
no_choices (c ∷ cs) h = rw (le-ltb 1 (length c.windows) (h 0)) (omega (arith, no_choices cs (λ k. h (suc k))))

module _ {S : Type 0} {K : Kind S} (laws : Laws S K) (N : Network S) (legal : Legal K N) (ws : List ℕ) where
  selected_legal : (k : ℕ) → k < length N.conditions → k < length ws → get_or ws k 0 < length (condition_at N k).windows
      → LegalCondition K N.points (condition_at (selected N ws) k)
  selected_legal k l lw there =
      let right = legal.each_condition k l in
      let joins = selected_points N ws k in
      let w = get_or ws k 0 in
      let is = selected_window N ws k 0 lw refl in
      narrowed_legal K N.points (condition_at N k) (condition_at (selected N ws) k) right w w joins.same_from joins.same_to
      (selected_one N ws k lw there) (ap (λ (o : Window S). o.low) is) (ap (λ (o : Window S). o.high) is) (right.ordered w)

  hull_legal : (k : ℕ) → k < length N.conditions → LegalCondition K N.points (condition_at (hulls N) k)
  hull_legal k l =
      let right = legal.each_condition k l in
      let joins = hull_points N k in
      let m = length (condition_at N k).windows in
      let some : 0 < m = right.some_window in
      narrowed_legal K N.points (condition_at N k) (condition_at (hulls N) k) right 0 (m - 1) joins.same_from joins.same_to
      (hull_one N k (λ e. omega arith)) (hull_low_lem N k 0 refl) (hull_high_lem N k 0 m refl refl some)
      (λ a b. first_below laws N.points (condition_at N k) right (m - 1) a b (omega arith))

  -- a selection in part is legal
  pub legal_chosen : (place : ℕ) → place ≤ length ws → NumbersThere N ws place → Legal K (chosen N ws place)
  legal_chosen place h there = record {
    some_point = legal.some_point;
    few_points = legal.few_points;
    each_condition = each;
    few_conditions = omega (arith, same);
    few_choices = omega (arith, no_choices (chosen N ws place).conditions (chosen_few N ws place));
  }
    where
      same : length (chosen N ws place).conditions ≡ length N.conditions
      same = (chosen_points N ws place 0).same_count

      each : (k : ℕ) → k < length (chosen N ws place).conditions → LegalCondition K N.points (condition_at (chosen N ws place) k)
      each k lk =
          let l : k < length N.conditions = omega (arith, same) in
          elim (cases_lt k place) [
            | inl lp ↦ rw (chosen_below N ws place k lp) (selected_legal k l (omega arith) (there k lp l))
            | inr lp ↦ rw (chosen_above N ws place k lp) (hull_legal k l)
          ]

  -- and a whole one
  pub legal_selected : Selection N ws → Legal K (selected N ws)
  legal_selected s =
      subst (Legal K) (chosen_all N ws)
      (legal_chosen (length N.conditions) (omega (arith, s.one_each)) (λ k l. s.there k))

-- ---- plans
module _ {S : Type 0} (K : Kind S) (dates : List S) where
  only_meets : (c : Condition S) (w : ℕ) → w < length c.windows → Fits K (window_of c w) (date K dates c.from) (date K dates c.to)
      → Meets K dates (only c w)
  only_meets c w l fits = subst (Meets K dates) (sym (only_there c w l)) (0, omega arith, fits)

  meets_only : (c : Condition S) (w : ℕ) → w < length c.windows → Meets K dates (only c w) → Meets K dates c
  meets_only c w l m = first (subst (Meets K dates) (only_there c w l) m)
    where
      first : Meets K dates (record { from = c.from; to = c.to; windows = window_of c w ∷ [] }) → Meets K dates c
      first (zero, o, fits) = (w, l, fits)
      first (suc v, o, fits) = absurd (omega arith)

  numbers_met : (cs : List (Condition S)) → ((k : ℕ) → k < length cs → Meets K dates (get_or cs k no_condition))
      → (ws : List ℕ) × (length ws ≡ length cs)
      × ((k : ℕ) → k < length cs → (get_or ws k 0 < length (get_or cs k no_condition).windows) × Meets K dates (only (get_or cs k no_condition) (get_or ws k 0)))
  numbers_met [] m = ([], refl, λ k l. absurd (omega arith))
  numbers_met (c ∷ cs) m =
      let (w, l, fits) = m 0 (omega arith) in
      let (ws, same, rest) = numbers_met cs (λ k lk. m (suc k) (omega arith)) in
      (w ∷ ws, ap suc same, elim [ zero ↦ λ lk. (l, only_meets c w l fits) | suc k ↦ λ lk. rest k (omega arith) ])

module _ {S : Type 0} {K : Kind S} (N : Network S) where
  -- each condition is met by some window: take its number
  pub plan_selects : (dates : List S) → Plan K N dates → (ws : List ℕ) × Selection N ws × Plan K (selected N ws) dates
  plan_selects dates plan =
      let (ws, same, each) = numbers_met K dates N.conditions plan.meets in
      let count = selected_length N.conditions ws in (
        ws,
        record { one_each = same; there = λ k l. (each k l).0 },
        plan_with (selected N ws) N dates refl plan
            (λ k l. subst (Meets K dates) (sym (selected_in N ws k (omega arith))) (each k (omega arith)).1),
      )

  -- the window that a selection keeps is one of the condition's
  pub selected_plan : (ws : List ℕ) → Selection N ws → (dates : List S) → Plan K (selected N ws) dates → Plan K N dates
  selected_plan ws s dates plan =
      let count = selected_length N.conditions ws in
      plan_with N (selected N ws) dates refl plan
      (λ k l. meets_only K dates (condition_at N k) (get_or ws k 0) (s.there k l)
      (subst (Meets K dates) (selected_in N ws k (omega (arith, s.one_each))) (plan.meets k (omega arith))))

module _ {S : Type 0} {K : Kind S} (laws : Laws S K) (N : Network S) (legal : Legal K N) where
  -- pruning is sound: what goes on from the numbers below a place keeps the hulls of what is chosen there
  pub selected_in_chosen : (vs ws : List ℕ) (place : ℕ) → place ≤ length ws → Selection N vs → Agrees place vs ws
      → (dates : List S) → Plan K (selected N vs) dates → Plan K (hulls (chosen N ws place)) dates
  selected_in_chosen vs ws place h s agrees dates plan =
      subst (λ (M : Network S). Plan K M dates) (sym (chosen_hulls N ws place))
      (plan_with (chosen N ws place) (selected N vs) dates refl plan meets)
    where
      of_hulls : Plan K (hulls N) dates
      of_hulls = plan_of_hulls laws N legal dates (selected_plan N vs s dates plan)

      meets : (k : ℕ) → k < length (chosen N ws place).conditions → Meets K dates (condition_at (chosen N ws place) k)
      meets k l =
          let lc : k < length N.conditions = omega (arith, (chosen_points N ws place 0).same_count) in
          elim (cases_lt k place) [
            | inl lp ↦
                let same : condition_at (selected N vs) k ≡ condition_at (chosen N ws place) k =
                selected_in N vs k (omega (arith, s.one_each)) ∙ ap (only (condition_at N k)) (agrees k lp)
                ∙ sym (chosen_below N ws place k lp ∙ selected_in N ws k (omega arith)) in
                subst (Meets K dates) same (plan.meets k (omega (arith, selected_length N.conditions vs)))
            | inr lp ↦ rw (chosen_above N ws place k lp) (of_hulls.meets k (omega (arith, length-map N.conditions hull)))
          ]
