-- Level by level down the choice conditions: what a refused window, a window that was gone through and a found one show. Assumes nothing.
use Rattle.std.proofs.Common.{◌≡◌, ℕ, suc, ◌+◌, ◌<◌, ◌≤◌, List, [], ◌∷◌, length, get_or, take, Some, None, Option, MatchOption, unwrap_or, sym, refl, ap, ◌∙◌, subst, inl, inr, arith, length-take-le, get_or-take}
use native.Mathlib.Decide.{ℕ_discrete, dec_lt}
use Rattle.std.proofs.lemmas.List.{get_or_past}
use Rattle.std.proofs.lemmas.Bool.{cases_lt}
use Rattle.spans.specs.Kind.{Kind}
use Rattle.networks.specs.Network.{Condition, Network, condition_at}
use Rattle.networks.specs.Hull.{hulls}
use Rattle.networks.specs.Plan.{HasPlan}
use Rattle.networks.specs.Selection.{only, selected, selected_conditions, chosen, Selection}
use Rattle.distances.specs.Closing.{Closes}
use Rattle.schedules.specs.Choosing.{Agrees, Places, ChoicePlaces, place_of, Turns, ChosenUpto, NoneWith, NoneBelow, RuledOut, GoesOn, Reached, Turning, FoundFirst}
use Rattle.schedules.proofs.Selecting.{chosen_none, chosen_all, chosen_skips, own_hulls}
use Rattle.schedules.proofs.Firsts.{none_below_none, none_below_agrees, first_found, none_with_no_plan}

module _ {S : Type 0} (N : Network S) (places : ℕ → ℕ) (ps : Places N places) where
  -- a selection and numbers that agree up to a level and at its place agree up to the next
  pub down_agrees : (l : ℕ) → l < 6 → (vs us : List ℕ) → Selection N vs → ChosenUpto N us (places (suc l))
      → Agrees (places l) vs us → get_or vs (places l) 0 ≡ get_or us (places l) 0 → Agrees (places (suc l)) vs us
  down_agrees l low vs us s upto agrees here k lk = elim (cases_lt k (places l)) [
    | inl below ↦ agrees k below
    | inr above ↦ elim (ℕ_discrete k (places l)) [
      | yes same ↦ subst (λ (i : ℕ). get_or vs i 0 ≡ get_or us i 0) (sym same) here
      | no other ↦
          let inside : k < length N.conditions = omega (arith, ps.within (suc l) (omega arith)) in
          omega (arith, ps.lone l k low (omega arith) lk, s.there k inside, upto.there k lk inside)
    ]
  ]

-- numbers past the last condition do not matter
pub selected_front : {S : Type 0} (cs : List (Condition S)) (us : List ℕ) → length cs ≤ length us
    → selected_conditions cs us ≡ selected_conditions cs (take (length cs) us)
selected_front [] us h = refl
selected_front (c ∷ cs) [] h = absurd (omega arith)
selected_front {S} (c ∷ cs) (u ∷ us) h = ap (λ (rest : List (Condition S)). only c u ∷ rest) (selected_front cs us (omega arith))

-- what is counted at a place of the list is the count at its number
pub turned : {S : Type 0} {M N : Network S} → M ≡ N → (places : List (Option ℕ)) → ChoicePlaces N places → (l r : ℕ)
    → MatchOption (get_or places l None) (r ≡ 1) (λ k. r ≡ length (condition_at M k).windows) → Turns N (place_of N places l) r
turned {S} {M} {N} same places right l r counted = by_place (get_or places l None) refl (rw same at counted)
  where
    by_place : (o : Option ℕ) → get_or places l None ≡ o → MatchOption o (r ≡ 1) (λ k. r ≡ length (condition_at N k).windows)
        → Turns N (unwrap_or o (length N.conditions)) r
    by_place None e h = record { of_condition = λ l. absurd (omega arith); past = λ l. h }
    by_place (Some k) e h = record { of_condition = λ l. h; past = λ h. absurd (omega (arith, right.there l k e)) }

-- a window below one count of those at a place is below each
pub turn_there : {S : Type 0} (N : Network S) (place w r : ℕ) → Turns N place r → w < r → (q : ℕ) → Turns N place q → w < q
turn_there N place w r turns h q again = elim (cases_lt place (length N.conditions)) [
  | inl l ↦ omega (arith, turns.of_condition l, again.of_condition l)
  | inr l ↦ omega (arith, turns.past l, again.past l)
]

module _ {S : Type 0} {K : Kind S} (N : Network S) where
  -- one more window ruled out
  pub below_more : (ws : List ℕ) (place w : ℕ) → NoneBelow K N ws place w → RuledOut K N ws place w → NoneBelow K N ws place (w + 1)
  below_more ws place w below out vs s agrees l has = elim (ℕ_discrete (get_or vs place 0) w) [
    | yes here ↦ out vs s agrees here has
    | no other ↦ below vs s agrees (omega arith) has
  ]

  -- all windows there
  pub below_all : (ws : List ℕ) (place r w : ℕ) → Turns N place r → r ≤ w → NoneBelow K N ws place w → NoneWith K N ws place
  below_all ws place r w turns h below vs s agrees has = elim (dec_lt place (length N.conditions)) [
    | yes l ↦ below vs s agrees (omega (arith, s.there place l, turns.of_condition l)) has
    | no l ↦ below vs s agrees (omega (arith, turns.past (omega arith), get_or_past vs place 0 (omega (arith, s.one_each)))) has
  ]

  module _ (places : ℕ → ℕ) (ps : Places N places) where
    -- a window that was gone through without finding a plan is ruled out
    pub gone_through : (l w : ℕ) → l < 6 → (ws us : List ℕ) (matrix : List (Option S)) → GoesOn K N ws (places l) w us (places (suc l)) matrix
        → NoneWith K N us (places (suc l)) → RuledOut K N ws (places l) w
    gone_through l w low ws us matrix goes none vs s agrees e has =
        none vs s (down_agrees N places ps l low vs us s goes.upto (λ k lk. agrees k lk ∙ sym (goes.agrees k lk)) (e ∙ sym goes.number)) has

    -- ---- what is known at a level
    reached_down : (l w : ℕ) → l < 6 → (ws us : List ℕ) (matrix : List (Option S)) → Reached K N places l ws → NoneBelow K N ws (places l) w
        → GoesOn K N ws (places l) w us (places (suc l)) matrix → Reached K N places (suc l) us
    reached_down l w low ws us matrix reached below goes = record { upto = goes.upto; none = none }
      where
        none : (k : ℕ) → k < places (suc l) → k < length N.conditions → 1 < length (condition_at N k).windows → NoneBelow K N us k (get_or us k 0)
        none k lk inside choice = elim (cases_lt k (places l)) [
          | inl before ↦ subst (NoneBelow K N us k) (sym (goes.agrees k before))
              (none_below_agrees N ws us k (get_or ws k 0) (λ i li. goes.agrees i (omega arith)) (reached.none k before inside choice))
          | inr above ↦ elim (ℕ_discrete k (places l)) [
            | yes same ↦ subst (λ (i : ℕ). NoneBelow K N us i (get_or us i 0)) (sym same)
                (subst (NoneBelow K N us (places l)) (sym goes.number) (none_below_agrees N ws us (places l) w goes.agrees below))
            | no other ↦ absurd (omega (arith, ps.lone l k low (omega arith) lk))
          ]
        ]

    pub turning_down : (l w : ℕ) → l < 6 → (ws us : List ℕ) (before after : List (Option S)) → Turning K N places l ws w before
        → GoesOn K N ws (places l) w us (places (suc l)) after → Turning K N places (suc l) us 0 after
    turning_down l w low ws us before after t goes = record {
      reached = reached_down l w low ws us after t.reached t.below goes;
      below = none_below_none N us (places (suc l));
      closes = λ e. goes.closes;
    }

    -- the next window: this one was ruled out at once
    pub turning_past : (l w : ℕ) (ws : List ℕ) (before after : List (Option S)) → Turning K N places l ws w before
        → RuledOut K N ws (places l) w → Turning K N places l ws (w + 1) after
    turning_past l w ws before after t out = record {
      reached = t.reached;
      below = below_more ws (places l) w t.below out;
      closes = λ e. absurd (omega arith);
    }

    -- or all that goes on from it was
    pub turning_through : (l w r v : ℕ) → l < 6 → (ws us : List ℕ) (before mid inner after : List (Option S)) → Turning K N places l ws w before
        → GoesOn K N ws (places l) w us (places (suc l)) mid → Turns N (places (suc l)) r → r ≤ v
        → Turning K N places (suc l) us v inner → Turning K N places l ws (w + 1) after
    turning_through l w r v low ws us before mid inner after t goes turns h deep =
        turning_past l w ws before after t
        (gone_through l w low ws us mid goes (below_all us (places (suc l)) r v turns h deep.below))

    -- the start: zeros, and the matrix is closed for the hulls
    pub turning_begins : (start : List ℕ) (matrix : List (Option S)) → length N.conditions ≤ length start → ((k : ℕ) → get_or start k 0 ≡ 0)
        → Closes K (hulls N) matrix → Turning K N places 0 start 0 matrix
    turning_begins start matrix long zeros closes = record {
      reached = record {
        upto = record { long = long; there = λ k lk inside. omega (arith, ps.lone_first k lk, zeros k); zeros = λ k lk. zeros k };
        none = λ k lk inside choice. absurd (omega (arith, ps.lone_first k lk));
      };
      below = none_below_none N start (places 0);
      closes = λ e. subst (λ (M : Network S). Closes K M matrix) (sym (chosen_none N start) ∙ sym skipped) closes;
    }
      where
        skipped : chosen N start (places 0) ≡ chosen N start 0
        skipped =
            chosen_skips N start 0 (places 0) (omega arith) (ps.within 0 (omega arith)) (omega (arith, ps.within 0 (omega arith)))
            (λ k lo hi. (ps.lone_first k hi, zeros k))

    -- the end: every window at the first place was ruled out
    pub turning_ends : (start : List ℕ) (w r : ℕ) (matrix : List (Option S)) → Turns N (places 0) r → r ≤ w → Turning K N places 0 start w matrix → HasPlan K N → ⊥
    turning_ends start w r matrix turns h t = none_with_no_plan N start (λ vs s agrees. below_all start (places 0) r w turns h t.below vs s (firsts vs s))
      where
        firsts : (vs : List ℕ) → Selection N vs → Agrees (places 0) vs start
        firsts vs s k lk =
            let inside : k < length N.conditions = omega (arith, ps.within 0 (omega arith)) in
            omega (arith, ps.lone_first k lk, s.there k inside, t.reached.upto.there k lk inside)

    -- past the last choice condition: the numbers are those of the first selection with a plan
    found_there : (us : List ℕ) (matrix : List (Option S)) → Reached K N places 6 us → Closes K (chosen N us (places 6)) matrix → FoundFirst K N us matrix
    found_there us matrix reached closed =
        let n = length N.conditions in
        let front = take n us in
        let same : (k : ℕ) → k < n → get_or front k 0 ≡ get_or us k 0 = (λ k l. get_or-take n us k 0 l) in
        let meant : selected N us ≡ selected N front =
        ap (λ (cs : List (Condition S)). record { points = N.points; conditions = cs }) (selected_front N.conditions us reached.upto.long) in
        let whole : chosen N us (places 6) ≡ selected N us = ap (chosen N us) ps.last ∙ chosen_all N us in
        let closes : Closes K (selected N us) matrix = subst (λ (M : Network S). Closes K M matrix) whole closed in
        let one_each : length front ≡ n = length-take-le n us reached.upto.long in
        let there : (k : ℕ) → k < n → get_or front k 0 < length (condition_at N k).windows =
        (λ k l. omega (arith, same k l, reached.upto.there k (omega (arith, ps.last)) l)) in
        let plan : HasPlan K (selected N front) = subst (HasPlan K) (own_hulls N us ∙ meant) closes.plan in
        record {
          first = first_found N front (record { one_each = one_each; there = there }) plan
              (λ k l choice. subst (NoneBelow K N front k) (sym (same k l))
              (none_below_agrees N us front k (get_or us k 0) (λ i li. same i (omega arith)) (reached.none k (omega (arith, ps.last)) l choice)));
          meant = meant;
          closes = closes;
        }

    pub turning_found : (w : ℕ) (ws us : List ℕ) (before after : List (Option S)) → Turning K N places 5 ws w before
        → GoesOn K N ws (places 5) w us (places 6) after → FoundFirst K N us after
    turning_found w ws us before after t goes =
        found_there us after (reached_down 5 w (omega arith) ws us after t.reached t.below goes) goes.closes
