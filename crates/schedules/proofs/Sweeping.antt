-- Level by level down the choice conditions: the ends over the selections that are gone through, up to all of them. Assumes nothing.
use Rattle.std.proofs.Common.{◌≡◌, ℕ, suc, ◌+◌, ◌<◌, ◌≤◌, ◌⊎◌, List, length, get_or, take, Some, None, Option, sym, refl, ap, ◌∙◌, subst, inl, inr, arith, length-take-le, get_or-take, ext_get_or}
use native.Mathlib.Decide.{ℕ_discrete}
use Rattle.std.proofs.lemmas.List.{get_or_past}
use Rattle.std.proofs.lemmas.Bool.{cases_lt}
use Rattle.spans.specs.Kind.{Kind, Laws}
use Rattle.networks.specs.Network.{Condition, Network}
use Rattle.networks.specs.Hull.{hulls}
use Rattle.networks.specs.Plan.{Plan}
use Rattle.networks.specs.Selection.{selected, chosen, Selection}
use Rattle.networks.specs.Legal.{Legal}
use Rattle.distances.specs.Closing.{Closes}
use Rattle.schedules.specs.Choosing.{Agrees, Places, Turns, ChosenUpto, RuledOut, GoesOn}
use Rattle.schedules.specs.Sweeping.{entry_ends, joined_ends, Swept, Departs, Through, Sweeping}
use Rattle.schedules.proofs.Selecting.{chosen_all, chosen_hulls, legal_chosen, plan_selects, selected_plan}
use Rattle.schedules.proofs.Levels.{down_agrees, selected_front, turning_begins}
use Rattle.schedules.proofs.Reaching.{closed_ends}
use Rattle.schedules.proofs.Joining.{Either, swept_same, swept_join}

-- ---- which selections are gone through
-- with more windows gone through
departs_more : (ws vs : List ℕ) (place w v : ℕ) → w ≤ v → Departs ws place w vs → Departs ws place v vs
departs_more ws vs place w v le (inl h) = inl h
departs_more ws vs place w v le (inr (same, less)) = inr (same, omega arith)

module _ {S : Type 0} (N : Network S) where
  -- a selection's number at a place is below the count there
  number_below : (vs : List ℕ) → Selection N vs → (place r : ℕ) → Turns N place r → get_or vs place 0 < r
  number_below vs s place r turns = elim (cases_lt place (length N.conditions)) [
    | inl l ↦ omega (arith, turns.of_condition l, s.there place l)
    | inr l ↦ omega (arith, turns.past l, get_or_past vs place 0 (omega (arith, s.one_each)))
  ]

  module _ (places : ℕ → ℕ) (ps : Places N places) where
    -- up to the first place all selections agree with what is chosen
    first_agrees : (ws vs : List ℕ) → ChosenUpto N ws (places 0) → Selection N vs → Agrees (places 0) vs ws
    first_agrees ws vs upto s k lk =
        let inside : k < length N.conditions = omega (arith, ps.within 0 (omega arith)) in
        omega (arith, ps.lone_first k lk, s.there k inside, upto.there k lk inside)

    none_departs : (ws vs : List ℕ) → ChosenUpto N ws (places 0) → Departs ws (places 0) 0 vs → ⊥
    none_departs ws vs upto (inl (k, lk, agrees, less)) =
        omega (arith, ps.lone_first k lk, upto.there k lk (omega (arith, ps.within 0 (omega arith))))
    none_departs ws vs upto (inr (agrees, less)) = omega arith

    all_depart : (ws vs : List ℕ) → ChosenUpto N ws (places 0) → Selection N vs → (r : ℕ) → Turns N (places 0) r → Departs ws (places 0) r vs
    all_depart ws vs upto s r turns = inr (first_agrees ws vs upto s, number_below vs s (places 0) r turns)

    -- us goes on from ws with window w at level l, up to the next level
    module _ (l : ℕ) (low : l < 6) (ws us vs : List ℕ) (w : ℕ) (agrees : Agrees (places l) us ws) (number : get_or us (places l) 0 ≡ w)
        (upto : ChosenUpto N us (places (suc l))) where
      further : places l ≤ places (suc l)
      further = elim (cases_lt (places l) (length N.conditions)) [
        | inl h ↦ omega (arith, ps.rise l low h)
        | inr h ↦ omega (arith, ps.within l (omega arith), ps.stay l low (omega (arith, ps.within l (omega arith))))
      ]

      -- past the last condition every number is 0
      here_or_zero : (places l < places (suc l)) ⊎ (w ≡ 0)
      here_or_zero = elim (cases_lt (places l) (places (suc l))) [
        | inl h ↦ inl h
        | inr h ↦ inr (sym number ∙ upto.zeros (places l) h)
      ]

      departs_down : Departs ws (places l) w vs → Departs us (places (suc l)) 0 vs
      departs_down (inl (k, lk, same, less)) =
          inl (k, omega (arith, further), λ m lm. same m lm ∙ sym (agrees m (omega arith)), omega (arith, agrees k lk))
      departs_down (inr (same, less)) = elim here_or_zero [
        | inl h ↦ inl (places l, h, λ m lm. same m lm ∙ sym (agrees m lm), omega arith)
        | inr z ↦ absurd (omega arith)
      ]

      departs_up : (v : ℕ) → Departs us (places (suc l)) v vs
          → Departs ws (places l) w vs ⊎ (Agrees (places (suc l)) vs us × (get_or vs (places (suc l)) 0 < v))
      departs_up v (inr rest) = inr rest
      departs_up v (inl (k, lk, same, less)) = elim (cases_lt k (places l)) [
        | inl before ↦ inl (inl (k, before, λ m lm. same m lm ∙ agrees m (omega arith), omega (arith, agrees k before)))
        | inr after ↦ elim (ℕ_discrete k (places l)) [
          | yes here ↦
              let less_here : get_or vs (places l) 0 < get_or us (places l) 0 = subst (λ (m : ℕ). get_or vs m 0 < get_or us m 0) here less in
              inl (inr (λ m lm. same m (omega arith) ∙ agrees m lm, omega arith))
          | no other ↦
              absurd (omega (arith, ps.lone l k low (omega arith) lk, upto.there k lk (omega (arith, ps.within (suc l) (omega arith)))))
        ]
      ]

      -- what agrees with us up to the next level departs from ws with window w
      agrees_departs : Selection N vs → Agrees (places (suc l)) vs us → Agrees (places l) vs ws × (get_or vs (places l) 0 ≡ w)
      agrees_departs s same = (λ m lm. same m (omega (arith, further)) ∙ agrees m lm, by_place (cases_lt (places l) (places (suc l))))
        where
          by_place : (places l < places (suc l)) ⊎ (places (suc l) ≤ places l) → get_or vs (places l) 0 ≡ w
          by_place (inl h) = same (places l) h ∙ number
          by_place (inr h) =
              let past : length N.conditions ≤ places l = elim (cases_lt (places l) (length N.conditions)) [
                | inl lc ↦ absurd (omega (arith, ps.rise l low lc))
                | inr lc ↦ lc
              ] in
              get_or_past vs (places l) 0 (omega (arith, s.one_each)) ∙ sym (upto.zeros (places l) h) ∙ number

module _ {S : Type 0} {K : Kind S} (laws : Laws S K) (N : Network S) (i j : ℕ) (places : ℕ → ℕ) (ps : Places N places) where
  -- the start: zeros, the matrix is closed for the hulls, and nothing is gone through
  pub sweeping_begins : (start : List ℕ) (matrix : List (Option S)) → length N.conditions ≤ length start → ((k : ℕ) → get_or start k 0 ≡ 0)
      → Closes K (hulls N) matrix → Sweeping K N i j places 0 start 0 None matrix
  sweeping_begins start matrix long zeros closes =
      let t = turning_begins N places ps start matrix long zeros closes in
      record {
        upto = t.reached.upto;
        swept = λ dates (vs, s, departs, plan). none_departs N places ps start vs t.reached.upto departs;
        closes = t.closes;
      }

  -- down: what is gone through is the same
  pub sweeping_down : (l w : ℕ) → l < 6 → (ws us : List ℕ) (ends : Option (Option S × Option S)) (before after : List (Option S))
      → Sweeping K N i j places l ws w ends before → GoesOn K N ws (places l) w us (places (suc l)) after
      → Sweeping K N i j places (suc l) us 0 ends after
  sweeping_down l w low ws us ends before after t goes = record {
    upto = goes.upto;
    swept = swept_same K (Through K N ws (places l) w) (Through K N us (places (suc l)) 0) i j
        (λ dates (vs, s, departs, plan). (vs, s, departs_down N places ps l low ws us vs w goes.agrees goes.number goes.upto departs, plan))
        (λ dates (vs, s, departs, plan). (
          vs,
          s,
          elim (departs_up N places ps l low ws us vs w goes.agrees goes.number goes.upto 0 departs) [
            | inl h ↦ h
            | inr (same, less) ↦ absurd (omega arith)
          ],
          plan,
        ))
        ends t.swept;
    closes = λ e. goes.closes;
  }

  -- the next window: this one was ruled out
  pub sweeping_past : (l w : ℕ) (ws : List ℕ) (ends : Option (Option S × Option S)) (before after : List (Option S))
      → Sweeping K N i j places l ws w ends before → RuledOut K N ws (places l) w → Sweeping K N i j places l ws (w + 1) ends after
  sweeping_past l w ws ends before after t out = record {
    upto = t.upto;
    swept = swept_same K (Through K N ws (places l) w) (Through K N ws (places l) (w + 1)) i j
        (λ dates (vs, s, departs, plan). (vs, s, elim departs [ inl h ↦ inl h | inr (same, less) ↦ inr (same, omega arith) ], plan))
        (λ dates (vs, s, departs, plan). (
          vs,
          s,
          elim departs [
            | inl h ↦ inl h
            | inr (same, less) ↦ elim (ℕ_discrete (get_or vs (places l) 0) w) [
              | yes here ↦ absurd (out vs s same here (dates, plan))
              | no other ↦ inr (same, omega arith)
            ]
          ],
          plan,
        ))
        ends t.swept;
    closes = λ e. absurd (omega arith);
  }

  -- or all that goes on from it was gone through
  pub sweeping_through : (l w r v : ℕ) → l < 6 → (ws us : List ℕ) (ends inner : Option (Option S × Option S)) (before mid deep after : List (Option S))
      → Sweeping K N i j places l ws w ends before → GoesOn K N ws (places l) w us (places (suc l)) mid → Turns N (places (suc l)) r → r ≤ v
      → Sweeping K N i j places (suc l) us v inner deep → Sweeping K N i j places l ws (w + 1) inner after
  sweeping_through l w r v low ws us ends inner before mid deep after t goes turns h d = record {
    upto = t.upto;
    swept = swept_same K (Through K N us (places (suc l)) v) (Through K N ws (places l) (w + 1)) i j
        (λ dates (vs, s, departs, plan). (vs, s, up vs s departs, plan))
        (λ dates (vs, s, departs, plan). (vs, s, down vs s departs, plan))
        inner d.swept;
    closes = λ e. absurd (omega arith);
  }
    where
      up : (vs : List ℕ) → Selection N vs → Departs us (places (suc l)) v vs → Departs ws (places l) (w + 1) vs
      up vs s departs = elim (departs_up N places ps l low ws us vs w goes.agrees goes.number goes.upto v departs) [
        | inl (inl h) ↦ inl h
        | inl (inr (same, less)) ↦ inr (same, omega arith)
        | inr (same, less) ↦
            let (agrees, is) = agrees_departs N places ps l low ws us vs w goes.agrees goes.number goes.upto s same in
            inr (agrees, omega arith)
      ]

      on : (vs : List ℕ) → Departs ws (places l) w vs → Departs us (places (suc l)) v vs
      on vs departs =
          departs_more us vs (places (suc l)) 0 v (omega arith) (departs_down N places ps l low ws us vs w goes.agrees goes.number goes.upto departs)

      down : (vs : List ℕ) → Selection N vs → Departs ws (places l) (w + 1) vs → Departs us (places (suc l)) v vs
      down vs s (inl h) = on vs (inl h)
      down vs s (inr (same, less)) = elim (ℕ_discrete (get_or vs (places l) 0) w) [
        | yes here ↦ inr (
          down_agrees N places ps l low vs us s goes.upto (λ k lk. same k lk ∙ sym (goes.agrees k lk)) (here ∙ sym goes.number),
          omega (arith, number_below N vs s (places (suc l)) r turns),
        )
        | no other ↦ on vs (inr (same, omega arith))
      ]

  -- a whole selection: its ends are the entries
  module _ (legal : Legal K N) (li : i < N.points) (lj : j < N.points) (us : List ℕ) (upto : ChosenUpto N us (places 6)) (matrix : List (Option S)) where
    whole : chosen N us (places 6) ≡ selected N us
    whole = ap (chosen N us) ps.last ∙ chosen_all N us

    leaf_ends : Closes K (chosen N us (places 6)) matrix → Swept K (Plan K (selected N us)) i j (Some (entry_ends K N.points i j matrix))
    leaf_ends closes =
        let M = chosen N us (places 6) in
        let right : Legal K M = legal_chosen laws N legal us (places 6) (omega (arith, ps.last, upto.long)) upto.there in
        let own : hulls M ≡ selected N us = chosen_hulls N us (places 6) ∙ whole in
        subst (λ (L : Network S). Swept K (Plan K L) i j (Some (entry_ends K N.points i j matrix))) own (closed_ends laws M right i j li lj matrix closes)

    -- its numbers are those of a selection, and no other selection agrees with them
    abbrev front : List ℕ
    front = take (length N.conditions) us

    front_length : length front ≡ length N.conditions
    front_length = length-take-le (length N.conditions) us upto.long

    front_agrees : Agrees (places 6) front us
    front_agrees k lk = get_or-take (length N.conditions) us k 0 (omega (arith, ps.last))

    front_selection : Selection N front
    front_selection = record {
      one_each = front_length;
      there = λ k l. omega (arith, front_agrees k (omega (arith, ps.last)), upto.there k (omega (arith, ps.last)) l);
    }

    front_selected : selected N us ≡ selected N front
    front_selected = ap (λ (cs : List (Condition S)). record { points = N.points; conditions = cs }) (selected_front N.conditions us upto.long)

    alone : (vs : List ℕ) → Selection N vs → Agrees (places 6) vs us → selected N vs ≡ selected N us
    alone vs s same =
        ap (selected N) (ext_get_or 0 vs front (s.one_each ∙ sym front_length)
        (λ k l. let lk : k < places 6 = omega (arith, ps.last, s.one_each) in same k lk ∙ sym (front_agrees k lk)))
        ∙ sym front_selected

    sweeping_leaf : (ends : Option (Option S × Option S)) (after : List (Option S)) → Sweeping K N i j places 6 us 0 ends matrix
        → Sweeping K N i j places 6 us 1 (joined_ends K ends (Some (entry_ends K N.points i j matrix))) after
    sweeping_leaf ends after t = record {
      upto = upto;
      swept = swept_same K (Either laws (Through K N us (places 6) 0) (Plan K (selected N us)) i j) (Through K N us (places 6) 1) i j
          (λ dates. elim [
            | inl (vs, s, departs, plan) ↦ (vs, s, departs_more us vs (places 6) 0 1 (omega arith) departs, plan)
            | inr plan ↦ (
              front,
              front_selection,
              inr (front_agrees, number_below N front front_selection (places 6) 1 (record { of_condition = λ l. omega (arith, ps.last); past = λ h. refl })),
              subst (λ (M : Network S). Plan K M dates) front_selected plan,
            )
          ])
          (λ dates (vs, s, departs, plan). by_departs dates vs s plan departs)
          (joined_ends K ends (Some (entry_ends K N.points i j matrix)))
          (swept_join laws (Through K N us (places 6) 0) (Plan K (selected N us)) i j ends (Some (entry_ends K N.points i j matrix)) t.swept (leaf_ends (t.closes refl)));
      closes = λ e. absurd (omega arith);
    }
      where
        by_departs : (dates : List S) (vs : List ℕ) → Selection N vs → Plan K (selected N vs) dates → Departs us (places 6) 1 vs
            → Through K N us (places 6) 0 dates ⊎ Plan K (selected N us) dates
        by_departs dates vs s plan (inl h) = inl (vs, s, inl h, plan)
        by_departs dates vs s plan (inr (same, less)) = inr (subst (λ (M : Network S). Plan K M dates) (alone vs s same) plan)

  -- past the last choice condition: the selection's ends are joined with those so far
  pub sweeping_found : Legal K N → i < N.points → j < N.points → (w : ℕ) (ws us : List ℕ) (ends : Option (Option S × Option S)) (before mid after : List (Option S))
      → Sweeping K N i j places 5 ws w ends before → GoesOn K N ws (places 5) w us (places 6) mid
      → Sweeping K N i j places 5 ws (w + 1) (joined_ends K ends (Some (entry_ends K N.points i j mid))) after
  sweeping_found legal li lj w ws us ends before mid after t goes =
      sweeping_through 5 w 1 1 (omega arith) ws us ends (joined_ends K ends (Some (entry_ends K N.points i j mid))) before mid mid after t goes
      (record { of_condition = λ l. omega (arith, ps.last); past = λ h. refl }) (omega arith)
      (sweeping_leaf legal li lj us goes.upto mid ends mid (sweeping_down 5 w (omega arith) ws us ends before mid t goes))

  -- the end: every selection is gone through, and their plans are those of the network
  pub sweeping_ends : (start : List ℕ) (w r : ℕ) (ends : Option (Option S × Option S)) (matrix : List (Option S)) → Turns N (places 0) r → r ≤ w
      → Sweeping K N i j places 0 start w ends matrix → Swept K (Plan K N) i j ends
  sweeping_ends start w r ends matrix turns h t =
      swept_same K (Through K N start (places 0) w) (Plan K N) i j
      (λ dates (vs, s, departs, plan). selected_plan N vs s dates plan)
      (λ dates plan.
      let (vs, s, own) = plan_selects N dates plan in
      (vs, s, departs_more start vs (places 0) r w h (all_depart N places ps start vs t.upto s r turns), own))
      ends t.swept
