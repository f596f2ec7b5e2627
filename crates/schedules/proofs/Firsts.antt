-- A search over the numbers of windows, place by place, for the first selection that has a plan. Assumes nothing.
--     NoneWith K N ws place       no selection that goes on from ws below `place` has a plan
--     NoneBelow K N ws place w    none of those whose number at `place` is below w
--     NoneBefore K N ws place     none that, at some number below `place`, is the first to differ from ws, with an earlier window
use Rattle.std.proofs.Common.{◌≡◌, ℕ, ◌+◌, ◌<◌, ◌≤◌, List, length, get_or, set, sym, refl, ◌∙◌, subst, inl, inr, arith, get_or-set_other, get_or-set_same}
use native.Mathlib.Decide.{ℕ_discrete}
use Rattle.std.proofs.lemmas.List.{get_or_past}
use Rattle.std.proofs.lemmas.Bool.{cases_lt}
use Rattle.spans.specs.Kind.{Kind, Laws}
use Rattle.networks.specs.Network.{Network, condition_at}
use Rattle.networks.specs.Hull.{hulls}
use Rattle.networks.specs.Plan.{HasPlan}
use Rattle.networks.specs.Selection.{selected, chosen, Selection, Earlier, FirstWithPlan}
use Rattle.networks.specs.Legal.{Legal}
use Rattle.schedules.specs.Choosing.{Agrees, NumbersThere, Lone, NoneWith, NoneBelow}
use Rattle.schedules.proofs.Selecting.{chosen_all, chosen_hulls, chosen_skips, selected_in_chosen}
use Rattle.schedules.proofs.OneSolution.{no_first_no_plan}

-- ---- numbers that agree below a place
pub agrees_set : (ws : List ℕ) (place w : ℕ) → Agrees place (set ws place w) ws
agrees_set ws place w k l = get_or-set_other ws place k w 0 (λ e. omega arith)

pub agrees_more : (vs ws : List ℕ) (place : ℕ) → Agrees place vs ws → get_or vs place 0 ≡ get_or ws place 0 → Agrees (place + 1) vs ws
agrees_more vs ws place agrees e k l = elim (ℕ_discrete k place) [
  | yes here ↦ subst (λ (i : ℕ). get_or vs i 0 ≡ get_or ws i 0) (sym here) e
  | no other ↦ agrees k (omega arith)
]

-- ---- numbers of windows that are there
module _ {S : Type 0} (N : Network S) (ws : List ℕ) (place : ℕ) (there : NumbersThere N ws place) where
  pub numbers_there_set : (w : ℕ) → place < length ws → w < length (condition_at N place).windows → NumbersThere N (set ws place w) (place + 1)
  numbers_there_set w l h k lk lc = elim (ℕ_discrete k place) [
    | yes here ↦ subst (λ (i : ℕ). get_or (set ws place w) i 0 < length (condition_at N i).windows) (sym here)
        (omega (arith, get_or-set_same ws place w 0 l))
    | no other ↦ omega (arith, get_or-set_other ws place k w 0 other, there k (omega arith) lc)
  ]

  pub numbers_there_skips : (next : ℕ) → Lone N ws place next → NumbersThere N ws next
  numbers_there_skips next lone k lk lc =
      elim (cases_lt k place) [
        | inl l ↦ there k l lc
        | inr l ↦ let (one, number) = lone k l lk in omega arith
      ]

  pub numbers_there_all : length ws ≡ length N.conditions → length N.conditions ≤ place → Selection N ws
  numbers_there_all e h = record { one_each = e; there = λ k l. there k (omega arith) l }

module _ {S : Type 0} (K : Kind S) (N : Network S) where
  abbrev pub NoneBefore : List ℕ → ℕ → Type 0
  NoneBefore ws place = (k : ℕ) → k < place → NoneBelow K N ws k (get_or ws k 0)

module _ {S : Type 0} {K : Kind S} (N : Network S) where
  -- ---- the windows at one place, from first to last
  pub none_below_none : (ws : List ℕ) (place : ℕ) → NoneBelow K N ws place 0
  none_below_none ws place vs s agrees l has = omega arith

  -- us is ws with window w at `place`; its numbers above do not matter
  pub none_below_more : (ws us : List ℕ) (place w : ℕ) → Agrees place us ws → get_or us place 0 ≡ w
      → NoneWith K N us (place + 1) → NoneBelow K N ws place w → NoneBelow K N ws place (w + 1)
  none_below_more ws us place w same e none below vs s agrees l has = elim (ℕ_discrete (get_or vs place 0) w) [
    | yes here ↦ none vs s (agrees_more vs us place (λ k lk. agrees k lk ∙ sym (same k lk)) (here ∙ sym e)) has
    | no other ↦ below vs s agrees (omega arith) has
  ]

  -- after the last window
  pub none_below_all : (ws : List ℕ) (place w : ℕ) → place < length N.conditions → length (condition_at N place).windows ≤ w
      → NoneBelow K N ws place w → NoneWith K N ws place
  none_below_all ws place w l h below vs s agrees has = below vs s agrees (omega (arith, s.there place l)) has

  -- only the numbers below the place count
  pub none_with_agrees : (ws us : List ℕ) (place : ℕ) → Agrees place us ws → NoneWith K N ws place → NoneWith K N us place
  none_with_agrees ws us place same none vs s agrees has = none vs s (λ k l. agrees k l ∙ same k l) has

  pub none_below_agrees : (ws us : List ℕ) (place w : ℕ) → Agrees place us ws → NoneBelow K N ws place w → NoneBelow K N us place w
  none_below_agrees ws us place w same below vs s agrees l has = below vs s (λ k lk. agrees k lk ∙ same k lk) l has

  -- conditions with a single window are passed over
  pub none_with_skips : (ws : List ℕ) (place next : ℕ) → next ≤ length N.conditions → Lone N ws place next
      → NoneWith K N ws next → NoneWith K N ws place
  none_with_skips ws place next h lone none vs s agrees has = none vs s through has
    where
      through : Agrees next vs ws
      through k l =
          elim (cases_lt k place) [
            | inl lk ↦ agrees k lk
            | inr lk ↦ let (one, number) = lone k lk l in omega (arith, s.there k (omega arith))
          ]

  -- at place 0 that is every selection
  pub none_with_no_plan : (ws : List ℕ) → NoneWith K N ws 0 → HasPlan K N → ⊥
  none_with_no_plan ws none = no_first_no_plan N (λ vs s. none vs s (λ k l. absurd (omega arith)))

  -- ---- the first selection: at each choice condition no earlier window goes on to a plan
  pub first_found : (ws : List ℕ) → Selection N ws → HasPlan K (selected N ws)
      → ((k : ℕ) → k < length N.conditions → 1 < length (condition_at N k).windows → NoneBelow K N ws k (get_or ws k 0))
      → FirstWithPlan K N ws
  first_found ws s has none = record { selection = s; has_plan = has; none_earlier = none_earlier }
    where
      none_earlier : (vs : List ℕ) → Selection N vs → Earlier vs ws → HasPlan K (selected N vs) → ⊥
      none_earlier vs t (m, same, less) also =
          elim (cases_lt m (length N.conditions)) [
            | inl l ↦ elim (cases_lt 1 (length (condition_at N m).windows)) [
              | inl choice ↦ none m l choice vs t same less also
              | inr lone ↦ omega (arith, s.there m l)
            ]
            | inr l ↦ omega (arith, s.one_each, get_or_past ws m 0 (omega (arith, s.one_each)))
          ]

  -- ---- all places in one
  pub none_before_none : (ws : List ℕ) → NoneBefore K N ws 0
  none_before_none ws k l = absurd (omega arith)

  pub none_before_agrees : (ws us : List ℕ) (place : ℕ) → Agrees place us ws → NoneBefore K N ws place → NoneBefore K N us place
  none_before_agrees ws us place same before k l =
      subst (NoneBelow K N us k) (sym (same k l)) (none_below_agrees ws us k (get_or ws k 0) (λ i li. same i (omega arith)) (before k l))

  -- down to the first window at the next place
  pub none_before_down : (ws : List ℕ) (place : ℕ) → get_or ws place 0 ≡ 0 → NoneBefore K N ws place → NoneBefore K N ws (place + 1)
  none_before_down ws place e before k l = elim (ℕ_discrete k place) [
    | yes here ↦ λ vs s agrees less has. omega (arith, subst (λ (i : ℕ). get_or ws i 0 ≡ 0) (sym here) e)
    | no other ↦ before k (omega arith)
  ]

  -- done with the window of ws at the last place
  below_one_more : (ws : List ℕ) (place : ℕ) → NoneWith K N ws (place + 1) → NoneBefore K N ws (place + 1) → NoneBelow K N ws place (get_or ws place 0 + 1)
  below_one_more ws place none before =
      none_below_more ws ws place (get_or ws place 0) (λ k l. refl) refl none (before place (omega arith))

  -- on to the next window there
  pub none_before_next : (ws : List ℕ) (place : ℕ) → place < length ws → NoneWith K N ws (place + 1) → NoneBefore K N ws (place + 1)
      → NoneBefore K N (set ws place (get_or ws place 0 + 1)) (place + 1)
  none_before_next ws place h none before k l = elim (ℕ_discrete k place) [
    | yes here ↦ subst (λ (i : ℕ). NoneBelow K N us i (get_or us i 0)) (sym here)
        (subst (NoneBelow K N us place) (sym (get_or-set_same ws place (get_or ws place 0 + 1) 0 h))
        (none_below_agrees ws us place (get_or ws place 0 + 1) (agrees_set ws place (get_or ws place 0 + 1)) (below_one_more ws place none before)))
    | no other ↦ none_before_agrees ws us place (agrees_set ws place (get_or ws place 0 + 1)) (λ i li. before i (omega arith)) k (omega arith)
  ]
    where
      us : List ℕ
      us = set ws place (get_or ws place 0 + 1)

  -- after the last window there, up
  pub none_before_up : (ws : List ℕ) (place : ℕ) → place < length N.conditions → length (condition_at N place).windows ≤ get_or ws place 0 + 1
      → NoneWith K N ws (place + 1) → NoneBefore K N ws (place + 1) → NoneWith K N ws place
  none_before_up ws place l h none before =
      none_below_all ws place (get_or ws place 0 + 1) l h (below_one_more ws place none before)

  -- on over conditions with a single window
  pub none_before_skips : (ws : List ℕ) (place next : ℕ) → Lone N ws place next → NoneBefore K N ws place → NoneBefore K N ws next
  none_before_skips ws place next lone before k l =
      elim (cases_lt k place) [
        | inl lk ↦ before k lk
        | inr lk ↦ let (one, number) = lone k lk l in λ vs s agrees less has. omega arith
      ]

  -- at the end, with a plan, ws is the first
  pub none_before_first : (ws : List ℕ) → Selection N ws → HasPlan K (selected N ws) → NoneBefore K N ws (length N.conditions) → FirstWithPlan K N ws
  none_before_first ws s has before = first_found ws s has (λ k l choice. before k l)

-- ---- pruning: without a plan of what is chosen up to a place, none goes on from there
module _ {S : Type 0} {K : Kind S} (laws : Laws S K) (N : Network S) (legal : Legal K N) where
  pub none_with_pruned : (ws : List ℕ) (place : ℕ) → place ≤ length ws → (HasPlan K (hulls (chosen N ws place)) → ⊥) → NoneWith K N ws place
  none_with_pruned ws place h none vs s agrees (dates, plan) = none (dates, selected_in_chosen laws N legal vs ws place h s agrees dates plan)

-- ---- a plan after the last choice is one of the selection
module _ {S : Type 0} {K : Kind S} (N : Network S) (ws : List ℕ) (place : ℕ) where
  pub last_has_plan : place ≤ length N.conditions → length N.conditions ≤ length ws → Lone N ws place (length N.conditions)
      → HasPlan K (hulls (chosen N ws place)) → HasPlan K (selected N ws)
  last_has_plan h l lone =
      let n = length N.conditions in
      let same : chosen N ws n ≡ chosen N ws place = chosen_skips N ws place n h (omega arith) l lone in
      subst (HasPlan K) (chosen_hulls N ws place ∙ sym same ∙ chosen_all N ws)
