-- A legal network has one low end and one high end of each distance: one that is present is small, so that a missing one would go beyond it.
-- Assumes nothing.
use Rattle.std.proofs.Common.{◌≡◌, ℕ, suc, ◌<◌, ◌≤◌, List, Some, None, Option, unwrap_or, sym, refl, ap, ◌∙◌, subst, arith}
use Rattle.std.proofs.lemmas.Bool.{both_ways}
use Rattle.spans.specs.Kind.{Kind, Laws, ◌<⟨◌⟩◌, ◌≤⟨◌⟩◌}
use Rattle.spans.specs.Sums.{◌⊕⟨◌⟩◌, ⊖⟨◌⟩◌}
use Rattle.spans.specs.Order.{le_trans, le_antisym}
use Rattle.spans.proofs.Group.{sum_size, comm, zero_left, opposite_size, lt_plus, minus_plus}
use Rattle.networks.specs.Limits.{largest_distance}
use Rattle.networks.specs.Network.{Network}
use Rattle.networks.specs.Hull.{hulls}
use Rattle.networks.specs.Plan.{date, Plan, HasPlan}
use Rattle.networks.specs.Selection.{selected, Selection}
use Rattle.networks.specs.Legal.{Legal}
use Rattle.distances.specs.Distance.{LeastTotals}
use Rattle.distances.specs.Table.{Table}
use Rattle.distances.specs.Edges.{opposite_end}
use Rattle.distances.proofs.Tables.{none_some}
use Rattle.distances.proofs.Deciding.{done_table}
use Rattle.schedules.specs.Range.{ApartBy, LowEnd, HighEnd}
use Rattle.schedules.proofs.Apart.{gap, apart_there, apart_at_most, apart_at_least}
use Rattle.schedules.proofs.Selecting.{own_hulls, legal_selected, plan_selects, selected_plan}
use Rattle.schedules.proofs.Reaching.{low_small, high_small, down_to, up_to, low_end, high_end}

-- ---- one step further, either way
module _ {S : Type 0} (K : Kind S) where
  abbrev step_down : S → S
  step_down s = s ⊕⟨ K ⟩ (⊖⟨ K ⟩ K.step)

  abbrev step_up : S → S
  step_up s = s ⊕⟨ K ⟩ K.step

module _ {S : Type 0} {K : Kind S} (laws : Laws S K) (s : S) where
  step_down_size : K.size (step_down K s) ≤ suc (K.size s)
  step_down_size = omega (arith, sum_size laws s (⊖⟨ K ⟩ K.step), opposite_size laws K.step, laws.step_size)

  step_up_size : K.size (step_up K s) ≤ suc (K.size s)
  step_up_size = omega (arith, sum_size laws s K.step, laws.step_size)

  step_down_below : K.size s ≤ largest_distance → step_down K s <⟨ K ⟩ s
  step_down_below near =
      let z = step_down_size in
      let zz = laws.zero_size in
      let zs = laws.step_size in
      rw (zero_left laws (step_down K s) (omega arith), comm laws K.step (step_down K s) (omega arith), minus_plus laws s K.step (omega arith)) at
      (lt_plus laws K.zero K.step (step_down K s) (omega arith) (omega arith) laws.step_above_zero)

  step_up_above : K.size s ≤ largest_distance → s <⟨ K ⟩ step_up K s
  step_up_above near =
      let zz = laws.zero_size in
      let zs = laws.step_size in
      rw (zero_left laws s (omega arith), comm laws K.step s (omega arith)) at
      (lt_plus laws K.zero K.step s (omega arith) (omega arith) laws.step_above_zero)

module _ {S : Type 0} {K : Kind S} (laws : Laws S K) (N : Network S) (legal : Legal K N) (i j : ℕ) (li : i < N.points) (lj : j < N.points) where
  -- a selection with a plan: it is legal, the plan is one of its hulls, and theirs are plans of the network
  module _ (ws : List ℕ) (sel : Selection N ws) (dates : List S) (plan : Plan K (selected N ws) dates) where
    right : Legal K (selected N ws)
    right = legal_selected laws N legal ws sel

    own_plan : Plan K (hulls (selected N ws)) dates
    own_plan = subst (λ (M : Network S). Plan K M dates) (sym (own_hulls N ws)) plan

    back_plan : (again : List S) → Plan K (hulls (selected N ws)) again → Plan K N again
    back_plan again p = selected_plan N ws sel again (subst (λ (M : Network S). Plan K M again) (own_hulls N ws) p)

    module _ (entry : Table S) (least : LeastTotals K (selected N ws) entry) (s : S) (near : K.size s ≤ largest_distance) (apart : ApartBy K dates i j s) where
      has : HasPlan K (hulls (selected N ws))
      has = (dates, own_plan)

      low_by : (x : Option S) → opposite_end K (entry j i) ≡ x → LowEnd K (hulls (selected N ws)) i j x
          → ((again : List S) (t : S) → Plan K N again → ApartBy K again i j t → s ≤⟨ K ⟩ t) → suc (K.size s) ≤ largest_distance
      low_by (Some a) e (za, (again, p, q), low) below =
          let same : s ≡ a = le_antisym laws (below again a (back_plan again p) q) (low dates s own_plan apart) in
          omega (arith, ap K.size same, low_small laws (selected N ws) right entry least has i j li lj a e)
      low_by None e none below =
          let z = step_down_size laws s in
          let (again, t, p, q, low) = down_to laws (selected N ws) right entry least has i j li lj (step_down K s) (omega arith) (λ a f. none_some (sym e ∙ f)) in
          absurd (both_ways _ (le_trans laws (below again t (back_plan again p) q) low) (step_down_below laws s near))

      high_by : (x : Option S) → entry i j ≡ x → HighEnd K (hulls (selected N ws)) i j x
          → ((again : List S) (t : S) → Plan K N again → ApartBy K again i j t → t ≤⟨ K ⟩ s) → suc (K.size s) ≤ largest_distance
      high_by (Some b) e (zb, (again, p, q), high) above =
          let same : s ≡ b = le_antisym laws (high dates s own_plan apart) (above again b (back_plan again p) q) in
          omega (arith, ap K.size same, high_small laws (selected N ws) right entry least has i j li lj b e)
      high_by None e none above =
          let z = step_up_size laws s in
          let (again, t, p, q, high) = up_to laws (selected N ws) right entry least has i j li lj (step_up K s) (omega arith) (λ a f. none_some (sym e ∙ f)) in
          absurd (both_ways _ (le_trans laws high (above again t (back_plan again p) q)) (step_up_above laws s near))

  -- an end that is present leaves room for one step
  pub present_low_small : (s : S) → LowEnd K N i j (Some s) → suc (K.size s) ≤ largest_distance
  present_low_small s (zs, (dates, plan, apart), below) =
      let (ws, sel, p) = plan_selects N dates plan in
      let (entry, done, least, edges) = done_table laws (selected N ws) (right ws sel dates p) (dates, own_plan ws sel dates p) in
      low_by ws sel dates p entry least s zs apart (opposite_end K (entry j i)) refl
      (low_end laws (selected N ws) (right ws sel dates p) entry least (dates, own_plan ws sel dates p) i j li lj) below

  pub present_high_small : (s : S) → HighEnd K N i j (Some s) → suc (K.size s) ≤ largest_distance
  present_high_small s (zs, (dates, plan, apart), above) =
      let (ws, sel, p) = plan_selects N dates plan in
      let (entry, done, least, edges) = done_table laws (selected N ws) (right ws sel dates p) (dates, own_plan ws sel dates p) in
      high_by ws sel dates p entry least s zs apart (entry i j) refl
      (high_end laws (selected N ws) (right ws sel dates p) entry least (dates, own_plan ws sel dates p) i j li lj) above

  -- a missing end goes one step beyond
  never_low : (s : S) → LowEnd K N i j (Some s) → LowEnd K N i j None → ⊥
  never_low s (zs, w, below) none =
      let z = step_down_size laws s in
      let room = present_low_small s (zs, w, below) in
      let (dates, x, plan, adds, low) = none (step_down K s) (omega arith) in
      let zi = plan.in_reach i li in
      let zj = plan.in_reach j lj in
      let apart = apart_there laws dates i j zi zj in
      let is : date K dates i ⊕⟨ K ⟩ step_down K s ≡ x = ap (λ (o : Option S). unwrap_or o K.zero) adds in
      let least : gap laws dates i j ≤⟨ K ⟩ step_down K s =
      apart_at_most laws dates i j zi zj (gap laws dates i j) apart (step_down K s) (omega arith) (subst (λ (y : S). date K dates j ≤⟨ K ⟩ y) (sym is) low) in
      both_ways _ (le_trans laws (below dates (gap laws dates i j) plan apart) least) (step_down_below laws s zs)

  never_high : (s : S) → HighEnd K N i j (Some s) → HighEnd K N i j None → ⊥
  never_high s (zs, w, above) none =
      let z = step_up_size laws s in
      let room = present_high_small s (zs, w, above) in
      let (dates, x, plan, adds, high) = none (step_up K s) (omega arith) in
      let zi = plan.in_reach i li in
      let zj = plan.in_reach j lj in
      let apart = apart_there laws dates i j zi zj in
      let is : date K dates i ⊕⟨ K ⟩ step_up K s ≡ x = ap (λ (o : Option S). unwrap_or o K.zero) adds in
      let most : step_up K s ≤⟨ K ⟩ gap laws dates i j =
      apart_at_least laws dates i j zi zj (gap laws dates i j) apart (step_up K s) (omega arith) (subst (λ (y : S). y ≤⟨ K ⟩ date K dates j) (sym is) high) in
      both_ways _ (le_trans laws most (above dates (gap laws dates i j) plan apart)) (step_up_above laws s zs)

  pub one_low : (x y : Option S) → LowEnd K N i j x → LowEnd K N i j y → x ≡ y
  one_low None None p q = refl
  one_low None (Some t) p q = absurd (never_low t q p)
  one_low (Some s) None p q = absurd (never_low s p q)
  one_low (Some s) (Some t) (zs, (ds, p, a), h) (zt, (dt, q, b), k) = ap (λ (o : S). Some o) (le_antisym laws (h dt t q b) (k ds s p a))

  pub one_high : (x y : Option S) → HighEnd K N i j x → HighEnd K N i j y → x ≡ y
  one_high None None p q = refl
  one_high None (Some t) p q = absurd (never_high t q p)
  one_high (Some s) None p q = absurd (never_high s p q)
  one_high (Some s) (Some t) (zs, (ds, p, a), h) (zt, (dt, q, b), k) = ap (λ (o : S). Some o) (le_antisym laws (k ds s p a) (h dt t q b))
