-- The dates of a solution are a plan, and there is one solution. Assumes nothing.
use Rattle.std.proofs.Common.{◌≡◌, ℕ, zero, suc, ◌<◌, ◌⊎◌, List, [], ◌∷◌, length, Option, sym, refl, ◌∙◌, subst, ap₂, inl, inr, arith}
use native.Mathlib.Decide.{dec_lt}
use Rattle.spans.specs.Kind.{Kind, Laws}
use Rattle.networks.specs.Network.{Network}
use Rattle.networks.specs.Plan.{Plan, HasPlan}
use Rattle.networks.specs.Selection.{selected, Selection, Earlier, FirstWithPlan}
use Rattle.networks.specs.Legal.{Legal}
use Rattle.distances.specs.DateRule.{ByDateRule}
use Rattle.distances.specs.Distance.{LeastTotals}
use Rattle.distances.specs.Decided.{Decided}
use Rattle.distances.proofs.OneDating.{one_dates}
use Rattle.distances.proofs.Deciding.{one_least, decided}
use Rattle.schedules.specs.Solution.{Solution}
use Rattle.schedules.proofs.Selecting.{own_hulls, legal_selected, plan_selects, selected_plan}

-- ---- of two lists of one length, one is the earlier, or they are the same
compared : (vs ws : List ℕ) → length vs ≡ length ws → (vs ≡ ws) ⊎ (Earlier vs ws ⊎ Earlier ws vs)
compared [] [] e = inl refl
compared [] (w ∷ ws) e = absurd (omega arith)
compared (v ∷ vs) [] e = absurd (omega arith)
compared (v ∷ vs) (w ∷ ws) e = by_first (dec_lt v w) (dec_lt w v) (compared vs ws (omega arith))
  where
    by_first : Dec (v < w) → Dec (w < v) → (vs ≡ ws) ⊎ (Earlier vs ws ⊎ Earlier ws vs)
        → ((v ∷ vs) ≡ (w ∷ ws)) ⊎ (Earlier (v ∷ vs) (w ∷ ws) ⊎ Earlier (w ∷ ws) (v ∷ vs))
    by_first (yes l) r rest = inr (inl (0, (λ k h. absurd (omega arith)), l))
    by_first (no l) (yes r) rest = inr (inr (0, (λ k h. absurd (omega arith)), r))
    by_first (no l) (no r) (inl same) = inl (ap₂ (λ (a : ℕ) (b : List ℕ). a ∷ b) (omega arith) same)
    by_first (no l) (no r) (inr (inl (m, same, less))) =
        inr (inl (suc m, elim [ zero ↦ λ h. omega arith | suc k ↦ λ h. same k (omega arith) ], less))
    by_first (no l) (no r) (inr (inr (m, same, less))) =
        inr (inr (suc m, elim [ zero ↦ λ h. omega arith | suc k ↦ λ h. same k (omega arith) ], less))

module _ {S : Type 0} {K : Kind S} (N : Network S) where
  -- of two first selections neither is earlier
  pub one_first : (vs ws : List ℕ) → FirstWithPlan K N vs → FirstWithPlan K N ws → vs ≡ ws
  one_first vs ws a b =
      elim (compared vs ws (a.selection.one_each ∙ sym b.selection.one_each)) [
        | inl e ↦ e
        | inr (inl e) ↦ absurd (b.none_earlier vs a.selection e a.has_plan)
        | inr (inr e) ↦ absurd (a.none_earlier ws b.selection e b.has_plan)
      ]

  -- a plan is a plan of some selection
  pub no_first_no_plan : ((ws : List ℕ) → Selection N ws → HasPlan K (selected N ws) → ⊥) → HasPlan K N → ⊥
  no_first_no_plan none (dates, plan) =
      let (ws, s, p) = plan_selects N dates plan in
      none ws s (dates, p)

module _ {S : Type 0} {K : Kind S} (laws : Laws S K) (N : Network S) where
  -- the first selection is the same, so its least totals, so the dates on them
  pub one_solution : (dates again : List S) → Solution K N dates → Solution K N again → dates ≡ again
  one_solution dates again (ws, entry, a) (vs, other, b) =
      let same : vs ≡ ws = one_first N vs ws b.first a.first in
      let least : LeastTotals K (selected N ws) other = subst (λ (us : List ℕ). LeastTotals K (selected N us) other) same b.least in
      one_dates laws entry other N.points
      (λ i j li lj. one_least laws (selected N ws) i j (entry i j) (other i j) (a.least i j li lj) (least i j li lj))
      dates again a.ruled b.ruled

  -- by the date rule on the least totals of a selection that has a plan
  pub ruled_selected : Legal K N → (ws : List ℕ) → Selection N ws → HasPlan K (selected N ws)
      → (entry : ℕ → ℕ → Option S) (dates : List S) → LeastTotals K (selected N ws) entry → ByDateRule K entry dates N.points
      → Plan K (selected N ws) dates
  ruled_selected legal ws s has entry dates least ruled = by_decision (decided laws (selected N ws) (legal_selected laws N legal ws s))
    where
      by_decision : Decided K (selected N ws) → Plan K (selected N ws) dates
      by_decision (inl (cs, c, none)) = absurd (none (subst (HasPlan K) (sym (own_hulls N ws)) has))
      by_decision (inr (other, again, d)) =
          subst (Plan K (selected N ws)) (sym (d.only_dates entry dates least ruled))
          (subst (λ (M : Network S). Plan K M again) (own_hulls N ws) d.plan)

  -- and such a plan is a plan of the network
  pub solution_plan : Legal K N → (dates : List S) → Solution K N dates → Plan K N dates
  solution_plan legal dates (ws, entry, by) =
      let s = by.first.selection in
      selected_plan N ws s dates (ruled_selected legal ws s by.first.has_plan entry dates by.least by.ruled)
