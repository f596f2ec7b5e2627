-- Two calls of range for two points of a network, with memory of the same lengths, answer alike. Assumes nothing.
use Rattle.std.proofs.Common.{◌≡◌, ℕ, List, length, Some, None, Ok, Err, Option, Result, inl, inr, sym, ap, ◌∙◌, subst, ap₂}
use Rattle.spans.specs.Kind.{Kind, Laws}
use Rattle.networks.specs.declared.fault.Fault.{Fault}
use Rattle.networks.specs.declared.window.Window.{Window}
use Rattle.networks.specs.Limits.{most_conditions}
use Rattle.networks.specs.Network.{Network}
use Rattle.networks.specs.Plan.{Plan, HasPlan}
use Rattle.networks.specs.Refusal.{Refusal, or_else, checks_refusal}
use Rattle.networks.specs.Faults.{refusal_of, refusal_in}
use Rattle.distances.proofs.Tables.{none_some}
use Rattle.schedules.specs.Ranging.{Ranged, Answers, absent_refusal, AfterChecks, AlikeRanges, RangesOnce}
use Rattle.schedules.proofs.Rising.{hulls_have_plan}
use Rattle.schedules.proofs.Joining.{low_dates}
use Rattle.schedules.proofs.OneEnd.{one_low, one_high}

-- ---- refused at once, by the same check
refused_alike : {S : Type 0} (q : Refusal) (r s : Result (Window S) Fault) → refusal_in r ≡ Some q → refusal_in s ≡ Some q → AlikeRanges r s
refused_alike q (Ok x) s e f = none_some e
refused_alike q (Err f) (Ok y) e h = none_some h
refused_alike q (Err f) (Err g) e h = let same : refusal_of f ≡ refusal_of g = cc in inl same

module _ {S : Type 0} {K : Kind S} (laws : Laws S K) (N : Network S) (i j : ℕ) where
  -- ---- past the checks
  module _ (matrix left other_matrix other_left : List (Option S)) (cycle turned other_cycle other_turned : List ℕ) where
    abbrev One : Result (Window S) Fault → Type 0
    One r = Answers K N i j matrix cycle r left turned

    abbrev Other : Result (Window S) Fault → Type 0
    Other s = Answers K N i j other_matrix other_cycle s other_left other_turned

    one_has : (x : Window S) → Ranged K N i j matrix cycle x left turned → HasPlan K N
    one_has x a = low_dates laws (Plan K N) i j x.low a.tells.low

    other_has : (x : Window S) → Ranged K N i j other_matrix other_cycle x other_left other_turned → HasPlan K N
    other_has x a = low_dates laws (Plan K N) i j x.low a.tells.low

    answered_alike : (r s : Result (Window S) Fault) → One r → Other s → AlikeRanges r s
    answered_alike (Ok x) (Ok y) a b =
        ap₂ (λ (low high : Option S). record { low = low; high = high })
        (one_low laws N a.legal i j a.there.0 a.there.1 x.low y.low a.tells.low b.tells.low)
        (one_high laws N a.legal i j a.there.0 a.there.1 x.high y.high a.tells.high b.tells.high)
    answered_alike (Ok x) (Err g) a (inl (edges, e, b)) = b.no_plan (hulls_have_plan laws N a.legal (one_has x a))
    answered_alike (Ok x) (Err g) a (inr (e, b)) = b.no_plan (one_has x a)
    answered_alike (Err f) (Ok y) (inl (edges, e, a)) b = a.no_plan (hulls_have_plan laws N b.legal (other_has y b))
    answered_alike (Err f) (Ok y) (inr (e, a)) b = a.no_plan (other_has y b)
    answered_alike (Err f) (Err g) (inl (edges, e, a)) (inl (more, h, b)) = inr (edges, more, e, h)
    answered_alike (Err f) (Err g) (inl (edges, e, a)) (inr (h, b)) = absurd (a.no_plan b.hulls_plan)
    answered_alike (Err f) (Err g) (inr (e, a)) (inl (more, h, b)) = absurd (b.no_plan a.hulls_plan)
    answered_alike (Err f) (Err g) (inr (e, a)) (inr (h, b)) = inl (ap refusal_of (e ∙ sym h))

    checked_alike : (x : Option Refusal) (r s : Result (Window S) Fault) → AfterChecks K N i j matrix cycle x r left turned
        → AfterChecks K N i j other_matrix other_cycle x s other_left other_turned → AlikeRanges r s
    checked_alike None r s a b = answered_alike r s a b
    checked_alike (Some q) r s a b = refused_alike q r s a.refusal b.refusal

pub ranges_once : {S : Type 0} {K : Kind S} → Laws S K → RangesOnce K
ranges_once {S} {K} laws N i j a b em ec one other =
    let lent = λ (m c : ℕ). or_else (checks_refusal K N most_conditions (record { matrix = m; cycle = c; dates = None })) (absent_refusal N i j) in
    let same : lent (length a.matrix) (length a.cycle) ≡ lent (length b.matrix) (length b.cycle) = cc in
    checked_alike laws N i j a.matrix a.matrix' b.matrix b.matrix' a.cycle a.cycle' b.cycle b.cycle' _ a.answer b.answer
    (subst (λ (x : Option Refusal). AfterChecks K N i j a.matrix a.cycle x a.answer a.matrix' a.cycle') same one) other
