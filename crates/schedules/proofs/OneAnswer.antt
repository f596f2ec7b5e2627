-- Two calls of solve on a network, with memory of the same lengths, answer alike. Assumes nothing.
use Rattle.std.proofs.Common.{◌≡◌, ℕ, List, length, take, Some, None, Ok, Err, Option, Result, inl, inr, sym, ap, ◌∙◌, subst}
use Rattle.spans.specs.Kind.{Kind, Laws}
use Rattle.networks.specs.declared.fault.Fault.{Fault}
use Rattle.networks.specs.Limits.{most_conditions}
use Rattle.networks.specs.Network.{Network}
use Rattle.networks.specs.Refusal.{Refusal, checks_refusal}
use Rattle.networks.specs.Faults.{refusal_of, refusal_in}
use Rattle.distances.proofs.Tables.{none_some}
use Rattle.schedules.specs.Solving.{Answers, AfterChecks, AlikeAnswers, SolvesOnce}
use Rattle.schedules.proofs.OneSolution.{one_solution}
use Rattle.schedules.proofs.Rising.{hulls_have_plan}

-- ---- refused at once, by the same check
module _ {S : Type 0} (n : ℕ) (dates again : List S) where
  refused_alike : (q : Refusal) (r s : Result (Unit {0}) Fault) → refusal_in r ≡ Some q → refusal_in s ≡ Some q → AlikeAnswers n r s dates again
  refused_alike q (Ok x) s e f = none_some e
  refused_alike q (Err f) (Ok y) e h = none_some h
  refused_alike q (Err f) (Err g) e h = let same : refusal_of f ≡ refusal_of g = cc in inl same

module _ {S : Type 0} {K : Kind S} (laws : Laws S K) (N : Network S) where
  -- ---- past the checks
  module _ (matrix left other_matrix other_left : List (Option S)) (cycle turned other_cycle other_turned : List ℕ) (dates dated other_dates again : List S) where
    abbrev One : Result (Unit {0}) Fault → Type 0
    One r = Answers K N matrix cycle dates r left turned dated

    abbrev Other : Result (Unit {0}) Fault → Type 0
    Other s = Answers K N other_matrix other_cycle other_dates s other_left other_turned again

    answered_alike : (r s : Result (Unit {0}) Fault) → One r → Other s → AlikeAnswers N.points r s dated again
    answered_alike (Ok x) (Ok y) a b = one_solution laws N (take N.points dated) (take N.points again) a.solution b.solution
    answered_alike (Ok x) (Err g) a (inl (edges, e, b, same)) = b.no_plan (hulls_have_plan laws N a.legal (take N.points dated, a.plan))
    answered_alike (Ok x) (Err g) a (inr (e, b, same)) = b.no_plan (take N.points dated, a.plan)
    answered_alike (Err f) (Ok y) (inl (edges, e, a, same)) b = a.no_plan (hulls_have_plan laws N b.legal (take N.points again, b.plan))
    answered_alike (Err f) (Ok y) (inr (e, a, same)) b = a.no_plan (take N.points again, b.plan)
    answered_alike (Err f) (Err g) (inl (edges, e, a, same)) (inl (more, h, b, also)) = inr (edges, more, e, h)
    answered_alike (Err f) (Err g) (inl (edges, e, a, same)) (inr (h, b, also)) = absurd (a.no_plan b.hulls_plan)
    answered_alike (Err f) (Err g) (inr (e, a, same)) (inl (more, h, b, also)) = absurd (b.no_plan a.hulls_plan)
    answered_alike (Err f) (Err g) (inr (e, a, same)) (inr (h, b, also)) = inl (ap refusal_of (e ∙ sym h))

    checked_alike : (x : Option Refusal) (r s : Result (Unit {0}) Fault) → AfterChecks K N matrix cycle dates x r left turned dated
        → AfterChecks K N other_matrix other_cycle other_dates x s other_left other_turned again → AlikeAnswers N.points r s dated again
    checked_alike None r s a b = answered_alike r s a b
    checked_alike (Some q) r s (a, same) (b, also) = refused_alike N.points dated again q r s a.refusal b.refusal

pub solves_once : {S : Type 0} {K : Kind S} → Laws S K → SolvesOnce K
solves_once {S} {K} laws N a b em ec ed one other =
    let lent = λ (m c d : ℕ). checks_refusal K N most_conditions (record { matrix = m; cycle = c; dates = Some d }) in
    let same : lent (length a.matrix) (length a.cycle) (length a.dates) ≡ lent (length b.matrix) (length b.cycle) (length b.dates) = cc in
    checked_alike laws N a.matrix a.matrix' b.matrix b.matrix' a.cycle a.cycle' b.cycle b.cycle' a.dates a.dates' b.dates b.dates' _ a.answer b.answer
    (subst (λ (x : Option Refusal). AfterChecks K N a.matrix a.cycle a.dates x a.answer a.matrix' a.cycle' a.dates') same one) other
