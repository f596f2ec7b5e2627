use Rattle.std.proofs.Common.{◌≡◌, drop}
use Rattle.networks.specs.Refusal.{conditions_refusal}
use Rattle.checks.proofs.conditions.check_conditions.Given as goal

abbrev pub invariant-loop-k : goal.invariant-loop-k
invariant-loop-k g l =
    let n = g.T.Source.means l.source in
    conditions_refusal g.T.Span.Span.kind n.points l.k (drop l.k n.conditions)
    ≡ conditions_refusal g.T.Span.Span.kind n.points 0 n.conditions
