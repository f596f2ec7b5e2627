use Rattle.std.proofs.Common.{◌≤◌, length}
use Rattle.exports.specs.Meaning.{AllOrNone}
use Rattle.exports.proofs.calls.count_granted.Given as goal

abbrev pub invariant-loop-i : goal.invariant-loop-i
invariant-loop-i g l =
    (l.granted ≤ l._i)
    × AllOrNone g.T.Span.Span.kind (g.T.Source.means l.source) (length l.initial.memory) (length l.initial.cycle) l._i l.granted
