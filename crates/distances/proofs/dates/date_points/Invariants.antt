-- After p points: the points below p have their dates by the rule, and what stands past n is as it was. Assumes nothing.
use Rattle.std.proofs.Common.{◌≡◌, drop}
use Rattle.distances.specs.Matrix.{table}
use Rattle.distances.proofs.OneDating.{DatedBelow}
use Rattle.distances.proofs.dates.date_points.Given as goal

abbrev pub invariant-loop-p : goal.invariant-loop-p
invariant-loop-p g l = record {
  dated : DatedBelow g.T.Span.Span.kind (table l.n l.matrix) l.dates l.p;
  rest : drop l.n l.dates ≡ drop l.n l.initial.dates;
}
