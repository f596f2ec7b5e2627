-- After the stages below k: what stands then, and nothing past n×n has changed. Assumes nothing.
use Rattle.distances.specs.Limits.{largest_total}
use Rattle.distances.specs.Matrix.{table, linked, Rest}
use Rattle.distances.proofs.Stages.{Stands}
use Rattle.distances.proofs.closing.close.Given as goal

abbrev pub invariant-loop-k : goal.invariant-loop-k
invariant-loop-k g l =
    Stands g.T.Span.Span.kind l.source largest_total
    (table l.n l.matrix) (linked l.n l.links) l.k
    × Rest l.n l.initial.matrix l.matrix
