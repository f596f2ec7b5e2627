use Rattle.distances.specs.Begun.{Filled}
use Rattle.distances.specs.Edges.{least_edge}
use Rattle.distances.specs.Matrix.{Rest}
use Rattle.distances.proofs.edges.fill_edges.Given as goal

abbrev pub invariant-loop-k : goal.invariant-loop-k
invariant-loop-k g l =
    Filled l.source.points (least_edge g.T.Span.Span.kind l.source l.k) l.matrix l.links
    × Rest l.n l.initial.matrix l.matrix
