use Rattle.distances.specs.Matrix.{Rest, RowTaken}
use Rattle.distances.proofs.relax.relax_part.Given as goal

abbrev pub invariant-loop-j : goal.invariant-loop-j
invariant-loop-j g l =
    RowTaken g.S.Span.kind l.n l.k l.i l.front l.initial.matrix l.matrix l.initial.links l.links l.fn.part.start l.j
    × Rest l.n l.initial.matrix l.matrix
