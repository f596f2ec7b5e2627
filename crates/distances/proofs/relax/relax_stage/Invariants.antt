use Rattle.distances.specs.Matrix.{table, linked, Rest, RowsUpto}
use Rattle.distances.specs.Table.{stage, stage_links}
use Rattle.distances.proofs.relax.relax_stage.Given as goal

abbrev pub invariant-loop-i : goal.invariant-loop-i
invariant-loop-i g l =
    let K = g.S.Span.kind in
    let d = table l.n l.initial.matrix in
    let m = linked l.n l.initial.links in
    RowsUpto d (table l.n l.matrix) (stage K d l.k) l.i
    × RowsUpto m (linked l.n l.links) (stage_links K d m l.k) l.i
    × Rest l.n l.initial.matrix l.matrix
