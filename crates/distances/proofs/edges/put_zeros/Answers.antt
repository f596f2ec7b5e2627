use Rattle.std.proofs.Common.{Some, None, ◌∙◌, arith}
use Rattle.distances.specs.Matrix.{table}
use Rattle.distances.proofs.Matrices.{rest_set}
use Rattle.distances.proofs.Filling.{zeros_more}
use Rattle.distances.proofs.edges.put_zeros.Goals as goal

pub loop-m-preserved : goal.loop-m-preserved
loop-m-preserved g c =
    let n = c.args.n in
    let m = c.loop-m.m in
    let z = Some g.S.Span.kind.zero in
    let inv = c.loop-m.invariant in
    simp (c.place-at.ensures.place, c.zero.ensures) (
      zeros_more n z (table n c.args.matrix.now) c.loop-m.matrix m (omega arith) (omega arith) inv.0,
      rest_set None n c.loop-m.matrix m m z (omega arith) (omega arith) ∙ inv.1,
    )
