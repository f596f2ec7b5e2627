use Rattle.std.proofs.Common.{sym, refl, ◌∙◌}
use Rattle.distances.specs.Matrix.{table, linked}
use Rattle.distances.proofs.Matrices.{row_none, row_pass}
use Rattle.distances.proofs.Relaxing.{stage_keeps, link_keeps, itself}
use Rattle.distances.proofs.relax.relax_row.Goals as goal

pub returns : goal.returns
returns g c =
    let K = g.S.Span.kind in
    let n = c.args.n in
    let k = c.args.k in
    let i = c.args.i in
    let d = table n c.args.matrix.now in
    let m = linked n c.args.links.now in
    let one = c.relax_part.ensures.taken d m c.requires.front (row_none i) (row_none i) in
    let still = itself K d k i i refl in
    let two = c.relax_part-2.ensures.taken d m c.requires.front
    (row_pass one.0 (sym (stage_keeps K d k i i still))) (row_pass one.1 (sym (link_keeps K d k m i i still))) in
    record { matrix = two.0; links = two.1; rest = c.relax_part-2.ensures.rest ∙ c.relax_part.ensures.rest }
