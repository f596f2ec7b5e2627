-- The two entries are those of the matrix. Assumes nothing.
use Rattle.std.proofs.Common.{refl, ap, ap₂, ◌∙◌, arith}
use Rattle.std.proofs.lemmas.List.{get_or_read_under}
use Rattle.distances.specs.Edges.{opposite_end}
use Rattle.distances.proofs.Matrices.{place_below}
use Rattle.schedules.proofs.ends.matrix_ends.Goals as goal

pub returns : goal.returns
returns g c =
    ap₂ (λ a b. (a, b))
    (c.opposite.ensures ∙ ap (opposite_end g.S.Span.kind) (get_or_read_under c.args.matrix.now _ _ _ _ c.index-matrix-j.is (omega (arith, place_below c.args.n c.args.j c.args.i c.requires.3 c.requires.2)) refl))
    (get_or_read_under c.args.matrix.now _ _ _ _ c.index-matrix-i.is (omega (arith, place_below c.args.n c.args.i c.args.j c.requires.2 c.requires.3)) refl)
