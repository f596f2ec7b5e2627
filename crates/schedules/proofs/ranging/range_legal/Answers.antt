-- The matrix is closed for the hulls; then both ends are found or there is no plan, and the matrix is blank. Assumes nothing.
use Rattle.std.proofs.Common.{ℕ, ap, ◌∙◌}
use Rattle.distances.specs.Memory.{blanked}
use Rattle.schedules.proofs.Solves.{hulls_closed}
use Rattle.schedules.proofs.Ranges.{ranged}
use Rattle.schedules.proofs.ranging.range_legal.Goals as goal

pub range_closed-ranged-requires-clause-closed : goal.range_closed-ranged-requires-clause-closed
range_closed-ranged-requires-clause-closed g c =
    hulls_closed c.args.source.now c.tighten_legal.new.matrix c.in_ok-tighten_legal.ensures.least c.in_ok-tighten_legal.ensures.plan

pub returns : goal.returns
returns g c =
    ranged g.met.T.Span.Span.lawful c.args.source.now c.args.i c.args.j c.requires.there.0 c.requires.there.1 c.args.matrix.now c.args.cycle.now
    c.range_closed-ranged.result c.tighten_legal.new.matrix c.range_closed-ranged.new.matrix c.blank.new.matrix c.tighten_legal.new.cycle
    c.in_ok-tighten_legal.ensures c.range_closed-ranged.ensures.rest
    (c.blank.ensures ∙ ap (λ (n : ℕ). blanked n c.range_closed-ranged.new.matrix) c.points.ensures.points)
    c.range_closed-ranged.ensures.ranged
