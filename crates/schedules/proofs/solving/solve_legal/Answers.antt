-- The matrix is closed for the hulls; then the solution is written or there is none, and the matrix is blank. Assumes nothing.
use Rattle.std.proofs.Common.{ℕ, ap, ◌∙◌}
use Rattle.distances.specs.Memory.{blanked}
use Rattle.schedules.proofs.Solves.{hulls_closed, answered}
use Rattle.schedules.proofs.solving.solve_legal.Goals as goal

pub solve_closed-solved-requires-clause-closed : goal.solve_closed-solved-requires-clause-closed
solve_closed-solved-requires-clause-closed g c =
    hulls_closed c.args.source.now c.tighten_legal.new.matrix c.in_ok-tighten_legal.ensures.least c.in_ok-tighten_legal.ensures.plan

pub returns : goal.returns
returns g c =
    answered c.args.source.now g.met.T.Span.Span.lawful c.args.matrix.now c.args.cycle.now c.args.dates.now c.solve_closed-solved.result
    c.tighten_legal.new.matrix c.solve_closed-solved.new.matrix c.blank.new.matrix c.tighten_legal.new.cycle c.solve_closed-solved.new.dates
    c.in_ok-tighten_legal.ensures c.solve_closed-solved.ensures.rest
    (c.blank.ensures ∙ ap (λ (n : ℕ). blanked n c.solve_closed-solved.new.matrix) c.points.ensures.points)
    c.solve_closed-solved.ensures.solved
