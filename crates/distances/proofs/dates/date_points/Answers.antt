-- The matrix of least totals is small, and so are the dates below p: p's is there and is written behind them. All are a plan. Assumes nothing.
use Rattle.std.proofs.Common.{◌∙◌, arith, take, drop-set-lt}
use Rattle.distances.specs.Limits.{largest_total}
use Rattle.distances.specs.Matrix.{table}
use Rattle.distances.proofs.Dating.{dates_small}
use Rattle.distances.proofs.Endings.{numbered_done, numbered_dates}
use Rattle.distances.proofs.OneDating.{written_more, rule_at_front}
use Rattle.distances.proofs.dates.date_points.Goals as goal

pub invariant_of-dating : goal.invariant_of-dating
invariant_of-dating g c =
    let N = c.args.source.now in
    let n = c.points-n.result in
    let done = numbered_done g.met.T.Span.Span.lawful N c.points-n.ensures.legal c.args.matrix.now c.requires.closed n c.points-n.ensures.points in
    record {
      points = (omega (arith, c.points-n.ensures.points, c.points-n.ensures.legal.few_points), c.loop-p-test.true);
      room = (rw c.points-n.ensures.points c.requires.room.0, omega (arith, c.points-n.ensures.points, c.requires.room.1));
      small = done.small;
      near = λ q l. omega (
        arith,
        c.points-n.ensures.points,
        c.points-n.ensures.legal.few_points,
        dates_small g.met.T.Span.Span.lawful (table n c.args.matrix.now) largest_total done.small c.loop-p.dates c.loop-p.p c.loop-p.invariant.dated q l,
      );
    }

pub loop-p-preserved : goal.loop-p-preserved
loop-p-preserved g c =
    let n = c.points-n.result in
    let p = c.loop-p.p in
    record {
      dated = written_more g.T.Span.Span.kind (table n c.args.matrix.now) c.loop-p.dates p c.date.result
          (omega (arith, c.points-n.ensures.points, c.requires.room.1)) c.loop-p.invariant.dated c.date.ensures;
      rest = drop-set-lt n c.loop-p.dates p c.date.result c.loop-p-test.true ∙ c.loop-p.invariant.rest;
    }

pub returns : goal.returns
returns g c =
    let N = c.args.source.now in
    let n = c.points-n.result in
    let both = numbered_dates g.met.T.Span.Span.lawful N c.points-n.ensures.legal c.args.matrix.now c.requires.closed n c.points-n.ensures.points
    (take n c.loop-p.dates)
    (rule_at_front g.T.Span.Span.kind (table n c.args.matrix.now) c.loop-p.dates n (omega (arith, c.points-n.ensures.points, c.requires.room.1))
    (λ q l. c.loop-p.invariant.dated q (omega arith))) in
    record {
      dated = rw c.points-n.ensures.points at both.0;
      plan = rw c.points-n.ensures.points at both.1;
      rest = rw c.points-n.ensures.points at c.loop-p.invariant.rest;
    }
