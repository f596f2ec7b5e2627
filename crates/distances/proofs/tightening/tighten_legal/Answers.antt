-- Closing ends with the least totals or with an edge that closes a cycle, which is then written. Assumes nothing.
use Rattle.std.proofs.Common.{◌≡◌, ℕ, ◌*◌, sym, refl, ap, subst, arith}
use Rattle.distances.specs.Matrix.{linked}
use Rattle.distances.specs.Unfolding.{Falls}
use Rattle.distances.proofs.Contradictions.{entries_few, contradicted, with_number}
use Rattle.distances.proofs.tightening.tighten_legal.Goals as goal

pub give_up-edges-requires : goal.give_up-edges-requires
give_up-edges-requires g c =
    let N = c.args.source.now in
    let n = c.points-n.result in
    let is : n ≡ N.points = c.points-n.ensures.points in
    let few = entries_few n (omega (arith, c.points-n.ensures.legal.few_points)) in
    let edge = c.in-Err.edge in
    let no = with_number g.T.Span.Span.kind N c.args.matrix.now c.args.cycle.now n c.close.new.links edge.first edge.last edge.code is c.in-Err.ensures.ends in
    record {
      points = (omega (arith, no.first_there), omega (arith, no.last_there));
      room = omega (arith, ap (λ (m : ℕ). m * m) is);
      falls = subst (λ (m : ℕ). Falls m (linked n c.close.new.links)) (sym is) no.closing.falls;
      fits = λ cs ps x. omega (arith, no.closing.few cs ps x);
    }

pub returns : goal.returns
returns g c =
    let N = c.args.source.now in
    let n = c.points-n.result in
    let K = g.T.Span.Span.kind in
    let edge = c.in-Err.edge in (
      c.give_up-edges.result,
      refl,
      contradicted K N c.args.matrix.now c.args.cycle.now n (linked n c.close.new.links) edge.first edge.last edge.code c.give_up-edges.result
          c.close.new.matrix c.give_up-edges.new.matrix c.give_up-edges.new.cycle c.points-n.ensures.legal c.points-n.ensures.points
          (with_number K N c.args.matrix.now c.args.cycle.now n c.close.new.links edge.first edge.last edge.code c.points-n.ensures.points c.in-Err.ensures.ends)
          c.close.ensures.rest c.give_up-edges.ensures.cycle c.give_up-edges.ensures.blank,
    )
