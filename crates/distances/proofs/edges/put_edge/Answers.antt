use Rattle.std.proofs.Common.{◌<◌, arith}
use Rattle.distances.specs.Edges.{leaves, reaches}
use Rattle.distances.proofs.Filling.{Put, edge_there, same_edge, put_filled, put_rest}
use Rattle.distances.proofs.edges.put_edge.Goals as goal

pub returns : goal.returns
returns g c =
    let K = g.T.Span.Span.kind in
    let n = c.args.source.now.points in
    let is = c.points.ensures.points in
    let asked = c.get-asked.ensures in
    let there : (leaves c.args.source.now c.args.edge < n) × (reaches c.args.source.now c.args.edge < n) =
    edge_there c.args.source.now c.args.edge asked.legal c.requires.there in
    let t : Put K n c.args.from c.args.to c.code.result c.weight.result
    c.args.matrix.now c.improve.new.matrix c.args.links.now c.improve.new.links = record {
      at = c.place-at.result;
      row_there = omega (arith, there.0, c.requires.points.0);
      column_there = omega (arith, there.1, c.requires.points.1);
      room = omega arith;
      room_beside = omega arith;
      at_is = rw is at c.place-at.ensures.place;
      matrix_is = c.improve.ensures.matrix;
      links_are = c.improve.ensures.links;
    } in
    record {
      filled = λ edges f. same_edge K n edges c.requires.points.0 c.requires.points.1 c.code.ensures (rw asked.means at c.weight.ensures) (put_filled K n t edges f);
      rest = put_rest K n t;
    }
