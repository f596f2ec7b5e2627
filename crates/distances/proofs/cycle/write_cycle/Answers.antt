-- The way is written, and the edge back behind it. Assumes nothing.
use Rattle.distances.specs.Matrix.{linked}
use Rattle.distances.proofs.Unfoldings.{written_cycle, unfolded_below}
use Rattle.distances.proofs.cycle.write_cycle.Goals as goal

pub returns : goal.returns
returns c =
    let links = linked c.args.ways.now.n c.args.ways.now.links.now in
    let edge = c.args.edge in
    let x = c.unfold-edges.ensures.unfolded in
    written_cycle links edge.first edge.last c.args.cycle.now c.unfold-edges.new.out edge.code c.unfold-edges.result x
    (unfolded_below links edge.first edge.last c.args.cycle.now c.unfold-edges.new.out c.unfold-edges.result c.requires.fits x)
