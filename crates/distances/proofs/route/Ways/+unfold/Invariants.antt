-- The rank of a way's link falls with each call. Assumes nothing.
use Rattle.distances.specs.Matrix.{linked}
use Rattle.distances.specs.Table.{rank}
use Rattle.distances.proofs.route.Ways.+unfold.Given as goal

abbrev pub decreases-unfold : goal.decreases-unfold
decreases-unfold l = rank (linked l.self.now.n l.self.now.links.now l.way.from l.way.to)
