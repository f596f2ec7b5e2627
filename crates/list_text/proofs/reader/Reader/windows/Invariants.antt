use Rattle.std.proofs.Common.{length}
use Rattle.list_text.specs.Reading.{ahead}
use Rattle.list_text.proofs.Listings.{WindowsSoFar}
use Rattle.list_text.proofs.reader.Reader.windows.Given as goal

abbrev pub invariant-loop-w : goal.invariant-loop-w
invariant-loop-w l = WindowsSoFar l.self l.p l.i l.j l.pick l.row

abbrev pub decreases-loop-w : goal.decreases-loop-w
decreases-loop-w l = length (ahead l.p)
