use Rattle.std.proofs.Common.{length}
use Rattle.list_text.specs.Reading.{ahead}
use Rattle.list_text.proofs.Listings.{RowsSoFar}
use Rattle.list_text.proofs.reader.Reader.rows.Given as goal

abbrev pub invariant-loop-x : goal.invariant-loop-x
invariant-loop-x l = RowsSoFar l.self l.p

abbrev pub decreases-loop-x : goal.decreases-loop-x
decreases-loop-x l = length (ahead l.p)
