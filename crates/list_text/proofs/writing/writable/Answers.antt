use Rattle.std.proofs.Common.{arith}
use Rattle.list_text.proofs.Writes.{tells_small, tells_many}
use Rattle.list_text.proofs.writing.writable.Goals as goal

pub returns-then-dates-le-GREATEST : goal.returns-then-dates-le-GREATEST
returns-then-dates-le-GREATEST c = let few = c.if-dates-le-GREATEST.true in tells_small _ _ (omega arith) c.small.ensures

pub returns-else-dates-le-GREATEST : goal.returns-else-dates-le-GREATEST
returns-else-dates-le-GREATEST c = let many = c.if-dates-le-GREATEST.false in tells_many _ (omega arith)
