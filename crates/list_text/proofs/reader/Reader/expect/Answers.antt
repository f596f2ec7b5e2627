use Rattle.std.proofs.lemmas.Bool.{both_ways}
use Rattle.list_text.proofs.Moves.{expected, unexpected}
use Rattle.list_text.proofs.reader.Reader.expect.Goals as goal

pub returns-then-is : goal.returns-then-is
returns-then-is c = λ k. expected c.next-x.ensures _ k (c.is.ensures.0 c.if-is.true)

pub returns-else-is : goal.returns-else-is
returns-else-is c = λ k. unexpected c.next-x.ensures _ k (λ e. both_ways _ c.if-is.false (c.is.ensures.1 e))
