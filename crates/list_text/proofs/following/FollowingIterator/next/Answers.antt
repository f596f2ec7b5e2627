use Rattle.std.proofs.Common.{[]}
use Rattle.list_text.proofs.Moves.{nearer}
use Rattle.list_text.proofs.following.FollowingIterator.next.Goals as goal

pub returns-clause-goes : goal.returns-clause-goes
returns-clause-goes c =
    let e = c.in_ok-row.ensures in
    record { on = λ f. (tt, tt, nearer (e.3 0 0 []) e.2); keeps = tt; rests = λ f. tt }
