use Rattle.std.proofs.Common.{◌∙◌}
use Rattle.std.proofs.lemmas.Bool.{both_ways}
use Rattle.list_text.proofs.Moves.{stop}
use Rattle.list_text.proofs.Listings.{at_finish, not_finish}
use Rattle.list_text.proofs.reader.Reader.all_rows.Goals as goal

pub returns-then-is_finish : goal.returns-then-is_finish
returns-then-is_finish c =
    let r = c.in_ok-end.ensures in
    (r.0, λ n m. (r.1 n m).leads ∙ at_finish c.next-x.ensures _ (c.is_finish.ensures.0 c.if-is_finish.true))

pub returns-else-is_finish : goal.returns-else-is_finish
returns-else-is_finish c = λ n m. stop (c.in_ok-end.ensures.1 n m)
    (not_finish c.next-x.ensures _ (λ e. both_ways _ c.if-is_finish.false (c.is_finish.ensures.1 e)))
