use Rattle.list_text.proofs.Fills.{wanted, FillSoFar}
use Rattle.list_text.proofs.text.ListText.copied.Given as goal

abbrev pub invariant-loop-filled : goal.invariant-loop-filled
invariant-loop-filled l =
    (goal.iterator-loop-filled).can_next l.following × (goal.iterator-loop-filled).is_finite l.following
    × FillSoFar (wanted l.self.rows.text.now l.self.rows.at l.first) l.filled l.initial.rows l.rows l.following
