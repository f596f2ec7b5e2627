-- Six next choices are the places. Assumes nothing.
use Rattle.std.proofs.Common.{◌<◌, length, unwrap_or, IfSome}
use Rattle.schedules.specs.Choosing.{NextChoice}
use Rattle.schedules.proofs.Placing.{places_found}
use Rattle.schedules.proofs.choices.choice_places.Goals as goal

pub returns : goal.returns
returns g c =
    let N = c.args.source.now in
    let there : IfSome c.next_choice-a.result (λ k. k < length N.conditions) = rw c.get.ensures.means at c.next_choice-a.ensures.there in
    let next : NextChoice N 0 (unwrap_or c.next_choice-a.result (length N.conditions)) = rw c.get.ensures.means at c.next_choice-a.ensures.next in
    places_found N c.get.ensures.legal _ _ _ _ _ _ there c.choice_after-b.ensures.there
    c.choice_after-c.ensures.there c.choice_after-d.ensures.there c.choice_after-e.ensures.there c.choice_after-f.ensures.there
    next c.choice_after-b.ensures.next c.choice_after-c.ensures.next c.choice_after-d.ensures.next
    c.choice_after-e.ensures.next c.choice_after-f.ensures.next
