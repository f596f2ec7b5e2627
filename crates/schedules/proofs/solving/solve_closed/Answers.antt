-- The selection that is found is legal, and its dates are the solution. Assumes nothing.
use Rattle.std.proofs.Common.{sym, ap, subst, ◌∙◌}
use Rattle.std.proofs.lemmas.Nat.{mul-le}
use Rattle.networks.specs.Network.{Network}
use Rattle.networks.specs.Legal.{Legal}
use Rattle.networks.specs.Selection.{selected}
use Rattle.schedules.proofs.Solves.{found_legal}
use Rattle.schedules.proofs.solving.solve_closed.Goals as goal

pub first_selection-requires-clause-room : goal.first_selection-requires-clause-room
first_selection-requires-clause-room g c =
    let few = c.get-asked.ensures.legal.few_points in
    (c.requires.room.0, mul-le c.args.source.now.points c.args.source.now.points 48 48 few few)

pub new-requires : goal.new-requires
new-requires g c =
    let N = c.args.source.now in
    subst (Legal g.T.Span.Span.kind) (sym (c.over-selected.ensures ∙ ap (λ (M : Network g.row.T-Span.Denot). selected M c.in-Some.windows) c.get-asked.ensures.means))
    (found_legal N c.in-Some.windows c.first_selection.new.matrix c.in-Some.ensures.found g.met.T.Span.Span.lawful c.get-asked.ensures.legal)
