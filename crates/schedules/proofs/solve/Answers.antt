-- Two calls answer alike. Assumes nothing.
use Rattle.schedules.proofs.OneAnswer.{solves_once}
use Rattle.schedules.proofs.solve.Goals as goal

pub returns-clause-once : goal.returns-clause-once
returns-clause-once g c = solves_once g.met.T.Span.Span.lawful
