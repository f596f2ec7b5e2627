-- Two calls answer alike. Assumes nothing.
use Rattle.schedules.proofs.OneRange.{ranges_once}
use Rattle.schedules.proofs.range.Goals as goal

pub returns-clause-once : goal.returns-clause-once
returns-clause-once g c = ranges_once g.met.T.Span.Span.lawful
