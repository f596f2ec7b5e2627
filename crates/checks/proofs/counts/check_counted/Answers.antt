use Rattle.checks.proofs.Lawfulness.{checked}
use Rattle.checks.proofs.counts.check_counted.Goals as goal

pub returns : goal.returns
returns g c =
    checked g.T.Span.Span.kind (g.T.Source.means c.args.source.now) c.args.room c.first_refusal.result c.first_refusal.ensures
