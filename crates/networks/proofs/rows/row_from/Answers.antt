use Rattle.networks.proofs.Ledgers.{row_of_made}
use Rattle.networks.proofs.rows.row_from.Goals as goal

pub returns : goal.returns
returns g c = row_of_made c.args.from c.args.to c.args.windows.now _ (cc)
