use Rattle.list_text.proofs.Texts.{readable}
use Rattle.list_text.proofs.Fills.{gives_rows, counted}
use Rattle.list_text.proofs.text.ListText.count.Goals as goal

pub returns : goal.returns
returns c =
    let r = c.args.self.now.rows in
    counted _ _ _ (gives_rows (record { reader = r; pick = 0 }) (readable r c.args.self.now.readable)) c.count.ensures.ran
