use Rattle.std.proofs.Common.{sym, subst}
use Rattle.list_text.specs.Reading.{conditions_from, Looked}
use Rattle.list_text.proofs.Texts.{readable}
use Rattle.list_text.proofs.Fills.{gives_rows, looked}
use Rattle.list_text.proofs.text.ListText.row.Goals as goal

pub returns : goal.returns
returns c =
    let r = c.args.self.now.rows in
    let cs = conditions_from r.text.now r.at in
    let gives = gives_rows (record { reader = r; pick = c.args.w }) (readable r c.args.self.now.readable) in
    subst (Looked cs c.args.k c.args.w) (sym c.unwrap_or.ensures) (looked _ _ _ _ _ cs gives c.nth.ensures.ran c.new.ensures.row)
