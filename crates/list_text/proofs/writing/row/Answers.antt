use Rattle.std.proofs.Common.{◌≡◌, string_bytes, sym, subst, rules}
use Rattle.std.proofs.lemmas.Result.{IfOk-weaker}
use Rattle.list_text.specs.declared.token.Mark.TheVariants.{Semicolon}
use Rattle.list_text.specs.Grammar.{compact, One, OneRow, ◌⨾◌}
use Rattle.list_text.specs.Dates.{dated, Writes}
use Rattle.list_text.proofs.Writes.{row_bytes, row_writes}
use Rattle.list_text.proofs.writing.row.Goals as goal

pub returns : goal.returns
returns c =
    IfOk-weaker c.format.result (λ s. string_bytes s ≡ row_bytes c.args.point c.args.date.count) _
    (λ s e few small. subst (Writes (One compact Semicolon ⨾ OneRow compact (dated c.args.point c.args.date))) (sym e) (row_writes _ _ few small))
    (search rules)
