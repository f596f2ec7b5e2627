use Rattle.std.proofs.Common.{◌≡◌, string_bytes, sym, subst}
use Rattle.std.proofs.lemmas.Result.{IfOk-weaker}
use Rattle.list_text.specs.declared.token.Mark.TheVariants.{ListOpen}
use Rattle.list_text.specs.Grammar.{compact, One, Header, ◌⨾◌}
use Rattle.list_text.specs.Dates.{Writes}
use Rattle.list_text.proofs.Writes.{header_bytes, header_writes}
use Rattle.list_text.proofs.writing.header.Goals as goal

pub returns : goal.returns
returns c =
    IfOk-weaker c.format.result (λ s. string_bytes s ≡ header_bytes c.args.points) _
    (λ s e few. subst (Writes (One compact ListOpen ⨾ Header compact c.args.points c.args.points)) (sym e) (header_writes _ few))
    c.format.ensures.ok
