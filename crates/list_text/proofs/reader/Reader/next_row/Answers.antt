use Rattle.std.proofs.Common.{sym, subst}
use Rattle.std.proofs.lemmas.Bool.{both_ways}
use Rattle.list_text.specs.Reading.{NextRow}
use Rattle.list_text.proofs.Listings.{no_row, no_bracket, bracket_read, one_row}
use Rattle.list_text.proofs.reader.Reader.next_row.Goals as goal

pub returns-then-not-is : goal.returns-then-not-is
returns-then-not-is c = no_row c.next-x.ensures (λ e. both_ways _ c.if-not-is.true (c.is.ensures.1 e)) c.args.pick

pub returns-in_err-p : goal.returns-in_err-p
returns-in_err-p c = subst (NextRow _ _) (sym c.from_residual.ensures)
    (no_bracket c.next-x.ensures (c.is.ensures.0 c.if-not-is.false) _ c.expect.ensures c.in_err-p.ensures.value c.args.pick)

pub returns : goal.returns
returns c = subst (NextRow _ _) (sym c.ok-2.ensures.value)
    (one_row c.next-x.ensures (c.is.ensures.0 c.if-not-is.false) c.args.pick (bracket_read _ c.expect.ensures c.in_ok-p.ensures.value) _ c.row.ensures)
