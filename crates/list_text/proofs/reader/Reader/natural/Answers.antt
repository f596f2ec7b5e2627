use Rattle.std.proofs.Common.{refl, arith}
use Rattle.std.proofs.lemmas.Result.{err_from_is_err_and}
use Rattle.list_text.proofs.Numerals.{not_number, number_piece, all_digits, plain, plain_fault, dash_fault}
use Rattle.list_text.proofs.reader.Reader.natural.Goals as goal

pub returns-in_default : goal.returns-in_default
returns-in_default c = λ k. not_number c.next-x.ensures _ k c.in_default.not-Number

pub returns-then-w-eq45 : goal.returns-then-w-eq45
returns-then-w-eq45 c = λ k. dash_fault c.next-x.ensures c.in-Number.w c.in-Number.is _ k refl c.if-w-eq45.true

pub value-requires : goal.value-requires
value-requires c =
    let g = number_piece c.next-x.ensures c.in-Number.w c.in-Number.is in
    (all_digits c.next-x.ensures c.in-Number.w c.in-Number.is c.if-w-eq45.false, omega (arith, g.long, g.within))

pub returns-in_err-n : goal.returns-in_err-n
returns-in_err-n c =
    let p = err_from_is_err_and c.from_residual.result c.from_residual.ensures.1 in
    rw (p.1, p.2) (λ k. plain_fault c.next-x.ensures c.in-Number.w c.in-Number.is _ k _
    (all_digits c.next-x.ensures c.in-Number.w c.in-Number.is c.if-w-eq45.false) c.in_err-n.ensures)

pub returns : goal.returns
returns c = λ k. plain c.next-x.ensures c.in-Number.w c.in-Number.is _ k _ c.in_ok-n.ensures.0
