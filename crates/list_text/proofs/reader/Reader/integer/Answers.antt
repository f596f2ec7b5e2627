use Rattle.std.proofs.Common.{◌≡◌, suc, ◌-◌, length, take, drop, sym, ap, subst, pos, neg_ℤ, ◌-ℤ◌, to_z, of_z, w64, arith, rules}
use Rattle.std.proofs.lemmas.Result.{err_from_is_err_and}
use Rattle.list_text.specs.Grammar.{digit, AllOf}
use Rattle.list_text.proofs.Numerals.{not_number, number_piece, rest_is, all_digits, plain, plain_fault, negative, negative_fault}
use Rattle.list_text.proofs.reader.Reader.integer.Goals as goal

pub returns-in_default : goal.returns-in_default
returns-in_default c = λ k. not_number c.next-x.ensures _ _ c.in_default.not-Number

pub value-requires : goal.value-requires
value-requires c =
    let w = c.in-Number.w.now in
    let g = number_piece c.next-x.ensures c.in-Number.w c.in-Number.is in
    let e = rest_is g.first g.others w g.is in
    let l : length w ≡ suc (length g.others) = ap length g.is in
    let m : length (take (length w - 1) (drop 1 w)) ≡ length g.others = ap length e in
    (subst (AllOf digit) (sym e) g.pass, omega (arith, g.long, g.within))

pub returns-in_err-n : goal.returns-in_err-n
returns-in_err-n c =
    let p = err_from_is_err_and c.from_residual.result c.from_residual.ensures.1 in
    let g = number_piece c.next-x.ensures c.in-Number.w c.in-Number.is in
    rw (p.1, p.2) (λ k. negative_fault c.next-x.ensures c.in-Number.w c.in-Number.is _ _ _ c.if-w-eq45.true
    (rest_is g.first g.others c.in-Number.w.now g.is) c.in_err-n.ensures)

pub returns-then-w-eq45 : goal.returns-then-w-eq45
returns-then-w-eq45 c =
    let g = number_piece c.next-x.ensures c.in-Number.w c.in-Number.is in
    let small = c.in_ok-n.ensures.1 in
    let z : to_z w64 (of_z w64 (pos 0 -ℤ to_z w64 c.in_ok-n.n)) ≡ neg_ℤ (pos c.in_ok-n.n) = search rules in
    λ k. rw z (negative c.next-x.ensures c.in-Number.w c.in-Number.is _ _ _ c.if-w-eq45.true
    (rest_is g.first g.others c.in-Number.w.now g.is) c.in_ok-n.ensures.0)

pub value-requires-2 : goal.value-requires-2
value-requires-2 c =
    let g = number_piece c.next-x.ensures c.in-Number.w c.in-Number.is in
    (all_digits c.next-x.ensures c.in-Number.w c.in-Number.is c.if-w-eq45.false, omega (arith, g.long, g.within))

pub returns-in_err-n-2 : goal.returns-in_err-n-2
returns-in_err-n-2 c =
    let p = err_from_is_err_and c.from_residual-in_err-n-2.result c.from_residual-in_err-n-2.ensures.1 in
    rw (p.1, p.2) (λ k. plain_fault c.next-x.ensures c.in-Number.w c.in-Number.is _ _ _
    (all_digits c.next-x.ensures c.in-Number.w c.in-Number.is c.if-w-eq45.false) c.in_err-n-2.ensures)

pub returns : goal.returns
returns c =
    let small = c.in_ok-n-2.ensures.1 in
    let z : to_z w64 c.in_ok-n-2.n ≡ pos c.in_ok-n-2.n = search rules in
    λ k. rw z (plain c.next-x.ensures c.in-Number.w c.in-Number.is _ _ _ c.in_ok-n-2.ensures.0)
