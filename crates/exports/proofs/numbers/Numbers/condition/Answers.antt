-- Where a number does not fit, or the numbers end before it, there is no condition k. Assumes nothing.
use Rattle.std.proofs.Common.{arith}
use Rattle.exports.proofs.Counting.{absent_past, looked_up}
use Rattle.exports.proofs.numbers.Numbers.condition.Goals as goal

pub returns-in_err-at : goal.returns-in_err-at
returns-in_err-at g c =
    let s = c.args.self.now in
    rw c.from_residual.ensures
    (absent_past g.S.Spelled.spelling s.points s.numbers.now c.args.k c.of_condition-size.result c.of_condition-size.ensures.0
    (omega (arith, c.in_err-at.ensures)))

pub returns-in_err-checked_add : goal.returns-in_err-checked_add
returns-in_err-checked_add g c =
    let s = c.args.self.now in
    let at = c.in_ok-at.ensures in
    rw c.from_residual-in_err-checked_add.ensures
    (absent_past g.S.Spelled.spelling s.points s.numbers.now c.args.k c.of_condition-size.result c.of_condition-size.ensures.0
    (omega (arith, at.1, c.in_err-checked_add.ensures)))

pub returns : goal.returns
returns g c =
    let s = c.args.self.now in
    let at = c.in_ok-at.ensures in
    let to = c.in_ok-checked_add.ensures in
    looked_up g.S.Spelled.spelling s.points s.numbers.now c.args.k g.met.S.Spelled.spells c.of_condition-size.result c.in_ok-at.at
    c.of_condition-size.ensures.0 at.1 c.get.result (rw to.1 at c.get.ensures.lookup)
