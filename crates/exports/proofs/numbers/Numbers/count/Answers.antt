use Rattle.std.proofs.Common.{ℕ, ◌/◌, length, sym, ap, ◌∙◌}
use Rattle.exports.proofs.Counting.{firsts_length}
use Rattle.exports.proofs.numbers.Numbers.count.Goals as goal

pub returns : goal.returns
returns g c = ap (λ (w : ℕ). length c.args.self.now.numbers.now / w) c.of_condition.ensures.0 ∙ sym (firsts_length _ _)
