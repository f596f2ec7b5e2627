-- The first number in the range with more than one window, or none. Assumes nothing.
use Rattle.std.proofs.Common.{rules, tests, ◌≡◌, ℕ, ◌<◌, ◌≤◌, length, Some, None, Option, MatchOption, unwrap_or, arith}
use Rattle.networks.specs.Network.{Network, condition_at}
use Rattle.std.proofs.lemmas.Iterator.{first_from_Range}
use Rattle.schedules.specs.Choosing.{NextChoice}
use Rattle.schedules.proofs.choices.next_choice.Goals as goal

first_found : {S : Type 0} (N : Network S) (from end : ℕ) → end ≡ length N.conditions → (r : Option ℕ)
    → MatchOption r ((k : ℕ) → from ≤ k → k < end → length (condition_at N k).windows ≤ 1)
    (λ i. (from ≤ i) × (i < end) × (1 < length (condition_at N i).windows) × ((k : ℕ) → from ≤ k → k < i → length (condition_at N k).windows ≤ 1))
    → NextChoice N from (unwrap_or r (length N.conditions))
first_found N from end e None h = record {
  within = omega arith;
  none_before = λ k l u. h k l (omega arith);
  is_choice = λ l. absurd (omega arith);
}
first_found N from end e (Some i) (least, within, choice, before) = record {
  within = omega arith;
  none_before = before;
  is_choice = λ l. (least, choice);
}

pub returns-clause-next : goal.returns-clause-next
returns-clause-next g c =
    let N = g.T.Source.means c.args.source.now in
    first_found N c.args.from c.conditions.result c.conditions.ensures c.find.result
    (first_from_Range (record { start = c.args.from; end = c.conditions.result }) _ _ c.find.result
    (λ k. 1 < length (condition_at N k).windows) (λ k. length (condition_at N k).windows ≤ 1)
    c.find.ensures.ran (λ k q e. search (rules, tests)) (λ k q e. search (rules, tests)))
