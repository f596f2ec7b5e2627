use Rattle.std.proofs.Common.{rules, tests, arith, ℕ, refl, length, ltb}
use Rattle.std.proofs.lemmas.Iterator.{YieldsList-from_range}
use Rattle.std.proofs.lemmas.Iterator.Consumers.{YieldsList-from_filter, count_from_yields_List}
use Rattle.networks.specs.Network.{condition_at}
use Rattle.checks.proofs.Walks.{choices_counted}
use Rattle.checks.proofs.conditions.count_choices.Goals as goal

pub returns : goal.returns
returns g c =
    let N = g.T.Source.means c.args.source.now in
    let test = λ (k : ℕ). ltb 1 (length (condition_at N k).windows) in
    let n = c.conditions.result in
    let by_number = count_from_yields_List c.filter.result _ c.count.ensures.ran (YieldsList-from_filter _ test (YieldsList-from_range 0 n n c.filter.ensures.source (omega arith)) c.filter.ensures.closure (λ k b q t. search (rules, tests))) in
    choices_counted test N.conditions n c.count.result by_number c.conditions.ensures (λ i h. refl)
