use Rattle.std.proofs.Common.{rules, tests, arith, ℕ, refl, drop, ◌+◌}
use Rattle.std.proofs.lemmas.Iterator.{YieldsList-from_range}
use Rattle.std.proofs.lemmas.Iterator.Search.{all_from_yields_List}
use Rattle.networks.specs.Network.{window_of, open_window}
use Rattle.networks.specs.Refusal.{rises}
use Rattle.checks.proofs.Walks.{all_tested, rises_here}
use Rattle.checks.proofs.condition.ConditionOf.windows_rise.Goals as goal

pub returns : goal.returns
returns g c =
    let K = g.T.Span.Span.kind in
    let x = c.args.self.now in
    let test = λ (w : ℕ). rises_here K (window_of x w) (drop (w + 1) x.windows) in
    let n = c.windows-count.result in
    let by_number = all_from_yields_List test _ _ c.all.result c.all.ensures.ran (YieldsList-from_range 0 n n refl (omega arith)) (λ w b q k. search (rules, tests)) in
    all_tested (rises K) (rises_here K) refl (λ _ _. refl) open_window test x.windows n c.all.result by_number c.windows-count.ensures (λ i h. refl)
