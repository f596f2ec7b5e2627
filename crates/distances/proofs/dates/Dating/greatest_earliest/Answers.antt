-- The chain gives the greatest of the offers of the points before p, and that is the greatest earliest date. Assumes nothing.
use Rattle.std.proofs.Common.{rules, tests, ◌≡◌, arith, cond, sym, subst}
use Rattle.std.specs.List.{reduce, filter_map, range_with_len}
use Rattle.std.proofs.lemmas.Iterator.{YieldsList-from_range}
use Rattle.std.proofs.lemmas.Iterator.Consumers.{YieldsList-from_filter_map}
use Rattle.networks.specs.Plan.{date}
use Rattle.distances.specs.Limits.{largest_total}
use Rattle.distances.specs.Matrix.{table}
use Rattle.distances.specs.Steps.{earliest, GreatestSoFar}
use Rattle.distances.proofs.Dating.{greatest_of}
use Rattle.distances.proofs.Picked.{picked_is}
use Rattle.distances.proofs.dates.Dating.greatest_earliest.Goals as goal

pub returns : goal.returns
returns g c =
    let K = g.S.Span.kind in
    let it = c.args.self.now in
    let d = table it.n it.matrix.now in
    let same : c.reduce.result
    ≡ reduce (λ x y. cond (K.less x y) y x) (filter_map (λ q. earliest K (date K it.dates.now q) (d it.p q)) (range_with_len 0 it.p)) =
    picked_is _ (λ x y. cond (K.less x y) y x) _ (λ a x b q k. search (rules, tests)) _ c.reduce.result c.reduce.ensures.ran
    (YieldsList-from_filter_map _ (λ q. earliest K (date K it.dates.now q) (d it.p q))
    (YieldsList-from_range 0 it.p it.p c.filter_map.ensures.source (omega arith)) c.filter_map.ensures.closure
    (λ x r q k. search (rules, tests))) in
    subst (GreatestSoFar K d it.dates.now it.p it.p) (sym same)
    (greatest_of g.met.S.Span.lawful d it.dates.now it.p largest_total it.small (λ q l. omega (arith, it.near q l)))
