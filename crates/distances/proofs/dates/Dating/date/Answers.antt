-- The greatest earliest date, the least latest one, or zero, as the date rule says. Assumes nothing.
use Rattle.std.proofs.Common.{◌≡◌, ℕ, List, Some, None, Option, unwrap_or, sym, ◌∙◌, subst}
use Rattle.spans.specs.Kind.{Kind}
use Rattle.distances.specs.Matrix.{table}
use Rattle.distances.specs.Table.{Table}
use Rattle.distances.specs.Steps.{LeastSoFar}
use Rattle.distances.specs.DateRule.{Dated, NoEarliest, at_earliest, at_latest, at_zero}
use Rattle.distances.proofs.dates.Dating.date.Goals as goal

without_earliest : {S : Type 0} (K : Kind S) (d : Table S) (dates : List S) (p : ℕ) (r : Option S) (z x : S) → NoEarliest K d dates p p
    → LeastSoFar K d dates p p r → z ≡ K.zero → x ≡ unwrap_or r z → Dated K d dates p x
without_earliest K d dates p (Some y) z x none least zero is = subst (Dated K d dates p) (sym is) (at_latest none least)
without_earliest K d dates p None z x none neither zero is = subst (Dated K d dates p) (sym (is ∙ zero)) (at_zero none neither)

pub returns-in-Some : goal.returns-in-Some
returns-in-Some g c = at_earliest c.in-Some.ensures

pub returns-in-None : goal.returns-in-None
returns-in-None g c =
    let it = c.args.self.now in
    without_earliest g.S.Span.kind (table it.n it.matrix.now) it.dates.now it.p c.least_latest.result c.zero.result c.unwrap_or.result
    c.in-None.ensures c.least_latest.ensures c.zero.ensures c.unwrap_or.ensures
