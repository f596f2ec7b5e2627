use Rattle.std.proofs.Common.{◌≡◌, false, arith, rules, tests}
use Rattle.distances.specs.Closing.{FoundEdge}
use Rattle.distances.specs.Matrix.{table, linked}
use Rattle.distances.specs.Table.{closes}
use Rattle.distances.proofs.Searching.{found}
use Rattle.distances.proofs.cycle.find_closing.Goals as goal

pub returns : goal.returns
returns g c =
    let d = table c.args.ways.now.n c.args.matrix.now in
    let links = linked c.args.ways.now.n c.args.ways.now.links.now in
    found _ _ c.args.k (λ i. closes g.S.Span.kind d links c.args.k i ≡ false) (FoundEdge g.S.Span.kind d links c.args.k)
    (λ x r q h. search (rules, tests)) (λ x h. search (rules, tests)) (λ x y h. search (rules, tests)) c.find_map.result c.find_map.ensures.runs (omega arith)
