use Rattle.std.proofs.Common.{◌≡◌, ℕ, ◌*◌, length, drop, None, sym, refl, ap, ◌∙◌, subst, add-one, arith, rules}
use Rattle.distances.specs.declared.link.Link.TheVariants.{Direct}
use Rattle.distances.specs.Begun.{Filled}
use Rattle.distances.specs.Matrix.{Rest}
use Rattle.distances.specs.Edges.{least_edge}
use Rattle.distances.proofs.Matrices.{blank_all, blank_rest}
use Rattle.distances.proofs.Filling.{none_filled, begun_is}
use Rattle.distances.proofs.edges.fill_edges.Goals as goal

pub loop-k-init : goal.loop-k-init
loop-k-init g c =
    let n = c.points-n.result in
    let squares : n * n ≡ c.args.source.now.points * c.args.source.now.points = ap (λ (m : ℕ). m * m) c.points-n.ensures.points in
    let blank = blank_all None n None c.args.matrix.now (omega (arith, squares)) (c.fill.ensures.after (λ y h. search rules)) in
    let straight = blank_all (Direct 0) n (Direct 0) c.args.links.now (omega (arith, squares)) (c.fill-2.ensures.after (λ y h. search rules)) in (
      rw (← c.points-n.ensures.points, blank, straight) (none_filled g.T.Span.Span.kind c.args.source.now n c.args.matrix.now c.args.links.now),
      refl,
    )

pub loop-k-preserved : goal.loop-k-preserved
loop-k-preserved g c =
    let K = g.T.Span.Span.kind in
    let N = c.args.source.now in
    let e = c.put_condition.ensures in (
      subst (λ (k : ℕ). Filled N.points (least_edge K N k) c.put_condition.new.matrix c.put_condition.new.links)
          (sym (add-one c.loop-k.k)) e.filled,
      (rw (← c.points-n.ensures.points) at e.rest) ∙ c.loop-k.invariant.1,
    )

pub returns : goal.returns
returns g c =
    let K = g.T.Span.Span.kind in
    let N = c.args.source.now in
    let n = c.points-n.result in
    let is : n ≡ N.points = c.points-n.ensures.points in
    let squares : n * n ≡ N.points * N.points = ap (λ (m : ℕ). m * m) is in
    let all : c.loop-k.k ≡ length N.conditions = omega arith in
    let filled : Filled N.points (least_edge K N (length N.conditions)) c.loop-k.matrix c.loop-k.links = rw all at c.loop-k.invariant.0 in
    record {
      matrix = λ i j. (rw is at c.put_zeros.ensures.matrix) i j ∙ begun_is K N N.points c.loop-k.matrix c.loop-k.links (omega arith) filled i j;
      links = filled.codes_beside;
      straight = filled.straight;
      rest =
          subst (λ (m : ℕ). Rest m c.args.matrix.now c.put_zeros.new.matrix) is
          (c.put_zeros.ensures.rest ∙ c.loop-k.invariant.1
          ∙ ap (drop (n * n)) (blank_all None n None c.args.matrix.now (omega (arith, squares)) (c.fill.ensures.after (λ y h. search rules)))
          ∙ blank_rest None n None c.args.matrix.now);
    }
