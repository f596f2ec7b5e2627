use Rattle.std.proofs.Common.{◌≡◌, ℕ, ◌≤◌, false, None, sym, ◌∙◌, inl, inr, arith}
use Rattle.distances.specs.Matrix.{table, linked}
use Rattle.distances.specs.Table.{shortens}
use Rattle.distances.proofs.Matrices.{square_outside, rows_all}
use Rattle.distances.proofs.Relaxing.{Next, next_matrix, next_links, pass_matrix, pass_links, same_matrix, same_links, stage_keeps, link_keeps, no_way}
use Rattle.distances.proofs.relax.relax_stage.Goals as goal
use Rattle.distances.proofs.relax.relax_stage.Goals.{then-i-k+in-Some, then-i-k+in_default, else-i-k}

pub loop-i-preserved : goal.loop-i-preserved
loop-i-preserved g c =
    let laws = g.met.S.Span.lawful in
    let n = c.args.n in
    let k = c.args.k in
    let d = table n c.args.matrix.now in
    let m = linked n c.args.links.now in
    let inv = c.loop-i.invariant in
    let t : Next laws n k d c.loop-i.i c.loop-i.matrix = record {
      diagonal = c.requires.diagonal;
      small = c.requires.small;
      outside = λ q h. square_outside None n c.args.matrix.now k q (inr h);
      upto = inv.0;
    } in
    elim c.if-i-k.branch [
      | then-i-k+in-Some w ↦
          simp (w.matrix-is, w.links-is) (
            next_matrix laws n k d t w.relax_row.new.matrix w.relax_row.ensures.matrix,
            next_links laws n k d t m c.loop-i.links w.relax_row.new.links inv.1 w.relax_row.ensures.links,
            w.relax_row.ensures.rest ∙ inv.2,
          )
      | then-i-k+in_default w ↦
          let e = sym (w.in_default.ensures None) in
          simp (w.matrix-is, w.links-is)
          (pass_matrix laws n k d t e, pass_links laws n k d t m c.loop-i.links e inv.1, inv.2)
      | else-i-k w ↦
          simp (w.matrix-is, w.links-is)
          (same_matrix laws n k d t w.if-i-k.false, same_links laws n k d t m c.loop-i.links w.if-i-k.false inv.1, inv.2)
    ]

pub returns : goal.returns
returns g c =
    let K = g.S.Span.kind in
    let n = c.args.n in
    let k = c.args.k in
    let d = table n c.args.matrix.now in
    let m = linked n c.args.links.now in
    let inv = c.loop-i.invariant in
    let still : (p q : ℕ) → c.loop-i.i ≤ p → shortens K d k p q ≡ false = λ p q h. no_way K d k p q (inl (square_outside None n c.args.matrix.now p k (inl (omega arith)))) in
    record {
      matrix = rows_all inv.0 (λ p q h. sym (stage_keeps K d k p q (still p q h)));
      links = rows_all inv.1 (λ p q h. sym (link_keeps K d k m p q (still p q h)));
      rest = inv.2;
    }
