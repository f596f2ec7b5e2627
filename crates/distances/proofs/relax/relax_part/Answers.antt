use Rattle.std.proofs.Common.{◌≡◌, ◌+◌, refl, ◌∙◌, arith}
use Rattle.distances.proofs.Relaxing.{Turn, turn_matrix, turn_links, place_rest}
use Rattle.distances.proofs.relax.relax_part.Goals as goal

pub loop-j-preserved : goal.loop-j-preserved
loop-j-preserved g c =
    let K = g.S.Span.kind in
    let n = c.args.n in
    let k = c.args.k in
    let inv = c.loop-j.invariant in (
      λ d m f u v.
          let so_far = inv.0 d m f u v in
          let t : Turn K n k d c.args.i c.loop-j.j c.loop-j.matrix
          (c.place-row.result + c.loop-j.j) c.args.front (c.place-via.result + c.loop-j.j) = record {
            row_there = omega arith;
            column_there = omega arith;
            middle_there = omega arith;
            apart = c.requires.apart c.loop-j.j (omega arith) (omega arith);
            room = omega arith;
            at_is = omega arith;
            front_is = f;
            back_is = omega arith;
            upto = so_far.0;
          } in (
            turn_matrix K n k d t c.relax_entry.new.matrix c.relax_entry.ensures.matrix,
            turn_links K n k d t m c.loop-j.links c.relax_entry.new.links (omega arith) refl so_far.1 c.relax_entry.ensures.links,
          ),
      place_rest K n c.args.i c.loop-j.j (c.place-row.result + c.loop-j.j) (c.place-via.result + c.loop-j.j) c.args.front c.loop-j.matrix c.relax_entry.new.matrix
          (omega arith) (omega arith) (omega arith) (omega arith) c.relax_entry.ensures.matrix ∙ inv.1,
    )

pub returns-clause-taken : goal.returns-clause-taken
returns-clause-taken g c =
    let e : c.loop-j.j ≡ c.args.part.end = omega arith in
    rw e at c.loop-j.invariant.0
