-- A call is granted where the network can be granted, so all are or none is. Assumes nothing.
use Rattle.std.proofs.Common.{length, arith}
use Rattle.exports.proofs.Answering.{answered, one_more, no_more}
use Rattle.exports.proofs.calls.count_granted.Goals as goal
use Rattle.exports.proofs.calls.count_granted.Goals.{then-is_ok, else-is_ok}

pub loop-i-preserved : goal.loop-i-preserved
loop-i-preserved g c =
    let K = g.T.Span.Span.kind in
    let N = g.T.Source.means c.args.source.now in
    let m = length c.args.memory.now in
    let n = length c.args.cycle.now in
    let inv = c.loop-i.invariant in
    let told = answered K N c.loop-i.memory c.tighten.new.matrix c.loop-i.cycle c.tighten.new.cycle c.tighten.result c.tighten.ensures.tightened m n
    c.loop-i.auto.memory c.loop-i.auto.cycle in
    elim c.if-is_ok.branch [
      | then-is_ok w ↦
          simp w.granted-is
          (omega arith, one_more K N m n c.loop-i._i c.loop-i.granted inv.1 (rw (← c.is_ok.ensures.value, w.if-is_ok.true) at told))
      | else-is_ok w ↦
          simp w.granted-is
          (omega arith, no_more K N m n c.loop-i._i c.loop-i.granted inv.1 (rw (← c.is_ok.ensures.value, w.if-is_ok.false) at told))
    ]
