-- What stands begins, steps and ends; or an edge closes a way below zero. Assumes nothing.
use Rattle.std.proofs.Common.{◌≡◌, ℕ, ◌<◌, refl, sym, subst, ◌∙◌, arith}
use Rattle.distances.specs.Closing.{CannotClose}
use Rattle.distances.specs.Matrix.{table, linked, Rest}
use Rattle.distances.specs.Limits.{largest_total}
use Rattle.distances.proofs.Stages.{Stands}
use Rattle.distances.proofs.Endings.{standing_begins, standing_steps, standing_refuses, standing_ends}
use Rattle.distances.proofs.closing.close.Goals as goal

pub loop-k-init : goal.loop-k-init
loop-k-init g c =
    let N = c.args.source.now in
    let n = c.points-n.result in
    let filled = c.fill_edges.ensures in (
      subst (λ (m : ℕ). Stands g.T.Span.Span.kind N largest_total (table m c.fill_edges.new.matrix) (linked m c.fill_edges.new.links) 0) (sym c.points-n.ensures.points)
          (standing_begins g.met.T.Span.Span.lawful N c.points-n.ensures.legal (table N.points c.fill_edges.new.matrix) (linked N.points c.fill_edges.new.links)
          filled.matrix filled.links filled.straight),
      refl,
    )

pub returns-in-Some : goal.returns-in-Some
returns-in-Some g c =
    let K = g.T.Span.Span.kind in
    let N = c.args.source.now in
    let n = c.points-n.result in
    let is : n ≡ N.points = c.points-n.ensures.points in
    let found = c.in-Some.ensures in
    let edge = c.in-Some.edge in
    let below : c.loop-k.k < N.points = omega arith in
    record {
      ends = subst (λ (m : ℕ). CannotClose K N (linked m c.loop-k.links) edge.first edge.last edge.code) is
          (subst (λ (m : ℕ). CannotClose K N (linked n c.loop-k.links) m edge.last edge.code) (sym found.first_is)
          (standing_refuses g.met.T.Span.Span.lawful N c.points-n.ensures.legal (table n c.loop-k.matrix) (linked n c.loop-k.links)
          c.loop-k.k c.loop-k.invariant.0 below edge.last found.last_below found.below_zero edge.code found.back));
      rest = subst (λ (m : ℕ). Rest m c.args.matrix.now c.loop-k.matrix) is (c.loop-k.invariant.1 ∙ (rw (← is) at c.fill_edges.ensures.rest));
    }

pub loop-k-preserved : goal.loop-k-preserved
loop-k-preserved g c =
    let N = c.args.source.now in
    let n = c.points-n.result in
    let relaxed = c.relax_stage.ensures in
    let below : c.loop-k.k < N.points = omega arith in (
      standing_steps g.met.T.Span.Span.lawful N c.points-n.ensures.legal (table n c.loop-k.matrix) (linked n c.loop-k.links)
          c.loop-k.k c.loop-k.invariant.0 below _ _ c.in_default.ensures relaxed.matrix relaxed.links,
      relaxed.rest ∙ c.loop-k.invariant.1,
    )

pub returns-clause-ends : goal.returns-clause-ends
returns-clause-ends g c =
    let N = c.args.source.now in
    let n = c.points-n.result in
    let is : n ≡ N.points = c.points-n.ensures.points in
    let all : c.loop-k.k ≡ N.points = omega arith in
    standing_ends g.met.T.Span.Span.lawful N c.points-n.ensures.legal n c.loop-k.k c.loop-k.matrix (linked n c.loop-k.links) is all c.loop-k.invariant.0
