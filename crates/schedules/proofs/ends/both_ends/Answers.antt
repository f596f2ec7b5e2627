-- At each level one window is tried: it is ruled out at once, or all that goes on from it is gone through; at the last one the ends join. Assumes nothing.
use Rattle.std.proofs.Common.{refl, ◌∙◌, arith}
use Rattle.schedules.specs.Choosing.{place_of}
use Rattle.schedules.proofs.Levels.{turned, turn_there}
use Rattle.schedules.proofs.Sweeping.{sweeping_begins, sweeping_down, sweeping_past, sweeping_through, sweeping_found, sweeping_ends}
use Rattle.schedules.proofs.ends.both_ends.Goals as goal
use Rattle.schedules.proofs.ends.both_ends.Goals.{in-Some+else-loop-b-test, in_default, in-Some-descend+else-loop-c-test, in_default-descend, in-Some-descend-2+else-loop-d-test, in_default-descend-2, in-Some-descend-3+else-loop-e-test, in_default-descend-3, in-Some-descend-4+else-loop-f-test, in_default-descend-4, in-Some-descend-5, in_default-descend-5}

pub loop-a-init : goal.loop-a-init
loop-a-init g c = (
  sweeping_begins g.met.T.Span.Span.lawful c.args.source.now c.args.i c.args.j (place_of c.args.source.now c.args.places) c.requires.places.in_order c.first_windows-start.result c.args.matrix.now
      (omega (arith, c.get-asked.ensures.legal.few_conditions, c.first_windows-start.ensures.long)) c.first_windows-start.ensures.zeros c.requires.closed,
  refl,
)

pub loop-b-init : goal.loop-b-init
loop-b-init g c = (
  sweeping_down g.met.T.Span.Span.lawful c.args.source.now c.args.i c.args.j (place_of c.args.source.now c.args.places) c.requires.places.in_order 0 _ (omega arith) _ _ _ _ _ c.loop-a.invariant.0 c.in-Some.ensures.goes,
  refl,
)

pub loop-c-init : goal.loop-c-init
loop-c-init g c = (
  sweeping_down g.met.T.Span.Span.lawful c.args.source.now c.args.i c.args.j (place_of c.args.source.now c.args.places) c.requires.places.in_order 1 _ (omega arith) _ _ _ _ _ c.loop-b.invariant.0 c.in-Some-descend.ensures.goes,
  refl,
)

pub loop-d-init : goal.loop-d-init
loop-d-init g c = (
  sweeping_down g.met.T.Span.Span.lawful c.args.source.now c.args.i c.args.j (place_of c.args.source.now c.args.places) c.requires.places.in_order 2 _ (omega arith) _ _ _ _ _ c.loop-c.invariant.0 c.in-Some-descend-2.ensures.goes,
  refl,
)

pub loop-e-init : goal.loop-e-init
loop-e-init g c = (
  sweeping_down g.met.T.Span.Span.lawful c.args.source.now c.args.i c.args.j (place_of c.args.source.now c.args.places) c.requires.places.in_order 3 _ (omega arith) _ _ _ _ _ c.loop-d.invariant.0 c.in-Some-descend-3.ensures.goes,
  refl,
)

pub loop-f-init : goal.loop-f-init
loop-f-init g c = (
  sweeping_down g.met.T.Span.Span.lawful c.args.source.now c.args.i c.args.j (place_of c.args.source.now c.args.places) c.requires.places.in_order 4 _ (omega arith) _ _ _ _ _ c.loop-e.invariant.0 c.in-Some-descend-4.ensures.goes,
  refl,
)

pub descend-requires-in-loop-b-clause-turn : goal.descend-requires-in-loop-b-clause-turn
descend-requires-in-loop-b-clause-turn g c =
    turn_there _ _ _ _ (turned c.get-asked.ensures.means c.args.places c.requires.places 1 _ c.turns-b-end.ensures) c.loop-b-test.true

pub descend-requires-in-loop-c-clause-turn : goal.descend-requires-in-loop-c-clause-turn
descend-requires-in-loop-c-clause-turn g c =
    turn_there _ _ _ _ (turned c.get-asked.ensures.means c.args.places c.requires.places 2 _ c.turns-c-end.ensures) c.loop-c-test.true

pub descend-requires-in-loop-d-clause-turn : goal.descend-requires-in-loop-d-clause-turn
descend-requires-in-loop-d-clause-turn g c =
    turn_there _ _ _ _ (turned c.get-asked.ensures.means c.args.places c.requires.places 3 _ c.turns-d-end.ensures) c.loop-d-test.true

pub descend-requires-in-loop-e-clause-turn : goal.descend-requires-in-loop-e-clause-turn
descend-requires-in-loop-e-clause-turn g c =
    turn_there _ _ _ _ (turned c.get-asked.ensures.means c.args.places c.requires.places 4 _ c.turns-e-end.ensures) c.loop-e-test.true

pub descend-requires-in-loop-f-clause-turn : goal.descend-requires-in-loop-f-clause-turn
descend-requires-in-loop-f-clause-turn g c =
    turn_there _ _ _ _ (turned c.get-asked.ensures.means c.args.places c.requires.places 5 _ c.turns-f-end.ensures) c.loop-f-test.true

pub returns-clause-ends : goal.returns-clause-ends
returns-clause-ends g c =
    sweeping_ends g.met.T.Span.Span.lawful c.args.source.now c.args.i c.args.j (place_of c.args.source.now c.args.places) c.requires.places.in_order _ _ _ _ _ (turned c.get-asked.ensures.means c.args.places c.requires.places 0 _ c.turns-a-end.ensures) c.loop-a-test.false c.loop-a.invariant.0

pub loop-a-preserved : goal.loop-a-preserved
loop-a-preserved g c =
    elim c.match-descend.branch [
      | in-Some+else-loop-b-test w ↦
          simp (w.ends-is, w.matrix-is) (
            sweeping_through g.met.T.Span.Span.lawful c.args.source.now c.args.i c.args.j (place_of c.args.source.now c.args.places) c.requires.places.in_order 0 _ _ _ (omega arith) _ _ _ _ _ _ _ _ c.loop-a.invariant.0
                w.in-Some.ensures.goes (turned c.get-asked.ensures.means c.args.places c.requires.places 1 _ w.turns-b-end.ensures) w.loop-b-test.false w.loop-b.invariant.0,
            w.loop-b.invariant.1 ∙ c.descend.ensures.rest ∙ c.loop-a.invariant.1,
          )
      | in_default w ↦
          simp (w.ends-is, w.matrix-is) (
            sweeping_past g.met.T.Span.Span.lawful c.args.source.now c.args.i c.args.j (place_of c.args.source.now c.args.places) c.requires.places.in_order 0 _ _ _ _ _ c.loop-a.invariant.0 w.in_default.ensures.goes,
            c.descend.ensures.rest ∙ c.loop-a.invariant.1,
          )
    ]

pub loop-b-preserved : goal.loop-b-preserved
loop-b-preserved g c =
    elim c.match-descend-2.branch [
      | in-Some-descend+else-loop-c-test w ↦
          simp (w.ends-is, w.matrix-is) (
            sweeping_through g.met.T.Span.Span.lawful c.args.source.now c.args.i c.args.j (place_of c.args.source.now c.args.places) c.requires.places.in_order 1 _ _ _ (omega arith) _ _ _ _ _ _ _ _ c.loop-b.invariant.0
                w.in-Some-descend.ensures.goes (turned c.get-asked.ensures.means c.args.places c.requires.places 2 _ w.turns-c-end.ensures) w.loop-c-test.false w.loop-c.invariant.0,
            w.loop-c.invariant.1 ∙ c.descend-in-loop-b.ensures.rest ∙ c.loop-b.invariant.1,
          )
      | in_default-descend w ↦
          simp (w.ends-is, w.matrix-is) (
            sweeping_past g.met.T.Span.Span.lawful c.args.source.now c.args.i c.args.j (place_of c.args.source.now c.args.places) c.requires.places.in_order 1 _ _ _ _ _ c.loop-b.invariant.0 w.in_default-descend.ensures.goes,
            c.descend-in-loop-b.ensures.rest ∙ c.loop-b.invariant.1,
          )
    ]

pub loop-c-preserved : goal.loop-c-preserved
loop-c-preserved g c =
    elim c.match-descend-3.branch [
      | in-Some-descend-2+else-loop-d-test w ↦
          simp (w.ends-is, w.matrix-is) (
            sweeping_through g.met.T.Span.Span.lawful c.args.source.now c.args.i c.args.j (place_of c.args.source.now c.args.places) c.requires.places.in_order 2 _ _ _ (omega arith) _ _ _ _ _ _ _ _ c.loop-c.invariant.0
                w.in-Some-descend-2.ensures.goes (turned c.get-asked.ensures.means c.args.places c.requires.places 3 _ w.turns-d-end.ensures) w.loop-d-test.false w.loop-d.invariant.0,
            w.loop-d.invariant.1 ∙ c.descend-in-loop-c.ensures.rest ∙ c.loop-c.invariant.1,
          )
      | in_default-descend-2 w ↦
          simp (w.ends-is, w.matrix-is) (
            sweeping_past g.met.T.Span.Span.lawful c.args.source.now c.args.i c.args.j (place_of c.args.source.now c.args.places) c.requires.places.in_order 2 _ _ _ _ _ c.loop-c.invariant.0 w.in_default-descend-2.ensures.goes,
            c.descend-in-loop-c.ensures.rest ∙ c.loop-c.invariant.1,
          )
    ]

pub loop-d-preserved : goal.loop-d-preserved
loop-d-preserved g c =
    elim c.match-descend-4.branch [
      | in-Some-descend-3+else-loop-e-test w ↦
          simp (w.ends-is, w.matrix-is) (
            sweeping_through g.met.T.Span.Span.lawful c.args.source.now c.args.i c.args.j (place_of c.args.source.now c.args.places) c.requires.places.in_order 3 _ _ _ (omega arith) _ _ _ _ _ _ _ _ c.loop-d.invariant.0
                w.in-Some-descend-3.ensures.goes (turned c.get-asked.ensures.means c.args.places c.requires.places 4 _ w.turns-e-end.ensures) w.loop-e-test.false w.loop-e.invariant.0,
            w.loop-e.invariant.1 ∙ c.descend-in-loop-d.ensures.rest ∙ c.loop-d.invariant.1,
          )
      | in_default-descend-3 w ↦
          simp (w.ends-is, w.matrix-is) (
            sweeping_past g.met.T.Span.Span.lawful c.args.source.now c.args.i c.args.j (place_of c.args.source.now c.args.places) c.requires.places.in_order 3 _ _ _ _ _ c.loop-d.invariant.0 w.in_default-descend-3.ensures.goes,
            c.descend-in-loop-d.ensures.rest ∙ c.loop-d.invariant.1,
          )
    ]

pub loop-e-preserved : goal.loop-e-preserved
loop-e-preserved g c =
    elim c.match-descend-5.branch [
      | in-Some-descend-4+else-loop-f-test w ↦
          simp (w.ends-is, w.matrix-is) (
            sweeping_through g.met.T.Span.Span.lawful c.args.source.now c.args.i c.args.j (place_of c.args.source.now c.args.places) c.requires.places.in_order 4 _ _ _ (omega arith) _ _ _ _ _ _ _ _ c.loop-e.invariant.0
                w.in-Some-descend-4.ensures.goes (turned c.get-asked.ensures.means c.args.places c.requires.places 5 _ w.turns-f-end.ensures) w.loop-f-test.false w.loop-f.invariant.0,
            w.loop-f.invariant.1 ∙ c.descend-in-loop-e.ensures.rest ∙ c.loop-e.invariant.1,
          )
      | in_default-descend-4 w ↦
          simp (w.ends-is, w.matrix-is) (
            sweeping_past g.met.T.Span.Span.lawful c.args.source.now c.args.i c.args.j (place_of c.args.source.now c.args.places) c.requires.places.in_order 4 _ _ _ _ _ c.loop-e.invariant.0 w.in_default-descend-4.ensures.goes,
            c.descend-in-loop-e.ensures.rest ∙ c.loop-e.invariant.1,
          )
    ]

pub loop-f-preserved : goal.loop-f-preserved
loop-f-preserved g c =
    elim c.match-descend-6.branch [
      | in-Some-descend-5 w ↦
          simp (w.ends-is, w.joined-ends.ensures, w.matrix_ends.ensures, c.points-n.ensures.points) (
            sweeping_found g.met.T.Span.Span.lawful c.args.source.now c.args.i c.args.j (place_of c.args.source.now c.args.places) c.requires.places.in_order c.get-asked.ensures.legal c.requires.there.0 c.requires.there.1 _ _ _ _ _ _ _ c.loop-f.invariant.0 w.in-Some-descend-5.ensures.goes,
            c.descend-in-loop-f.ensures.rest ∙ c.loop-f.invariant.1,
          )
      | in_default-descend-5 w ↦
          simp w.ends-is (
            sweeping_past g.met.T.Span.Span.lawful c.args.source.now c.args.i c.args.j (place_of c.args.source.now c.args.places) c.requires.places.in_order 5 _ _ _ _ _ c.loop-f.invariant.0 w.in_default-descend-5.ensures.goes,
            c.descend-in-loop-f.ensures.rest ∙ c.loop-f.invariant.1,
          )
    ]
