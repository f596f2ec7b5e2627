-- At each level: the ends over what is gone through, and nothing past n×n has changed. Assumes nothing.
use Rattle.distances.specs.Matrix.{Rest}
use Rattle.schedules.specs.Choosing.{place_of}
use Rattle.schedules.specs.Sweeping.{Sweeping}
use Rattle.schedules.proofs.ends.both_ends.Given as goal

abbrev pub invariant-loop-a : goal.invariant-loop-a
invariant-loop-a g l =
    Sweeping g.T.Span.Span.kind l.source l.i l.j (place_of l.source l.places) 0 l.start l.a l.ends l.matrix
    × Rest l.source.points l.initial.matrix l.matrix

abbrev pub invariant-loop-b : goal.invariant-loop-b
invariant-loop-b g l =
    Sweeping g.T.Span.Span.kind l.source l.i l.j (place_of l.source l.places) 1 l.one l.b l.ends l.matrix
    × Rest l.source.points l.initial.matrix l.matrix

abbrev pub invariant-loop-c : goal.invariant-loop-c
invariant-loop-c g l =
    Sweeping g.T.Span.Span.kind l.source l.i l.j (place_of l.source l.places) 2 l.two l.c l.ends l.matrix
    × Rest l.source.points l.initial.matrix l.matrix

abbrev pub invariant-loop-d : goal.invariant-loop-d
invariant-loop-d g l =
    Sweeping g.T.Span.Span.kind l.source l.i l.j (place_of l.source l.places) 3 l.three l.d l.ends l.matrix
    × Rest l.source.points l.initial.matrix l.matrix

abbrev pub invariant-loop-e : goal.invariant-loop-e
invariant-loop-e g l =
    Sweeping g.T.Span.Span.kind l.source l.i l.j (place_of l.source l.places) 4 l.four l.e l.ends l.matrix
    × Rest l.source.points l.initial.matrix l.matrix

abbrev pub invariant-loop-f : goal.invariant-loop-f
invariant-loop-f g l =
    Sweeping g.T.Span.Span.kind l.source l.i l.j (place_of l.source l.places) 5 l.five l.f l.ends l.matrix
    × Rest l.source.points l.initial.matrix l.matrix
