-- At each level: nothing is found yet, the windows below the present one are ruled out, and nothing past n×n has changed. Assumes nothing.
use Rattle.std.proofs.Common.{◌≡◌, None}
use Rattle.distances.specs.Matrix.{Rest}
use Rattle.schedules.specs.Choosing.{place_of, Turning}
use Rattle.schedules.proofs.selections.first_selection.Given as goal

abbrev pub invariant-selections : goal.invariant-selections
invariant-selections g l =
    (l.found ≡ None)
    × Turning g.T.Span.Span.kind l.source (place_of l.source l.places) 0 l.start l.a l.matrix
    × Rest l.source.points l.initial.matrix l.matrix

abbrev pub invariant-loop-b : goal.invariant-loop-b
invariant-loop-b g l =
    (l.found ≡ None)
    × Turning g.T.Span.Span.kind l.source (place_of l.source l.places) 1 l.one l.b l.matrix
    × Rest l.source.points l.initial.matrix l.matrix

abbrev pub invariant-loop-c : goal.invariant-loop-c
invariant-loop-c g l =
    (l.found ≡ None)
    × Turning g.T.Span.Span.kind l.source (place_of l.source l.places) 2 l.two l.c l.matrix
    × Rest l.source.points l.initial.matrix l.matrix

abbrev pub invariant-loop-d : goal.invariant-loop-d
invariant-loop-d g l =
    (l.found ≡ None)
    × Turning g.T.Span.Span.kind l.source (place_of l.source l.places) 3 l.three l.d l.matrix
    × Rest l.source.points l.initial.matrix l.matrix

abbrev pub invariant-loop-e : goal.invariant-loop-e
invariant-loop-e g l =
    (l.found ≡ None)
    × Turning g.T.Span.Span.kind l.source (place_of l.source l.places) 4 l.four l.e l.matrix
    × Rest l.source.points l.initial.matrix l.matrix

abbrev pub invariant-loop-f : goal.invariant-loop-f
invariant-loop-f g l =
    (l.found ≡ None)
    × Turning g.T.Span.Span.kind l.source (place_of l.source l.places) 5 l.five l.f l.matrix
    × Rest l.source.points l.initial.matrix l.matrix
