use Rattle.std.proofs.Common.{◌≡◌, ℕ, cond, eqb, ltb, Some}
use Rattle.distances.specs.Matrix.{table, Rest}
use Rattle.distances.proofs.edges.put_zeros.Given as goal

abbrev pub invariant-loop-m : goal.invariant-loop-m
invariant-loop-m g l =
    let d = table l.n l.initial.matrix in
    ((i j : ℕ) → table l.n l.matrix i j ≡ cond (eqb i j) (cond (ltb i l.m) (Some g.S.Span.kind.zero) (d i j)) (d i j))
    × Rest l.n l.initial.matrix l.matrix
