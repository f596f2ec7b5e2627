use Rattle.std.proofs.lemmas.Result.{err_from_is_err_and}
use Rattle.list_text.proofs.Moves.{then, stop}
use Rattle.list_text.proofs.reader.Reader.window.Goals as goal

pub returns : goal.returns
returns c = λ ws k. then (c.in_ok-low.ensures _ _) (then (c.in_ok-q.ensures _) (then (c.in_ok-high.ensures _ _) (c.in_ok-after.ensures _)))

pub returns-in_err-low : goal.returns-in_err-low
returns-in_err-low c =
    let p = err_from_is_err_and c.from_residual.result c.from_residual.ensures.1 in
    rw (p.1, p.2) (λ ws k. c.in_err-low.ensures _ _)

pub returns-in_err-q : goal.returns-in_err-q
returns-in_err-q c =
    let p = err_from_is_err_and c.from_residual-in_err-q.result c.from_residual-in_err-q.ensures.1 in
    rw (p.1, p.2) (λ ws k. stop (c.in_ok-low.ensures _ _) (c.in_err-q.ensures _))

pub returns-in_err-high : goal.returns-in_err-high
returns-in_err-high c =
    let p = err_from_is_err_and c.from_residual-in_err-high.result c.from_residual-in_err-high.ensures.1 in
    rw (p.1, p.2) (λ ws k. stop (c.in_ok-low.ensures _ _) (stop (c.in_ok-q.ensures _) (c.in_err-high.ensures _ _)))

pub returns-in_err-after : goal.returns-in_err-after
returns-in_err-after c =
    let p = err_from_is_err_and c.from_residual-in_err-after.result c.from_residual-in_err-after.ensures.1 in
    rw (p.1, p.2) (λ ws k. stop (c.in_ok-low.ensures _ _) (stop (c.in_ok-q.ensures _) (stop (c.in_ok-high.ensures _ _) (c.in_err-after.ensures _))))
