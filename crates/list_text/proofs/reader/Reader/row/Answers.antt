use Rattle.std.proofs.lemmas.Result.{err_from_is_err_and}
use Rattle.list_text.proofs.Moves.{then, stop}
use Rattle.list_text.proofs.reader.Reader.row.Goals as goal

pub returns-in_err-t : goal.returns-in_err-t
returns-in_err-t c =
    let p = err_from_is_err_and c.from_residual-in_err-t.result c.from_residual-in_err-t.ensures.1 in
    rw (p.1, p.2) (λ k. stop (c.in_ok-i.ensures _) (stop (c.in_ok-q.ensures _) (stop (c.in_ok-j.ensures _) (c.in_err-t.ensures _))))

pub returns-in_err-u : goal.returns-in_err-u
returns-in_err-u c =
    let p = err_from_is_err_and c.from_residual-in_err-u.result c.from_residual-in_err-u.ensures.1 in
    rw (p.1, p.2) (λ k. stop (c.in_ok-i.ensures _) (stop (c.in_ok-q.ensures _) (stop (c.in_ok-j.ensures _) (stop (c.in_ok-t.ensures _) (c.in_err-u.ensures _)))))

pub returns-in_err-row : goal.returns-in_err-row
returns-in_err-row c =
    let p = err_from_is_err_and c.from_residual-in_err-row.result c.from_residual-in_err-row.ensures.1 in
    rw (p.1, p.2) (λ k. stop (c.in_ok-i.ensures _) (stop (c.in_ok-q.ensures _) (stop (c.in_ok-j.ensures _) (stop (c.in_ok-t.ensures _) (stop (c.in_ok-u.ensures _) (c.in_err-row.ensures _))))))

pub returns-in_err-after : goal.returns-in_err-after
returns-in_err-after c =
    let p = err_from_is_err_and c.from_residual-in_err-after.result c.from_residual-in_err-after.ensures.1 in
    rw (p.1, p.2) (λ k. stop (c.in_ok-i.ensures _) (stop (c.in_ok-q.ensures _) (stop (c.in_ok-j.ensures _) (stop (c.in_ok-t.ensures _) (stop (c.in_ok-u.ensures _) (stop (c.in_ok-row.ensures.2 _) (c.in_err-after.ensures _)))))))

pub returns : goal.returns
returns c =
    let ws = c.in_ok-row.ensures in (
      record { from = c.in_ok-i.i; to = c.in_ok-j.j; windows = ws.0 },
      ws.1,
      λ k. then (c.in_ok-i.ensures _) (then (c.in_ok-q.ensures _) (then (c.in_ok-j.ensures _) (then (c.in_ok-t.ensures _) (then (c.in_ok-u.ensures _) (then (ws.2 _) (c.in_ok-after.ensures _)))))),
    )
