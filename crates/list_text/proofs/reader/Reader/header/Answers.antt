use Rattle.std.proofs.lemmas.Result.{err_from_is_err_and}
use Rattle.list_text.proofs.Moves.{then, stop}
use Rattle.list_text.proofs.reader.Reader.header.Goals as goal

pub returns-in_err-d : goal.returns-in_err-d
returns-in_err-d c =
    let p = err_from_is_err_and c.from_residual-in_err-d.result c.from_residual-in_err-d.ensures.1 in
    rw (p.1, p.2) (stop (c.in_ok-a.ensures _) (stop (c.in_ok-b.ensures _) (stop (c.in_ok-first.ensures _) (c.in_err-d.ensures _))))

pub returns-in_err-second : goal.returns-in_err-second
returns-in_err-second c =
    let p = err_from_is_err_and c.from_residual-in_err-second.result c.from_residual-in_err-second.ensures.1 in
    rw (p.1, p.2) (stop (c.in_ok-a.ensures _) (stop (c.in_ok-b.ensures _) (stop (c.in_ok-first.ensures _) (stop (c.in_ok-d.ensures _) (c.in_err-second.ensures _)))))

pub returns-in_err-f : goal.returns-in_err-f
returns-in_err-f c =
    let p = err_from_is_err_and c.from_residual-in_err-f.result c.from_residual-in_err-f.ensures.1 in
    rw (p.1, p.2) (stop (c.in_ok-a.ensures _) (stop (c.in_ok-b.ensures _) (stop (c.in_ok-first.ensures _) (stop (c.in_ok-d.ensures _) (stop (c.in_ok-second.ensures _) (c.in_err-f.ensures _))))))

pub returns-in_err-g : goal.returns-in_err-g
returns-in_err-g c =
    let p = err_from_is_err_and c.from_residual-in_err-g.result c.from_residual-in_err-g.ensures.1 in
    rw (p.1, p.2) (stop (c.in_ok-a.ensures _) (stop (c.in_ok-b.ensures _) (stop (c.in_ok-first.ensures _) (stop (c.in_ok-d.ensures _) (stop (c.in_ok-second.ensures _) (stop (c.in_ok-f.ensures _) (c.in_err-g.ensures _)))))))

pub returns-in_err-h : goal.returns-in_err-h
returns-in_err-h c =
    let p = err_from_is_err_and c.from_residual-in_err-h.result c.from_residual-in_err-h.ensures.1 in
    rw (p.1, p.2) (stop (c.in_ok-a.ensures _) (stop (c.in_ok-b.ensures _) (stop (c.in_ok-first.ensures _) (stop (c.in_ok-d.ensures _) (stop (c.in_ok-second.ensures _) (stop (c.in_ok-f.ensures _) (stop (c.in_ok-g.ensures _) (c.in_err-h.ensures _))))))))

pub returns-in_err-after : goal.returns-in_err-after
returns-in_err-after c =
    let p = err_from_is_err_and c.from_residual-in_err-after.result c.from_residual-in_err-after.ensures.1 in
    rw (p.1, p.2) (stop (c.in_ok-a.ensures _) (stop (c.in_ok-b.ensures _) (stop (c.in_ok-first.ensures _) (stop (c.in_ok-d.ensures _) (stop (c.in_ok-second.ensures _) (stop (c.in_ok-f.ensures _) (stop (c.in_ok-g.ensures _) (stop (c.in_ok-h.ensures _) (c.in_err-after.ensures _)))))))))

pub returns : goal.returns
returns c = (then (c.in_ok-a.ensures _) (then (c.in_ok-b.ensures _) (then (c.in_ok-first.ensures _) (then (c.in_ok-d.ensures _) (then (c.in_ok-second.ensures _) (then (c.in_ok-f.ensures _) (then (c.in_ok-g.ensures _) (then (c.in_ok-h.ensures _) (c.in_ok-after.ensures _)))))))))
