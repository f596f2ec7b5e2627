use Rattle.std.proofs.Common.{[], ◌∷◌, ◌++◌, arith}
use Rattle.std.proofs.lemmas.Result.{err_from_is_err_and}
use Rattle.std.proofs.lemmas.Bool.{both_ways}
use Rattle.list_text.specs.Machine.{start, in_row, rows_more}
use Rattle.list_text.proofs.Moves.{then, stop, stays, nearer, expected, mark_onward}
use Rattle.list_text.proofs.Listings.{rows_close, rows_semicolon, rows_fault}
use Rattle.list_text.proofs.reader.Reader.rows.Goals as goal

pub loop-x-init : goal.loop-x-init
loop-x-init c = record { list = []; leads = λ n m. stays c.args.self _ }

pub returns-then-is : goal.returns-then-is
returns-then-is c = (
  c.loop-x.invariant.list,
  λ n m. then (c.loop-x.invariant.leads n m) (rows_close c.next-x.ensures n m _ (c.is.ensures.0 c.if-is.true)),
)

pub returns-then-not-is : goal.returns-then-not-is
returns-then-not-is c = λ n m. stop (c.loop-x.invariant.leads n m) (rows_fault c.next-x.ensures n m _
    (λ e. both_ways _ c.if-is.false (c.is.ensures.1 e)) (λ e. both_ways _ c.if-not-is.true (c.is-in-loop-x.ensures.1 e)))

pub returns-in_err-q : goal.returns-in_err-q
returns-in_err-q c =
    let p = err_from_is_err_and c.from_residual.result c.from_residual.ensures.1 in
    rw (p.1, p.2) (λ n m. stop (c.loop-x.invariant.leads n m) (stop (rows_semicolon c.next-x.ensures n m _ (c.is-in-loop-x.ensures.0 c.if-not-is.false)) (c.in_err-q.ensures _)))

pub returns-in_err-after : goal.returns-in_err-after
returns-in_err-after c =
    let p = err_from_is_err_and c.from_residual-in_err-after.result c.from_residual-in_err-after.ensures.1 in
    rw (p.1, p.2) (λ n m. stop (c.loop-x.invariant.leads n m) (stop (rows_semicolon c.next-x.ensures n m _ (c.is-in-loop-x.ensures.0 c.if-not-is.false))
    (stop (c.in_ok-q.ensures _) (c.in_err-after.ensures (λ x. rows_more n m (c.loop-x.invariant.list ++ (x ∷ [])))))))

pub loop-x-preserved : goal.loop-x-preserved
loop-x-preserved c =
    let is = c.is-in-loop-x.ensures.0 c.if-not-is.false in
    let r = c.in_ok-after.ensures in
    record {
      list = c.loop-x.invariant.list ++ (r.0 ∷ []);
      leads = λ n m. then (c.loop-x.invariant.leads n m) (then (rows_semicolon c.next-x.ensures n m _ is)
          (then (c.in_ok-q.ensures _) (r.2 (λ x. rows_more n m (c.loop-x.invariant.list ++ (x ∷ []))))));
    }

pub loop-x-smaller : goal.loop-x-smaller
loop-x-smaller c =
    let is = c.is-in-loop-x.ensures.0 c.if-not-is.false in
    let on = mark_onward c.next-x.ensures _ is in
    let q = c.in_ok-q.ensures (in_row (λ _. start)) in
    let s = c.in_ok-after.ensures.2 (λ _. start) in
    let a = q.onward in
    let b = s.onward in
    nearer (then (expected c.next-x.ensures _ _ is) (then q s)) (omega arith)
