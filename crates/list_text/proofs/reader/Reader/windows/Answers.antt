use Rattle.std.proofs.Common.{[], ◌∷◌, ◌++◌, ap, arith}
use Rattle.std.proofs.lemmas.Result.{err_from_is_err_and}
use Rattle.std.proofs.lemmas.Bool.{both_ways}
use Rattle.list_text.specs.Machine.{start, in_window}
use Rattle.list_text.proofs.Moves.{then, stop, nearer, mark_onward}
use Rattle.list_text.proofs.Listings.{windows_close, windows_open, windows_fault, more_close, more_semicolon, more_fault, shows_none, shows_more}
use Rattle.list_text.proofs.reader.Reader.windows.Goals as goal

pub returns-then-is : goal.returns-then-is
returns-then-is c = ([], shows_none _ _ _ _ c.new-row.ensures.row, λ k. windows_close c.next-x.ensures k (c.is.ensures.0 c.if-is.true))

pub returns-then-not-is : goal.returns-then-not-is
returns-then-not-is c = λ k. windows_fault c.next-x.ensures k (λ e. both_ways _ c.if-is.false (c.is.ensures.1 e)) (λ e. both_ways _ c.if-not-is.true (c.is-2.ensures.1 e))

pub loop-w-init : goal.loop-w-init
loop-w-init c =
    let is = c.is-2.ensures.0 c.if-not-is.false in
    record {
      few = (let z = ap (λ r. r.count) c.new-row.ensures.row in omega (arith, mark_onward c.next-x.ensures _ is));
      windows = [];
      shows = shows_none _ _ _ _ c.new-row.ensures.row;
      leads = λ k. windows_open c.next-x.ensures k is;
    }

pub one_more-row-requires : goal.one_more-row-requires
one_more-row-requires c = let p = c.loop-w.p.inside in omega (arith, c.loop-w.invariant.few, p.within, p.short)

pub returns-then-is-2 : goal.returns-then-is-2
returns-then-is-2 c = (
  c.loop-w.invariant.windows ++ (c.in_ok-w.w ∷ []),
  shows_more _ _ _ _ _ _ _ c.loop-w.invariant.shows c.one_more-row.ensures,
  λ k. then (c.loop-w.invariant.leads k) (then (c.in_ok-w.ensures c.loop-w.invariant.windows k)
      (more_close c.next-y.ensures _ k (c.is-in-loop-w.ensures.0 c.if-is-2.true))),
)

pub returns-then-not-is-2 : goal.returns-then-not-is-2
returns-then-not-is-2 c = λ k. stop (c.loop-w.invariant.leads k) (stop (c.in_ok-w.ensures c.loop-w.invariant.windows k)
    (more_fault c.next-y.ensures _ k (λ e. both_ways _ c.if-is-2.false (c.is-in-loop-w.ensures.1 e))
    (λ e. both_ways _ c.if-not-is-2.true (c.is-in-loop-w-2.ensures.1 e))))

pub returns-in_err-w : goal.returns-in_err-w
returns-in_err-w c =
    let p = err_from_is_err_and c.from_residual.result c.from_residual.ensures.1 in
    rw (p.1, p.2) (λ k. stop (c.loop-w.invariant.leads k) (c.in_err-w.ensures c.loop-w.invariant.windows k))

pub returns-in_err-p : goal.returns-in_err-p
returns-in_err-p c =
    let p = err_from_is_err_and c.from_residual-in_err-p.result c.from_residual-in_err-p.ensures.1 in
    rw (p.1, p.2) (λ k. stop (c.loop-w.invariant.leads k) (stop (c.in_ok-w.ensures c.loop-w.invariant.windows k)
    (stop (more_semicolon c.next-y.ensures _ k (c.is-in-loop-w-2.ensures.0 c.if-not-is-2.false)) (c.in_err-p.ensures _))))

pub loop-w-preserved : goal.loop-w-preserved
loop-w-preserved c =
    let is = c.is-in-loop-w-2.ensures.0 c.if-not-is-2.false in
    let w = (c.in_ok-w.ensures [] (λ _. start)).onward in
    let p = (c.in_ok-p.ensures start).onward in
    record {
      few = omega (arith, c.loop-w.invariant.few, mark_onward c.next-y.ensures _ is, c.one_more-row.ensures.count);
      windows = c.loop-w.invariant.windows ++ (c.in_ok-w.w ∷ []);
      shows = shows_more _ _ _ _ _ _ _ c.loop-w.invariant.shows c.one_more-row.ensures;
      leads = λ k. then (c.loop-w.invariant.leads k) (then (c.in_ok-w.ensures c.loop-w.invariant.windows k)
          (then (more_semicolon c.next-y.ensures _ k is) (c.in_ok-p.ensures _)));
    }

pub loop-w-smaller : goal.loop-w-smaller
loop-w-smaller c =
    let is = c.is-in-loop-w-2.ensures.0 c.if-not-is-2.false in
    let w = c.in_ok-w.ensures [] (λ _. start) in
    let p = c.in_ok-p.ensures (in_window (c.in_ok-w.w ∷ []) (λ _. start)) in
    let a = w.onward in
    let b = p.onward in
    nearer (then w (then (more_semicolon c.next-y.ensures _ _ is) p)) (omega (arith, mark_onward c.next-y.ensures _ is))
