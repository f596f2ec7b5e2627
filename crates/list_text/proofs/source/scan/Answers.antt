use Rattle.std.proofs.Common.{sym, refl}
use Rattle.std.proofs.lemmas.Result.{err_from_is_err_and}
use Rattle.list_text.specs.Grammar.{Listing}
use Rattle.list_text.proofs.Moves.{stop}
use Rattle.list_text.proofs.Texts.{fault_of, says_of, means, there}
use Rattle.list_text.proofs.source.scan.Goals as goal

pub returns-in_err-first : goal.returns-in_err-first
returns-in_err-first c =
    let p = err_from_is_err_and c.from_residual.result c.from_residual.ensures.1 in
    rw (p.1, p.2) (fault_of _ _ refl c.in_err-first.ensures)

pub returns-in_err-all_rows : goal.returns-in_err-all_rows
returns-in_err-all_rows c =
    let p = err_from_is_err_and c.from_residual-in_err-all_rows.result c.from_residual-in_err-all_rows.ensures.1 in
    rw (p.1, p.2) (fault_of _ _ refl (stop c.in_ok-first.ensures (c.in_err-all_rows.ensures _ _)))

pub returns : goal.returns
returns c =
    let r = c.in_ok-all_rows.ensures in
    let l : Listing = record { first = c.in_ok-first.first; second = c.in_ok-first.second; conditions = r.0 } in (
      l,
      says_of _ _ l refl c.in_ok-first.ensures (r.1 _ _),
      sym c.agreed.ensures,
      means c.in_ok-first.rows _ (r.1 0 0),
    )

pub invariant_of-result : goal.invariant_of-result
invariant_of-result c = let r = c.in_ok-all_rows.ensures in record { readable = there c.in_ok-first.rows _ (r.1 0 0) }
