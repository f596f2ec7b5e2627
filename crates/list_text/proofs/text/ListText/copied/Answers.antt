use Rattle.std.proofs.Common.{◌≡◌, length, inl, inr, sym, subst, arith}
use Rattle.std.proofs.lemmas.List.{set-get_or}
use Rattle.list_text.specs.Filling.{Filled}
use Rattle.list_text.specs.Reading.{conditions_from}
use Rattle.list_text.proofs.Texts.{readable}
use Rattle.list_text.proofs.Fills.{fill_none, fill_more, none_left, filled_all}
use Rattle.list_text.proofs.text.ListText.copied.Goals as goal

pub loop-filled-init : goal.loop-filled-init
loop-filled-init c = (tt, tt, fill_none c.args.self.now.rows c.args.first c.args.rows.now _ c.skip-following.ensures.source c.skip-following.ensures.count (readable c.args.self.now.rows c.args.self.now.readable))

pub loop-filled-preserved : goal.loop-filled-preserved
loop-filled-preserved c = (
  tt,
  tt,
  fill_more _ _ _ _ _ _ c.loop-filled.invariant.2 c.in-Some.row c.in-Some.ensures.steps c.loop-filled-test.true,
)

pub returns-in_default : goal.returns-in_default
returns-in_default c =
    let l = c.loop-filled in
    let f = l.invariant.2 in
    let room = c.loop-filled-test.true in
    let kept = l.auto.rows in
    let all = conditions_from c.args.self.now.rows.text.now c.args.self.now.rows.at in
    subst (λ rows. Filled all c.args.first c.args.rows.now rows l.filled) (sym (set-get_or l.rows l.filled _))
    (filled_all _ _ _ l.filled _ _ _ f (omega arith) (inr (none_left _ _ _ _ _ c.next.new.self f c.in_default.ensures.steps)))

pub returns : goal.returns
returns c =
    let l = c.loop-filled in
    let end = c.loop-filled-test.false in
    let kept = l.auto.rows in
    let at = l.auto.filled-end in
    let all : l.filled ≡ length l.rows = omega arith in
    subst (Filled _ _ _ l.rows) all (filled_all _ _ _ l.filled _ _ _ l.invariant.2 at (inl (omega arith)))
