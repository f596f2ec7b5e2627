use Rattle.std.proofs.Common.{◌≡◌, ℕ, ◌+◌, length, [], ◌∷◌, ◌++◌, string_bytes, sym, subst, arith, rules}
use Rattle.list_text.specs.Dates.{DatesText}
use Rattle.std.proofs.lemmas.List.{length_push}
use Rattle.std.proofs.lemmas.Iterator.{YieldsList-from_slice}
use Rattle.std.proofs.lemmas.Iterator.Adapters.{YieldsList-from_skip}
use Rattle.std.proofs.lemmas.Iterator.Consumers.{YieldsList-from_enumerate, YieldsList-turn, YieldsList-end}
use Rattle.list_text.proofs.Writes.{SoFar, so_far_header, so_far_next, placed_end, so_far_end}
use Rattle.list_text.proofs.writing.written.Goals as goal

pub loop-point-init : goal.loop-point-init
loop-point-init c = so_far_header _ _ c.in_ok-text.ensures

pub loop-point-preserved : goal.loop-point-preserved
loop-point-preserved c =
    let more : string_bytes c.push_str.new.self ≡ string_bytes c.loop-point.text ++ string_bytes c.in_ok-one.one = search rules in
    let n = length_push c.loop-point.yielded (c.in-Some.point, c.in-Some.date) in
    let Now : ℕ → Type 0 = λ k. SoFar c.args.dates.now k (string_bytes c.loop-point.text ++ string_bytes c.in_ok-one.one) in
    let on : (1 + length c.loop-point.yielded) + 1 ≡ 1 + length (c.loop-point.yielded ++ ((c.in-Some.point, c.in-Some.date) ∷ [])) = omega (arith, n) in
    let road = YieldsList-from_skip 1 (YieldsList-from_enumerate (YieldsList-from_slice c.args.dates.now (cc)) (cc)) (cc) in
    let turn = YieldsList-turn road c.loop-point.yielded _ c.loop-point.yielded_by _ _ (c.in-Some.point, c.in-Some.date) c.in-Some.is c.next.ensures.steps in
    let next = so_far_next _ _ _ _ _ _ turn c.in_ok-one.ensures c.loop-point.invariant in
    subst (SoFar c.args.dates.now _) (sym more) (subst Now on next)

pub returns : goal.returns
returns c =
    let more : string_bytes c.push_str-2.new.self ≡ string_bytes c.loop-point.text ++ (93 ∷ []) = search rules in
    let road = YieldsList-from_skip 1 (YieldsList-from_enumerate (YieldsList-from_slice c.args.dates.now (cc)) (cc)) (cc) in
    let done = YieldsList-end road c.loop-point.yielded _ c.loop-point.yielded_by _ _ c.in-None.is c.next.ensures.steps in
    λ ok. subst (DatesText c.args.dates.now) (sym more) (so_far_end _ _ _ (placed_end _ _ done.1) c.loop-point.invariant ok)
