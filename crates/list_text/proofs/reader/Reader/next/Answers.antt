use Rattle.std.proofs.Common.{◌≡◌, ◌+◌, ◌-◌, ◌<◌, length, take, drop, refl, arith, rules}
use Rattle.std.specs.List.{prefix_len}
use Rattle.list_text.specs.Grammar.{blank}
use Rattle.list_text.proofs.Pieces.{passed}
use Rattle.list_text.proofs.reader.Reader.next.Goals as goal

pub returns-then-place-text : goal.returns-then-place-text
returns-then-place-text c =
    let t = c.args.self.text.now in
    let p = c.args.self.at in
    let many : c.front.result ≡ prefix_len blank (take (length t - p) (drop p t)) = search rules in
    let g = passed _ t p _ c.args.self.inside.within many in
    record { gap = g; token = (c.if-place-text.true, refl); text = refl; onward = g.from }

pub token-at-requires : goal.token-at-requires
token-at-requires c =
    let t = c.args.self.text.now in
    let p = c.args.self.at in
    let many : c.front.result ≡ prefix_len blank (take (length t - p) (drop p t)) = search rules in
    let g = passed _ t p _ c.args.self.inside.within many in
    let le = g.within in
    let ne = c.if-place-text.false in
    let lt : p + c.front.result < length t = omega arith in
    (lt, g.stops lt)

pub returns : goal.returns
returns c =
    let t = c.args.self.text.now in
    let p = c.args.self.at in
    let many : c.front.result ≡ prefix_len blank (take (length t - p) (drop p t)) = search rules in
    let g = passed _ t p _ c.args.self.inside.within many in
    let up = c.token-at.ensures.after in
    let a = g.from in
    record { gap = g; token = c.token-at.ensures.cut; text = refl; onward = omega arith }
