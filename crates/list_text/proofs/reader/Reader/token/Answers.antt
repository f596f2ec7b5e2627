use Rattle.std.proofs.Common.{◌≡◌, ◌+◌, ◌-◌, length, take, drop, arith, rules}
use Rattle.std.proofs.lemmas.Bool.Decides.{nat_tests}
use Rattle.std.specs.List.{prefix_len}
use Rattle.list_text.specs.Grammar.{digit}
use Rattle.list_text.specs.Lexing.{letter}
use Rattle.list_text.proofs.Pieces.{passed, piece}
use Rattle.list_text.proofs.reader.Reader.token.Goals as goal

pub returns-in-45-clause-cut : goal.returns-in-45-clause-cut
returns-in-45-clause-cut c =
    let t = c.args.self.text.now in
    let p = c.args.self.at + 1 in
    let many : c.front-in-45.result ≡ prefix_len digit (take (length t - p) (drop p t)) = search rules in
    (omega arith, piece _ _ t c.args.self.at _ c.requires.0 (grind (arith, nat_tests)) (passed _ t p _ (omega (arith, c.requires.0)) many))

pub returns-in-65-to-90-clause-cut : goal.returns-in-65-to-90-clause-cut
returns-in-65-to-90-clause-cut c =
    let t = c.args.self.text.now in
    let p = c.args.self.at + 1 in
    let many : c.front.result ≡ prefix_len letter (take (length t - p) (drop p t)) = search rules in
    (omega arith, piece _ _ t c.args.self.at _ c.requires.0 (grind (arith, nat_tests)) (passed _ t p _ (omega (arith, c.requires.0)) many))
