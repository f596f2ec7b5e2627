use Rattle.std.proofs.Common.{◌≡◌, ◌^◌, ◌<◌, take}
use Rattle.list_text.specs.Grammar.{written}
use Rattle.list_text.proofs.numbers.value.Given as goal

abbrev pub invariant-loop-d : goal.invariant-loop-d
invariant-loop-d l = (l.n ≡ written 0 (take l.d-index l.digits)) × (l.n < 10 ^ l.d-index)
