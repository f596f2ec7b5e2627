-- Zeros are zero everywhere. Assumes nothing.
use Rattle.std.proofs.Common.{replicate, arith}
use native.Mathlib.Decide.{dec_lt}
use Rattle.std.proofs.lemmas.List.{get_or-replicate, get_or_past}
use Rattle.schedules.proofs.selections.first_windows.Goals as goal

pub returns-clause-zeros : goal.returns-clause-zeros
returns-clause-zeros c k = elim (dec_lt k 64) [
  | yes l ↦ get_or-replicate 64 k 0 0 l
  | no l ↦ get_or_past (replicate 64 0) k 0 (omega arith)
]
