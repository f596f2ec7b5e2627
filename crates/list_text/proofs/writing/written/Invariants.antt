use Rattle.std.proofs.Common.{◌+◌, length, string_bytes}
use Rattle.list_text.proofs.Writes.{SoFar}
use Rattle.list_text.proofs.writing.written.Given as goal

abbrev pub invariant-loop-point : goal.invariant-loop-point
invariant-loop-point l = SoFar l.dates (1 + length l.yielded) (string_bytes l.text)
