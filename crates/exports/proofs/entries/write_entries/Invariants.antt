use Rattle.std.proofs.Common.{◌≡◌, ℕ, ◌*◌, ◌<◌, get_or, drop, None}
use Rattle.exports.specs.Meaning.{entry_at}
use Rattle.exports.proofs.entries.write_entries.Given as goal

abbrev pub invariant-loop-p : goal.invariant-loop-p
invariant-loop-p g l =
    let P = g.S.Spelled.spelling in
    ((q : ℕ) → q < l.p → entry_at P l.matrix l.present q ≡ get_or l.memory q None)
    × (drop (l.entries * P.width) l.matrix ≡ drop (l.entries * P.width) l.initial.matrix)
    × (drop l.entries l.present ≡ drop l.entries l.initial.present)
