-- A granted network has room for its entries, in the engine's memory and in the numbers. Assumes nothing.
use Rattle.std.proofs.Common.{◌≡◌, ℕ, ◌-◌, ◌*◌, ◌/◌, ◌≤◌, length, take, refl, ap, div-mul-le_self, arith, length-take}
use Rattle.std.proofs.lemmas.Nat.{mul-le}
use Rattle.exports.specs.Meaning.{numbers_network}
use Rattle.exports.proofs.Answering.{ok_grantable, granted_room}
use Rattle.exports.proofs.calls.tighten_numbers.Goals as goal

pub write_entries-requires : goal.write_entries-requires
write_entries-requires g c =
    let P = g.S.Spelled.spelling in
    let w = P.width in
    let n = c.args.points in
    let m = length c.args.matrix.now in
    let source = c.new-source.result in
    let N = numbers_network P source.points source.numbers.now in
    let part = take (c.min-room.result - 0) c.args.memory.now in
    let can = ok_grantable g.S.Span.kind N part c.tighten.new.matrix c.args.cycle.now c.tighten.new.cycle _ c.in-Ok.ensures.tightened
    (length part) (length c.args.cycle.now) refl refl in
    let room : n * n ≤ length part = rw c.new-source.ensures.points at (granted_room g.S.Span.kind N (length part) (length c.args.cycle.now) can).1 in
    let cut = length-take (c.min-room.result - 0) c.args.memory.now in
    let same : m / c.width.result ≡ m / w = ap (λ (v : ℕ). m / v) c.width.ensures.0 in
    let few : n * n ≤ m / w = omega (arith, c.min.ensures, c.min-room.ensures) in
    let all : n * n * w ≤ m / w * w = mul-le (n * n) w (m / w) w few (omega arith) in
    (omega (arith, c.tighten.auto.matrix), (omega (arith, div-mul-le_self m w), omega (arith, c.min.ensures, c.min-room.ensures)))
