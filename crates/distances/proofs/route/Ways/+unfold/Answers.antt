-- One edge is written, or the first half and behind it the second. Assumes nothing.
use Rattle.std.proofs.Common.{◌-◌, length, take, drop, sym, refl, arith}
use Rattle.distances.specs.Matrix.{linked}
use Rattle.distances.specs.Unfolding.{Unfolded}
use Rattle.distances.proofs.Unfoldings.{edge_fits, unfolded_edge, first_half, second_half, whole_within, unfolded_halves, first_falls, second_falls, behind_length}
use Rattle.distances.proofs.route.Ways.+unfold.Goals as goal

pub bounds-out-0 : goal.bounds-out-0
bounds-out-0 t c =
    let n = c.args.self.now.n in
    omega (arith, edge_fits n (linked n c.args.self.now.links.now) c.args.way.from c.args.way.to _ c.requires c.in-Direct.code (sym c.in-Direct.ensures))

pub returns-in-Direct : goal.returns-in-Direct
returns-in-Direct t c =
    let n = c.args.self.now.n in
    let links = linked n c.args.self.now.links.now in
    let here = sym c.in-Direct.ensures in
    record {
      within = edge_fits n links c.args.way.from c.args.way.to _ c.requires c.in-Direct.code here;
      unfolded = unfolded_edge n links c.args.way.from c.args.way.to _ c.requires c.args.out.now c.in-Direct.code here refl;
    }

pub unfold-before-requires : goal.unfold-before-requires
unfold-before-requires t c =
    let n = c.args.self.now.n in
    let i = c.args.way.from in
    let j = c.args.way.to in
    let links = linked n c.args.self.now.links.now in
    let over = sym c.in-Over.ensures in
    rw c.halves.ensures.first (
      omega (arith, first_falls n links i j _ c.requires c.in-Over.point over),
      first_half n links i j _ c.requires c.in-Over.point over,
    )

pub unfold-behind-requires : goal.unfold-behind-requires
unfold-behind-requires t c =
    let n = c.args.self.now.n in
    let i = c.args.way.from in
    let j = c.args.way.to in
    let links = linked n c.args.self.now.links.now in
    let half = c.unfold-before.new.out in
    let over = sym c.in-Over.ensures in
    let first : Unfolded links i c.in-Over.point c.args.out.now half c.unfold-before.result = rw c.halves.ensures.first at c.unfold-before.ensures.unfolded in
    rw c.halves.ensures.second (
      omega (arith, second_falls n links i j _ c.requires c.in-Over.point over),
      second_half n links i j (length c.args.out.now) c.requires c.in-Over.point over c.args.out.now half c.unfold-before.result
          first _ (behind_length half c.unfold-before.result _ (omega arith)),
    )

pub returns-in-Over : goal.returns-in-Over
returns-in-Over t c =
    let n = c.args.self.now.n in
    let i = c.args.way.from in
    let j = c.args.way.to in
    let m = c.in-Over.point in
    let links = linked n c.args.self.now.links.now in
    let half = c.unfold-before.new.out in
    let behind = take (length half - c.unfold-before.result) (drop c.unfold-before.result half) in
    let over = sym c.in-Over.ensures in
    let first : Unfolded links i m c.args.out.now half c.unfold-before.result = rw c.halves.ensures.first at c.unfold-before.ensures.unfolded in
    let second : Unfolded links m j behind c.unfold-behind.new.out c.unfold-behind.result = rw c.halves.ensures.second at c.unfold-behind.ensures.unfolded in
    record {
      within = whole_within n links i j (length c.args.out.now) c.requires m over c.args.out.now half c.unfold-before.result first behind c.unfold-behind.new.out c.unfold-behind.result second;
      unfolded = unfolded_halves n links i j (length c.args.out.now) c.requires m over c.args.out.now half c.unfold-before.result first behind c.unfold-behind.new.out c.unfold-behind.result second refl;
    }
