-- The table that closing begins with: the least edges, and zero from each point to itself. Assumes nothing.
--     begun K N         the least edge's weight from each point to each other, and zero from each to itself
--     Filled n e l c    lists with the weights of e and direct links, that of each weight that is there by its code
use Rattle.std.specs.Prelude.{◌≡◌, ℕ, cond, List, length, true, Some, None, Option, ◌==◌, nat_lt}
use Rattle.spans.specs.Kind.{Kind}
use Rattle.networks.specs.Network.{Network}
use Rattle.distances.specs.declared.link.Link.{Link}
use Rattle.distances.specs.declared.link.Link.TheVariants.{Direct}
use Rattle.distances.specs.Table.{Table, is_direct}
use Rattle.distances.specs.Matrix.{table, linked}
use Rattle.distances.specs.Edges.{Coded, weight, least_edge}

module _ {S : Type 0} (K : Kind S) where
  abbrev pub begun : Network S → Table S
  begun N i j = cond (i == j) (cond (nat_lt i N.points) (Some K.zero) None) (weight (least_edge K N (length N.conditions) i j))

-- each weight of `edges` in the matrix, and beside each that is there the link of its code; every link is direct
pub record Filled {S : Type 0} (n : ℕ) (edges : ℕ → ℕ → Coded S) (matrix : List (Option S)) (links : List Link) : Type 0 where
  pub weights : (i j : ℕ) → table n matrix i j ≡ weight (edges i j)
  pub codes_beside : (i j c : ℕ) (a : S) → edges i j ≡ Some (a, c) → linked n links i j ≡ Direct c
  pub straight : (i j : ℕ) → is_direct (linked n links i j) ≡ true
