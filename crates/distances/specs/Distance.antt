-- The least totals of routes. Assumes nothing.
--     Least K N i j x         x is the least total of a route from i to j, or None where there is no route
--     LeastTotals K N entry  the same for all points
--     Distances K N matrix    at place i×n + j stands the least total from i to j, for all points
use Rattle.std.specs.Prelude.{ℕ, ◌+◌, ◌*◌, ◌<◌, List, Some, None, Option, slice_index_or}
use Rattle.spans.specs.Kind.{Kind, ◌≤⟨◌⟩◌}
use Rattle.networks.specs.Network.{Network}
use Rattle.distances.specs.Graph.{Route}

-- the entry of (i, j) in a matrix of n rows
abbrev pub entry_of : {S : Type 0} → ℕ → List (Option S) → ℕ → ℕ → Option S
entry_of n matrix i j = slice_index_or matrix (i * n + j) None

module _ {S : Type 0} (K : Kind S) (N : Network S) where
  abbrev pub Least : ℕ → ℕ → Option S → Type 0
  Least i j None = (cs : List ℕ) (t : S) → Route K N i j cs t → ⊥
  Least i j (Some t) =
      ((cs : List ℕ) × Route K N i j cs t) × ((cs : List ℕ) (u : S) → Route K N i j cs u → t ≤⟨ K ⟩ u)

  -- from each point to each
  abbrev pub LeastTotals : (ℕ → ℕ → Option S) → Type 0
  LeastTotals entry = (i j : ℕ) → i < N.points → j < N.points → Least i j (entry i j)

  abbrev pub Distances : List (Option S) → Type 0
  Distances matrix = LeastTotals (entry_of N.points matrix)
