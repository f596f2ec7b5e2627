-- The least edge from each point to each other, with its code, over the conditions below a number. Assumes nothing.
-- For the filling of a matrix and for proofs.
use Rattle.std.specs.Prelude.{ℕ, zero, suc, ◌+◌, ◌*◌, cond, Some, None, Option, ◌==◌}
use Rattle.spans.specs.Kind.{Kind}
use Rattle.networks.specs.Network.{Network, condition_at}
use Rattle.distances.specs.declared.edges.Edge.{Edge}
use Rattle.distances.specs.declared.edges.Edge.TheVariants.{Forward, Back}
use Rattle.distances.specs.Graph.{hull_of}

-- a weight with the code of its edge
abbrev pub Coded : Type 0 → Type 0
Coded S = Option (S × ℕ)

module _ {S : Type 0} where
  abbrev pub coded : ℕ → Option S → Coded S
  coded c None = None
  coded c (Some a) = Some (a, c)

  abbrev pub weight : Coded S → Option S
  weight None = None
  weight (Some x) = Some x.0

  -- x, at (p, q) alone
  abbrev pub only_at : ℕ → ℕ → ℕ → ℕ → Coded S → Coded S
  only_at p q i j x = cond (p == i) (cond (q == j) x None) None

abbrev pub condition_of : Edge → ℕ
condition_of (Forward k) = k
condition_of (Back k) = k

abbrev pub edge_code : Edge → ℕ
edge_code (Forward k) = 2 * k
edge_code (Back k) = 2 * k + 1

module _ {S : Type 0} (N : Network S) where
  -- the point that an edge leaves, and the one that it reaches
  abbrev pub leaves : Edge → ℕ
  leaves (Forward k) = (condition_at N k).from
  leaves (Back k) = (condition_at N k).to

  abbrev pub reaches : Edge → ℕ
  reaches (Forward k) = (condition_at N k).to
  reaches (Back k) = (condition_at N k).from

module _ {S : Type 0} (K : Kind S) where
  abbrev pub opposite_end : Option S → Option S
  opposite_end None = None
  opposite_end (Some a) = K.opposite a

  -- the lesser, the first where they are alike
  abbrev pub lesser : Coded S → Coded S → Coded S
  lesser None y = y
  lesser (Some x) None = Some x
  lesser (Some x) (Some y) = cond (K.less y.0 x.0) (Some y) (Some x)

  module _ (N : Network S) where
    abbrev pub edge_weight : Edge → Option S
    edge_weight (Forward k) = (hull_of K N k).high
    edge_weight (Back k) = opposite_end (hull_of K N k).low

    -- an edge, where it leads
    abbrev pub edge_at : Edge → ℕ → ℕ → Coded S
    edge_at e i j = only_at (leaves N e) (reaches N e) i j (coded (edge_code e) (edge_weight e))

    abbrev pub ahead : ℕ → ℕ → ℕ → Coded S
    ahead k i j = edge_at (Forward k) i j

    abbrev pub back : ℕ → ℕ → ℕ → Coded S
    back k i j = edge_at (Back k) i j

    abbrev pub least_edge : ℕ → ℕ → ℕ → Coded S
    least_edge zero i j = None
    least_edge (suc m) i j = lesser (lesser (least_edge m i j) (ahead m i j)) (back m i j)
