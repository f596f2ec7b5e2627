-- The distance graph of a network's hulls: edges, chains, routes and cycles. Assumes nothing.
--     Edge K N c i j w            the edge of code c leads from i to j with the weight w
--     Chain K N i j cs ps t       edges from i to j by their codes cs, the points ps that they leave, and the sum t
--     Route K N i j cs t          a chain that visits no point twice
--     NegativeCycle K N cs       a route and one edge back to its first point, together below zero
use Rattle.std.specs.Prelude.{◌≡◌, ℕ, ◌+◌, ◌*◌, ◌<◌, List, [], ◌∷◌, ◌++◌, length, Some, ◌≢◌, slice_index}
use Rattle.spans.specs.Kind.{Kind, ◌<⟨◌⟩◌}
use Rattle.networks.specs.declared.window.Window.{Window}
use Rattle.networks.specs.Network.{Network, condition_at, window_of}
use Rattle.networks.specs.Hull.{hull}

-- each member stands once
abbrev pub Distinct : List ℕ → Type 0
Distinct ps = (a b : ℕ) → a < b → b < length ps → slice_index ps a ≢ slice_index ps b

module _ {S : Type 0} (K : Kind S) (N : Network S) where
  abbrev pub hull_of : ℕ → Window S
  hull_of k = window_of (hull (condition_at N k)) 0

  -- A condition gives an edge forward, with its hull's high end, and one back, with the opposite of its low end; a missing end gives none.
  pub data Edge : ℕ → ℕ → ℕ → S → Type 0 where
    forward : {k : ℕ} {w : S} → k < length N.conditions → (hull_of k).high ≡ Some w
        → Edge (2 * k) (condition_at N k).from (condition_at N k).to w
    backward : {k : ℕ} {a w : S} → k < length N.conditions → (hull_of k).low ≡ Some a → K.opposite a ≡ Some w
        → Edge (2 * k + 1) (condition_at N k).to (condition_at N k).from w

  -- every sum on the way is there
  pub data Chain : ℕ → ℕ → List ℕ → List ℕ → S → Type 0 where
    stay : {i : ℕ} → Chain i i [] [] K.zero
    go : {c i m j : ℕ} {w t u : S} {cs ps : List ℕ} → Edge c i m w → Chain m j cs ps t → K.plus w t ≡ Some u
        → Chain i j (c ∷ cs) (i ∷ ps) u

  abbrev pub Route : ℕ → ℕ → List ℕ → S → Type 0
  Route i j cs t = (ps : List ℕ) × Chain i j cs ps t × Distinct (ps ++ j ∷ [])

  -- a chain from a point to itself that leaves each of its points once
  abbrev pub Cycle : List ℕ → S → Type 0
  Cycle cs t = (i : ℕ) × (ps : List ℕ) × Chain i i cs ps t × Distinct ps × (0 < length ps)

  abbrev pub NegativeCycle : List ℕ → Type 0
  NegativeCycle cs = (t : S) × Cycle cs t × (t <⟨ K ⟩ K.zero)
