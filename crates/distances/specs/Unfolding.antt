-- The way that a table of links gives, with the codes of its edges. Assumes nothing.
--     Unfolds links i j cs ps    the way from i to j has the edges cs and leaves the points ps
--     Falls n links              so that unfolding ends: the two halves rank lower
use Rattle.std.specs.Prelude.{◌≡◌, ℕ, suc, ◌<◌, ◌≤◌, List, [], ◌∷◌, ◌++◌, length}
use Rattle.distances.specs.declared.link.Link.TheVariants.{Direct, Over}
use Rattle.distances.specs.Table.{Links, rank}
use Rattle.distances.specs.Memory.{put_first}

-- one edge, or the two halves at its middle point, which is its highest where links fall
pub data Unfolds (links : Links) : ℕ → ℕ → List ℕ → List ℕ → Type 0 where
  edge : {i j : ℕ} (c : ℕ) → links i j ≡ Direct c → Unfolds links i j (c ∷ []) (i ∷ [])
  halves : {i j : ℕ} {cs ds ps qs : List ℕ} (m : ℕ) → links i j ≡ Over m → Unfolds links i m cs ps → Unfolds links m j ds qs
      → Unfolds links i j (cs ++ ds) (ps ++ qs)

pub record Falls (n : ℕ) (links : Links) : Type 0 where
  pub inside : (i j m : ℕ) → links i j ≡ Over m → m < n
  pub first : (i j m : ℕ) → links i j ≡ Over m → rank (links i m) ≤ m
  pub second : (i j m : ℕ) → links i j ≡ Over m → rank (links m j) ≤ m

-- every way from i to j fits into so much memory
abbrev pub FitsIn : Links → ℕ → ℕ → ℕ → Type 0
FitsIn links i j room = (cs ps : List ℕ) → Unfolds links i j cs ps → length cs ≤ room

-- a way from i to j can be unfolded into so much memory
pub record Unfoldable (n : ℕ) (links : Links) (i j room : ℕ) : Type 0 where
  pub from_there : i < n
  pub to_there : j < n
  pub falls : Falls n links
  pub fits : FitsIn links i j room

-- a way from i to j was written to the front of memory, the rest is as it was; r is how many edges it has
pub record Unfolded (links : Links) (i j : ℕ) (old new : List ℕ) (r : ℕ) : Type 0 where
  pub edges : List ℕ
  pub points : List ℕ
  pub way : Unfolds links i j edges points
  pub counted : r ≡ length edges
  pub written : new ≡ put_first edges old

-- a way from i to j, and then the edge back of that code
pub record CycleWritten (links : Links) (i j back : ℕ) (old new : List ℕ) (r : ℕ) : Type 0 where
  pub edges : List ℕ
  pub points : List ℕ
  pub way : Unfolds links i j edges points
  pub counted : r ≡ suc (length edges)
  pub written : new ≡ put_first (edges ++ back ∷ []) old
