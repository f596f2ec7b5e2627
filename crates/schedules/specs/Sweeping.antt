-- What the steps of range promise each other: both ends over the selections that are gone through. Assumes nothing.
-- For the steps of range; what range promises is said without it.
--     entry_ends K n i j matrix       the opposite of the entry back, and the entry ahead, in a matrix of n rows
--     lower_end, higher_end           of two ends: missing where one is, else the lesser, or the greater
--     joined_ends                     both ends of two, where each of the two may have no dates at all
--     Swept K P i j r                 r has both ends over the dates of which P holds, or is missing where there are none
--     Departs ws place w vs           vs has an earlier window than ws at some place below this one, or agrees up to it and has one below w
--     Through K N ws place w dates    these dates are a plan of a selection that departs so
--     Sweeping K N i j ..             at a level of the choice conditions, the ends over what is gone through
use Rattle.std.specs.Prelude.{◌≡◌, ℕ, ◌<◌, cond, ◌⊎◌, List, Some, None, Option, slice_index}
use Rattle.spans.specs.Kind.{Kind}
use Rattle.networks.specs.Network.{Network}
use Rattle.networks.specs.Plan.{Plan}
use Rattle.networks.specs.Selection.{selected, chosen, Selection}
use Rattle.distances.specs.Distance.{entry_of}
use Rattle.distances.specs.Edges.{opposite_end}
use Rattle.distances.specs.Closing.{Closes}
use Rattle.schedules.specs.Choosing.{Agrees, ChosenUpto}
use Rattle.schedules.specs.Range.{LowOver, HighOver}

module _ {S : Type 0} (K : Kind S) where
  abbrev pub entry_ends : ℕ → ℕ → ℕ → List (Option S) → Option S × Option S
  entry_ends n i j matrix = (opposite_end K (entry_of n matrix j i), entry_of n matrix i j)

  abbrev pub lower_end : Option S → Option S → Option S
  lower_end None y = None
  lower_end (Some a) None = None
  lower_end (Some a) (Some b) = cond (K.less b a) (Some b) (Some a)

  abbrev pub higher_end : Option S → Option S → Option S
  higher_end None y = None
  higher_end (Some a) None = None
  higher_end (Some a) (Some b) = cond (K.less a b) (Some b) (Some a)

  abbrev pub joined_ends : Option (Option S × Option S) → Option (Option S × Option S) → Option (Option S × Option S)
  joined_ends None y = y
  joined_ends (Some x) None = Some x
  joined_ends (Some x) (Some y) = Some (lower_end x.0 y.0, higher_end x.1 y.1)

  abbrev pub Swept : (List S → Type 0) → ℕ → ℕ → Option (Option S × Option S) → Type 0
  Swept P i j None = (dates : List S) → P dates → ⊥
  Swept P i j (Some x) = LowOver K P i j x.0 × HighOver K P i j x.1

abbrev pub Departs : List ℕ → ℕ → ℕ → List ℕ → Type 0
Departs ws place w vs =
    ((k : ℕ) × (k < place) × Agrees k vs ws × (slice_index vs k < slice_index ws k))
    ⊎ (Agrees place vs ws × (slice_index vs place < w))

abbrev pub Through : {S : Type 0} → Kind S → Network S → List ℕ → ℕ → ℕ → List S → Type 0
Through K N ws place w dates = (vs : List ℕ) × Selection N vs × Departs ws place w vs × Plan K (selected N vs) dates

-- at level l, with ws chosen below its place and the windows below w at it gone through; before the first one is tried, the matrix is closed for ws
pub record Sweeping {S : Type 0} (K : Kind S) (N : Network S) (i j : ℕ) (places : ℕ → ℕ) (l : ℕ) (ws : List ℕ) (w : ℕ)
    (ends : Option (Option S × Option S)) (matrix : List (Option S)) : Type 0 where
  pub upto : ChosenUpto N ws (places l)
  pub swept : Swept K (Through K N ws (places l) w) i j ends
  pub closes : w ≡ 0 → Closes K (chosen N ws (places l)) matrix
