-- What the steps of choosing windows promise each other: places of choice conditions, and selections that are ruled out. Assumes nothing.
-- For the steps of solve and range; what these promise is said without it.
--     Agrees place vs ws             the numbers below a place are the same
--     NumbersThere N ws place       each number below a place is that of a window
--     NoneWith K N ws place         no selection that goes on from ws below a place has a plan
--     NoneBelow K N ws place w      none of those whose number at the place is below w
--     ChoicePlaces N places          the choice conditions in order, at most six
use Rattle.std.specs.Prelude.{◌≡◌, ℕ, suc, ◌<◌, ◌≤◌, List, length, take, Some, None, Option, unwrap_or, slice_index, slice_index_or}
use Rattle.spans.specs.Kind.{Kind}
use Rattle.networks.specs.Network.{Network, condition_at}
use Rattle.networks.specs.Plan.{HasPlan}
use Rattle.networks.specs.Selection.{selected, chosen, Selection, FirstWithPlan}
use Rattle.distances.specs.Closing.{Closes}

abbrev pub Agrees : ℕ → List ℕ → List ℕ → Type 0
Agrees place vs ws = (k : ℕ) → k < place → slice_index vs k ≡ slice_index ws k

module _ {S : Type 0} (N : Network S) where
  abbrev pub NumbersThere : List ℕ → ℕ → Type 0
  NumbersThere ws place = (k : ℕ) → k < place → k < length N.conditions → slice_index ws k < length (condition_at N k).windows

  -- from `place` on and below `next` each condition has one window, and its number is 0
  abbrev pub Lone : List ℕ → ℕ → ℕ → Type 0
  Lone ws place next = (k : ℕ) → place ≤ k → k < next → (length (condition_at N k).windows ≡ 1) × (slice_index ws k ≡ 0)

  -- r is the next choice condition from number `from` on, or the number of conditions
  pub record NextChoice (from r : ℕ) : Type 0 where
    pub within : r ≤ length N.conditions
    pub none_before : (k : ℕ) → from ≤ k → k < r → length (condition_at N k).windows ≤ 1
    pub is_choice : r < length N.conditions → (from ≤ r) × (1 < length (condition_at N r).windows)

  -- the place of choice condition l, or the number of conditions where there are fewer
  abbrev pub place_of : List (Option ℕ) → ℕ → ℕ
  place_of places l = unwrap_or (slice_index_or places l None) (length N.conditions)

  -- choice condition l stands at place l; past the last of at most six, the place is the number of conditions
  pub record Places (places : ℕ → ℕ) : Type 0 where
    pub within : (l : ℕ) → l < 7 → places l ≤ length N.conditions
    pub last : places 6 ≡ length N.conditions
    pub rise : (l : ℕ) → l < 6 → places l < length N.conditions → places l < places (suc l)
    pub stay : (l : ℕ) → l < 6 → places l ≡ length N.conditions → places (suc l) ≡ length N.conditions
    pub lone_first : (k : ℕ) → k < places 0 → length (condition_at N k).windows ≡ 1
    pub lone : (l k : ℕ) → l < 6 → places l < k → k < places (suc l) → length (condition_at N k).windows ≡ 1

  -- the choice conditions in order
  pub record ChoicePlaces (places : List (Option ℕ)) : Type 0 where
    pub there : (l k : ℕ) → slice_index_or places l None ≡ Some k → k < length N.conditions
    pub in_order : Places (place_of places)

  -- how many windows there are to choose from at a place; one past the last condition
  pub record Turns (place r : ℕ) : Type 0 where
    pub of_condition : place < length N.conditions → r ≡ length (condition_at N place).windows
    pub past : length N.conditions ≤ place → r ≡ 1

  -- numbers of windows are chosen below the place, and zero from there on
  pub record ChosenUpto (ws : List ℕ) (place : ℕ) : Type 0 where
    pub long : length N.conditions ≤ length ws
    pub there : NumbersThere ws place
    pub zeros : (k : ℕ) → place ≤ k → slice_index ws k ≡ 0

module _ {S : Type 0} (K : Kind S) (N : Network S) where
  abbrev pub NoneWith : List ℕ → ℕ → Type 0
  NoneWith ws place = (vs : List ℕ) → Selection N vs → Agrees place vs ws → HasPlan K (selected N vs) → ⊥

  abbrev pub NoneBelow : List ℕ → ℕ → ℕ → Type 0
  NoneBelow ws place w = (vs : List ℕ) → Selection N vs → Agrees place vs ws → slice_index vs place < w → HasPlan K (selected N vs) → ⊥

  -- window w at `place` was refused: no selection that goes on from ws with it has a plan
  abbrev pub RuledOut : List ℕ → ℕ → ℕ → Type 0
  RuledOut ws place w = (vs : List ℕ) → Selection N vs → Agrees place vs ws → slice_index vs place ≡ w → HasPlan K (selected N vs) → ⊥

  -- us goes on from ws with window w at `place`, up to the place `next`; the matrix is closed for it
  pub record GoesOn (ws : List ℕ) (place w : ℕ) (us : List ℕ) (next : ℕ) (matrix : List (Option S)) : Type 0 where
    pub agrees : Agrees place us ws
    pub number : slice_index_or us place 0 ≡ w
    pub upto : ChosenUpto N us next
    pub closes : Closes K (chosen N us next) matrix

  -- at level l, with ws chosen below its place: no selection with a plan departs from ws at an earlier place with an earlier window
  pub record Reached (places : ℕ → ℕ) (l : ℕ) (ws : List ℕ) : Type 0 where
    pub upto : ChosenUpto N ws (places l)
    pub none : (k : ℕ) → k < places l → k < length N.conditions → 1 < length (condition_at N k).windows → NoneBelow ws k (slice_index ws k)

  -- and the windows below w at this place are ruled out; before the first one is tried, the matrix is closed for ws
  pub record Turning (places : ℕ → ℕ) (l : ℕ) (ws : List ℕ) (w : ℕ) (matrix : List (Option S)) : Type 0 where
    pub reached : Reached places l ws
    pub below : NoneBelow ws (places l) w
    pub closes : w ≡ 0 → Closes K (chosen N ws (places l)) matrix

  -- the numbers found are those of the first selection that has a plan, and the matrix is closed for it
  pub record FoundFirst (us : List ℕ) (matrix : List (Option S)) : Type 0 where
    pub first : FirstWithPlan K N (take (length N.conditions) us)
    pub meant : selected N us ≡ selected N (take (length N.conditions) us)
    pub closes : Closes K (selected N us) matrix
