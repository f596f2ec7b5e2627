-- What holds of every legal network, without any call: there is a cycle below zero and no plan of the hulls, or there are least
-- totals, which every plan of the hulls keeps, and dates by the date rule that are such a plan; and no others. Assumes nothing.
use Rattle.std.specs.Prelude.{◌≡◌, ℕ, ◌<◌, ◌⊎◌, List, Option}
use Rattle.spans.specs.Kind.{Kind}
use Rattle.networks.specs.Network.{Network}
use Rattle.networks.specs.Hull.{hulls}
use Rattle.networks.specs.Plan.{date, HighKept, Plan, HasPlan}
use Rattle.networks.specs.Legal.{Legal}
use Rattle.distances.specs.Graph.{NegativeCycle}
use Rattle.distances.specs.Distance.{LeastTotals}
use Rattle.distances.specs.DateRule.{ByDateRule}

module _ {S : Type 0} (K : Kind S) (N : Network S) where
  pub record DatedDistances (entry : ℕ → ℕ → Option S) (dates : List S) : Type 0 where
    pub least : LeastTotals K N entry
    pub ruled : ByDateRule K entry dates N.points
    pub plan : Plan K (hulls N) dates
    -- every plan of the hulls keeps every entry: j comes at most the entry of (i, j) after i
    pub kept : (plan : List S) → Plan K (hulls N) plan → (i j : ℕ) → i < N.points → j < N.points → HighKept K (entry i j) (date K plan i) (date K plan j)
    -- no other totals are the least, and the rule gives no other dates on them
    pub only_totals : (other : ℕ → ℕ → Option S) → LeastTotals K N other → (i j : ℕ) → i < N.points → j < N.points → other i j ≡ entry i j
    pub only_dates : (other : ℕ → ℕ → Option S) (again : List S) → LeastTotals K N other → ByDateRule K other again N.points → again ≡ dates

  abbrev pub Contradiction : Type 0
  Contradiction = (cs : List ℕ) × NegativeCycle K N cs × (HasPlan K (hulls N) → ⊥)

  abbrev pub Decided : Type 0
  Decided = Contradiction ⊎ ((entry : ℕ → ℕ → Option S) × (dates : List S) × DatedDistances entry dates)

-- every cycle below zero leaves no plan, not only the one that is named
abbrev pub CyclesExcludePlans : {S : Type 0} → Kind S → Network S → Type 0
CyclesExcludePlans K N = (cs : List ℕ) → NegativeCycle K N cs → HasPlan K (hulls N) → ⊥

abbrev pub NetworksDecided : {S : Type 0} → Kind S → Type 0
NetworksDecided {S} K = (N : Network S) → Legal K N → Decided K N × CyclesExcludePlans K N
