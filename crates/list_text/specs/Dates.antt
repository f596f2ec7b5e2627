-- The list text that says which date each point but the first has, seen from the first. Assumes nothing.
use Rattle.std.specs.Prelude.{ℕ, ◌+◌, ◌^◌, ◌<◌, Bool, true, false, List, [], ◌∷◌, ◌++◌, length, drop, Some, None, Option, unsigned_abs}
use Rattle.std.specs.List.{AllByRecursion}
use Rattle.spans.specs.declared.minutes.Minutes.{Minutes}
use Rattle.networks.specs.Network.{Condition, Network}
use Rattle.list_text.specs.Grammar.{Part, Listing, Text, compact, Denotes}

-- point p lies at the date d, seen from point 0
abbrev pub dated : ℕ → Minutes → Condition Minutes
dated p d = record { from = 0; to = p; windows = record { low = Some d; high = Some d } ∷ [] }

-- the dates of the points from p on
abbrev pub dated_from : ℕ → List Minutes → List (Condition Minutes)
dated_from p [] = []
dated_from p (d ∷ ds) = dated p d ∷ dated_from (p + 1) ds

-- as many points as there are dates, and for each point but the first its date
abbrev pub dates_listing : List Minutes → Listing
dates_listing ds = record { first = length ds; second = length ds; conditions = dated_from 1 (drop 1 ds) }

-- the network that it is list text of
abbrev pub dates_network : List Minutes → Network Minutes
dates_network ds = record { points = length ds; conditions = dated_from 1 (drop 1 ds) }

-- t is the compact list text of the dates, and denotes their network
pub record DatesText (ds : List Minutes) (t : List ℕ) : Type 0 where
  pub compactly : Text compact (dates_listing ds) t []
  pub denotes : Denotes t (dates_network ds)

-- a holder of the bytes of the compact text of the dates; none where there is no such text
abbrev pub TextOfDates : {S : Type 0} → (S → List ℕ) → List Minutes → Option S → Type 0
TextOfDates bytes ds (Some s) = DatesText ds (bytes s)
TextOfDates bytes ds None = (t : List ℕ) → Text compact (dates_listing ds) t [] → ⊥

-- they have a text: 12 digits write the number of the dates, and each of them but the first
pub record Writable (ds : List Minutes) : Type 0 where
  pub few : length ds < 10 ^ 12
  pub small : AllByRecursion (λ d. unsigned_abs d.count < 10 ^ 12) (drop 1 ds)

-- ---- said by private functions alone
-- a test of whether dates are writable; where it fails, there is no text
abbrev pub TellsWritable : List Minutes → Bool → Type 0
TellsWritable ds true = Writable ds
TellsWritable ds false = (t : List ℕ) → Text compact (dates_listing ds) t [] → ⊥

-- bytes that are this part, whatever follows them
abbrev pub Writes : Part → List ℕ → Type 0
Writes f w = (v : List ℕ) → f (w ++ v) v
