-- What the steps of dating give: a date that one entry allows, the further of two dates, and the furthest so far. Assumes nothing.
-- For the steps over the points before p, and for proofs.
--     further before x y               the second where the first is missing or before it
--     GreatestSoFar K d dates p m o  o is the greatest earliest date of p from the points below m
--     LeastSoFar K d dates p m o     o is the least latest date of p from the points below m
use Rattle.std.specs.Prelude.{ℕ, Bool, cond, List, Some, None, Option, MatchOption}
use Rattle.spans.specs.Kind.{Kind}
use Rattle.distances.specs.Table.{Table, joined}
use Rattle.distances.specs.Edges.{opposite_end}
use Rattle.distances.specs.DateRule.{GreatestEarliest, LeastLatest, NoEarliest, NoLatest}

module _ {S : Type 0} where
  -- the second where the first is missing or before it, else the first
  abbrev pub further : (S → S → Bool) → Option S → Option S → Option S
  further before None y = y
  further before (Some a) None = Some a
  further before (Some a) (Some b) = cond (before a b) (Some b) (Some a)

  module _ (K : Kind S) where
    -- a date minus an entry
    abbrev pub earliest : S → Option S → Option S
    earliest x e = joined K (Some x) (opposite_end K e)

    -- a date plus an entry
    abbrev pub latest : S → Option S → Option S
    latest x e = joined K (Some x) e

    module _ (d : Table S) (dates : List S) (p m : ℕ) where
      -- None where no point below m has an entry from p
      abbrev pub GreatestSoFar : Option S → Type 0
      GreatestSoFar o = MatchOption o (NoEarliest K d dates p m) (λ x. GreatestEarliest K d dates p m x)

      -- None where no point below m has an entry to p
      abbrev pub LeastSoFar : Option S → Type 0
      LeastSoFar o = MatchOption o (NoLatest K d dates p m) (λ x. LeastLatest K d dates p m x)
