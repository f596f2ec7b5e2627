-- What reading a whole text, and its rows one after another, finds. Said by private functions alone. Assumes nothing.
use Rattle.std.specs.Prelude.{◌≡◌, ℕ, List, Some, None, Ok, Err, Option, Result}
use Rattle.spans.specs.declared.minutes.Minutes.{Minutes}
use Rattle.networks.specs.declared.rows.Row.{Row}
use Rattle.list_text.specs.Grammar.{Listing, Says, network}
use Rattle.list_text.specs.Place.{FaultAt}
use Rattle.list_text.specs.Reading.{conditions_from, NextRow}
use Rattle.list_text.specs.declared.reader.Misread.{Misread}
use Rattle.list_text.specs.declared.following.Following.{Following}
use Rattle.list_text.specs.declared.text.ListText.{ListText}

-- its points and the place behind its header, or its fault
abbrev pub Scanned : List ℕ → Result ListText Misread → Type 0
Scanned t (Ok v) = (l : Listing) × Says t l × ((network l).points ≡ v.points) × (conditions_from v.rows.text.now v.rows.at ≡ l.conditions)
Scanned t (Err e) = FaultAt t e.place

-- the next of the rows, behind which t gives the others
pub record Given (s : Following) (row : Row Minutes) (t : Following) : Type 0 where
  pub pick : t.pick ≡ s.pick
  pub next : NextRow s.reader s.pick (Some (row, t.reader))

-- it, or none
abbrev pub GivesRow : Following → Option (Row Minutes) → Following → Type 0
GivesRow s (Some row) t = Given s row t
GivesRow s None t = NextRow s.reader s.pick None
