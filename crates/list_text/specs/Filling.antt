-- What filling lent rows with the conditions of a source promises. Assumes nothing.
use Rattle.std.specs.Prelude.{◌≡◌, ℕ, ◌-◌, min, List, ◌++◌, map, length, take, drop}
use Rattle.spans.specs.declared.minutes.Minutes.{Minutes}
use Rattle.networks.specs.declared.rows.Row.{Row}
use Rattle.networks.specs.Network.{Condition}
use Rattle.networks.specs.Rows.{row_of}

abbrev pub condition_row : Condition Minutes → Row Minutes
condition_row c = row_of c.from c.to c.windows

-- as many conditions from number `first` on as there are and as there is room for stand at the front, the rest is as it was
pub record Filled (cs : List (Condition Minutes)) (first : ℕ) (old new : List (Row Minutes)) (r : ℕ) : Type 0 where
  pub count : r ≡ min (length old) (length cs - first)
  pub rows : new ≡ map condition_row (take (length old) (drop first cs)) ++ drop r old
