-- Limits of this crate's own. Assumes nothing.
use Rattle.std.specs.Prelude.{ℕ, ◌^◌}

-- no total of a route of a legal network is of a greater size: 47 edges of at most 2^24 each stay below it.
-- It bounds what is added; the like number of networks' limits bounds what a range tells.
abbrev pub largest_total : ℕ
largest_total = 2 ^ 30
