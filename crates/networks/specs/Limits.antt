-- The limits that networks, plans and ranges are held to. Assumes nothing.
use Rattle.std.specs.Prelude.{ℕ, ◌^◌}

abbrev pub most_points : ℕ
most_points = 48

abbrev pub most_conditions : ℕ
most_conditions = 64

-- of conditions with two or more windows
abbrev pub most_choices : ℕ
most_choices = 6

-- of one condition
abbrev pub most_windows : ℕ
most_windows = 4

-- the greatest size of a window's end
abbrev pub largest_end : ℕ
largest_end = 2 ^ 24

-- the greatest size of a date
abbrev pub largest_date : ℕ
largest_date = 2 ^ 39

-- the greatest size of a distance that a range tells
abbrev pub largest_distance : ℕ
largest_distance = 2 ^ 30
