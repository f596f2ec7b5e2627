-- Lent memory with something written to its front. Assumes nothing.
use Rattle.std.specs.Prelude.{ℕ, ◌*◌, List, ◌++◌, length, drop, replicate, None, Option}

-- xs at the front, the rest as it was
abbrev pub put_first : {A : Type 0} → List A → List A → List A
put_first xs old = xs ++ drop (length xs) old

-- the first n×n entries of a matrix blank, the rest as it was
abbrev pub blanked : {S : Type 0} → ℕ → List (Option S) → List (Option S)
blanked n old = put_first (replicate (n * n) None) old
