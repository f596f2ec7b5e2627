-- What private steps of the sources promise each other. No public promise is said by these. Assumes nothing.
use Rattle.std.specs.Prelude.{◌≡◌, ℕ, ◌<◌, ◌≤◌, cond, List, length, Some, None, Option, nat_lt, slice_index}
use Rattle.networks.specs.declared.rows.Row.{Row}
use Rattle.networks.specs.Network.{Network, no_condition, condition_at}
use Rattle.networks.specs.Rows.{row_condition, rows_network}

module _ {S : Type 0} where
  -- there is a row k; condition k is its condition, with as many windows as it claims
  pub record RowThere (n : ℕ) (rows : List (Row S)) (k : ℕ) (r : Row S) : Type 0 where
    pub within : k < length rows
    pub meant : condition_at (rows_network n rows) k ≡ row_condition r
    pub counted : length (condition_at (rows_network n rows) k).windows ≡ r.count

  -- there is no row k
  pub record RowAbsent (n : ℕ) (rows : List (Row S)) (k : ℕ) : Type 0 where
    pub past : length rows ≤ k
    pub meant : condition_at (rows_network n rows) k ≡ no_condition

  -- as many conditions in M as in N, and condition k between the same points in both
  pub record JoinsAlike (M N : Network S) (k : ℕ) : Type 0 where
    pub same_count : length M.conditions ≡ length N.conditions
    pub same_from : (condition_at M k).from ≡ (condition_at N k).from
    pub same_to : (condition_at M k).to ≡ (condition_at N k).to

-- the number for condition k, where there is one
abbrev pub number_at : List ℕ → ℕ → Option ℕ
number_at ws k = cond (nat_lt k (length ws)) (Some (slice_index ws k)) None
