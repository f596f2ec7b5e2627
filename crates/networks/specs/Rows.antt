-- What rows in memory mean. A row gives the number of its windows and has room for four; later ones lack both ends. Assumes nothing.
use Rattle.std.specs.Prelude.{◌≡◌, ℕ, ◌-◌, ◌≤◌, List, [], ◌∷◌, ◌++◌, map, length, take, replicate, slice_index_or}
use Rattle.networks.specs.declared.window.Window.{Window}
use Rattle.networks.specs.declared.rows.Row.{Row}
use Rattle.networks.specs.Network.{Condition, Network, open_window}

module _ {S : Type 0} where
  -- the windows that a row has room for
  abbrev pub room : Row S → List (Window S)
  room r = r.first ∷ (r.second ∷ (r.third ∷ (r.fourth ∷ [])))

  abbrev pub row_condition : Row S → Condition S
  row_condition r = record {
    from = r.from;
    to = r.to;
    windows = take r.count (room r) ++ replicate (r.count - length (room r)) open_window;
  }

  abbrev pub rows_network : ℕ → List (Row S) → Network S
  rows_network n rows = record { points = n; conditions = map row_condition rows }

  -- the row of these windows: the first four in the room, missing ends where there are fewer
  abbrev pub row_of : ℕ → ℕ → List (Window S) → Row S
  row_of from to ws = record {
    from = from;
    to = to;
    count = length ws;
    first = slice_index_or ws 0 open_window;
    second = slice_index_or ws 1 open_window;
    third = slice_index_or ws 2 open_window;
    fourth = slice_index_or ws 3 open_window;
  }

  -- the row that is made of these windows; where it has room for them, its condition has just these
  pub record MadeRow (from to : ℕ) (ws : List (Window S)) (r : Row S) : Type 0 where
    pub row : r ≡ row_of from to ws
    pub kept : length ws ≤ length (room r) → row_condition r ≡ record { from = from; to = to; windows = ws }
