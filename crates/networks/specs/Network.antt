-- What a source means: a number of points and a list of conditions between them. Assumes nothing.
use Rattle.std.specs.Prelude.{ℕ, List, [], None, slice_index_or}
use Rattle.networks.specs.declared.window.Window.{Window}

-- The distance from one point to another lies in one of the windows.
pub record Condition (S : Type 0) : Type 0 where
  pub from : ℕ
  pub to : ℕ
  pub windows : List (Window S)

pub record Network (S : Type 0) : Type 0 where
  pub points : ℕ
  pub conditions : List (Condition S)

module _ {S : Type 0} where
  -- what stands for a window that is not there: both ends missing
  abbrev pub open_window : Window S
  open_window = record { low = None; high = None }

  -- what stands for a condition that is not there
  abbrev pub no_condition : Condition S
  no_condition = record { from = 0; to = 0; windows = [] }

  abbrev pub condition_at : Network S → ℕ → Condition S
  condition_at N k = slice_index_or N.conditions k no_condition

  abbrev pub window_of : Condition S → ℕ → Window S
  window_of c w = slice_index_or c.windows w open_window
