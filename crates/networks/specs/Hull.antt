-- A condition's hull: one window from its first window's low end to its last one's high end; none without windows. Assumes nothing.
use Rattle.std.specs.Prelude.{List, [], ◌∷◌, map, Option}
use Rattle.networks.specs.declared.window.Window.{Window}
use Rattle.networks.specs.Network.{Condition, Network}

module _ {S : Type 0} where
  -- the high end of the last of these windows, of which w is the first
  abbrev pub last_high : Window S → List (Window S) → Option S
  last_high w [] = w.high
  last_high w (v ∷ ws) = last_high v ws

  abbrev pub hull_windows_lem : List (Window S) → List (Window S)
  hull_windows_lem [] = []
  hull_windows_lem (w ∷ ws) = record { low = w.low; high = last_high w ws } ∷ []

  abbrev pub hull : Condition S → Condition S
  hull c = record { from = c.from; to = c.to; windows = hull_windows_lem c.windows }

  abbrev pub hulls : Network S → Network S
  hulls N = record { points = N.points; conditions = map hull N.conditions }
