-- What it is to read on: the machine goes from a state at one reader to a state at another, or gets stuck at a place.
-- `conditions_from` is what a `ListText` means, and `read` promises that this is what its text denotes; `reads_rows` holds of each `ListText`. The others are said by private functions alone, or by proofs. Assumes nothing.
use Rattle.std.specs.Prelude.{◌≡◌, ℕ, ◌+◌, ◌-◌, ◌<◌, ◌≤◌, Bool, true, false, cond, ◌&&◌, ◌⊎◌, List, [], ◌∷◌, ◌++◌, length, drop, Some, None, Ok, Err, Option, Result, nat_le, slice_index_or, slice_set}
use Rattle.spans.specs.declared.minutes.Minutes.{Minutes}
use Rattle.networks.specs.declared.window.Window.{Window}
use Rattle.networks.specs.declared.rows.Row.{Row}
use Rattle.networks.specs.Network.{Condition, no_condition, open_window, window_of}
use Rattle.networks.specs.Rows.{room}
use Rattle.list_text.specs.Grammar.{Listing}
use Rattle.list_text.specs.Place.{longest_text, Inside}
use Rattle.list_text.specs.declared.reader.Reader.{Reader}
use Rattle.list_text.specs.declared.reader.Misread.{Misread}
use Rattle.list_text.specs.Machine.{State, finished, windows_start, in_row, rows_more, run, Outcome, reads, stuck}

-- what is still to be read
abbrev pub ahead : Reader → List ℕ
ahead r = drop r.at r.text.now

-- from the state s at r to the state k at q, which is in the same text and not before r
pub record Leads (r : Reader) (s : State) (q : Reader) (k : State) : Type 0 where
  pub text : q.text.now ≡ r.text.now
  pub onward : r.at ≤ q.at
  pub leads : run r.at s (ahead r) ≡ run q.at k (ahead q)

-- from the state s at r to a fault at e
pub record Faults (r : Reader) (s : State) (e : ℕ) : Type 0 where
  pub faults : run r.at s (ahead r) ≡ stuck e

-- the reader behind what was read, or the fault
abbrev pub Passes : Reader → State → State → Result Reader Misread → Type 0
Passes r s k (Ok q) = Leads r s q k
Passes r s k (Err e) = Faults r s e.place

-- what was read and the reader behind it, or the fault
abbrev pub Reads : {A : Type 0} → Reader → State → (A → State) → Result (A × Reader) Misread → Type 0
Reads r s k (Ok v) = Leads r s v.1 (k v.0)
Reads r s k (Err e) = Faults r s e.place

-- a row that has the points and the number of windows of a condition, and in its room four of its windows from one on
pub record Shows (c : Condition Minutes) (pick : ℕ) (r : Row Minutes) : Type 0 where
  pub from : r.from ≡ c.from
  pub to : r.to ≡ c.to
  pub count : r.count ≡ length c.windows
  pub windows : (i : ℕ) → i < 4 → slice_index_or (room r) i open_window ≡ window_of c (pick + i)

-- the row that has one window more, in its room where it belongs there
pub record OneMore (r : Row Minutes) (pick : ℕ) (w : Window Minutes) (r' : Row Minutes) : Type 0 where
  pub from : r'.from ≡ r.from
  pub to : r'.to ≡ r.to
  pub count : r'.count ≡ r.count + 1
  pub room : room r' ≡ cond (nat_le pick r.count) (slice_set (room r) (r.count - pick) w) (room r)

-- the windows behind `[`, up to and with `]`
abbrev pub ReadsWindows : Reader → ℕ → ℕ → ℕ → Result (Row Minutes × Reader) Misread → Type 0
ReadsWindows r i j pick (Ok v) =
    (ws : List (Window Minutes)) × Shows (record { from = i; to = j; windows = ws }) pick v.0
    × ((k : List (Window Minutes) → State) → Leads r (windows_start k) v.1 (k ws))
ReadsWindows r i j pick (Err e) = (k : List (Window Minutes) → State) → Faults r (windows_start k) e.place

-- a row behind its first bracket
abbrev pub ReadsRow : Reader → ℕ → Result (Row Minutes × Reader) Misread → Type 0
ReadsRow r pick (Ok v) =
    (c : Condition Minutes) × Shows c pick v.0 × ((k : Condition Minutes → State) → Leads r (in_row k) v.1 (k c))
ReadsRow r pick (Err e) = (k : Condition Minutes → State) → Faults r (in_row k) e.place

-- the rows up to the last bracket
abbrev pub ReadsRows : Reader → Result Reader Misread → Type 0
ReadsRows r (Ok q) =
    (cs : List (Condition Minutes)) × ((n m : ℕ) → Leads r (rows_more n m []) q (finished (record { first = n; second = m; conditions = cs })))
ReadsRows r (Err e) = (n m : ℕ) → Faults r (rows_more n m []) e.place

-- the rows up to the end of the text
abbrev pub ReadsAll : Reader → Result (Unit {0}) Misread → Type 0
ReadsAll r (Ok v) =
    (cs : List (Condition Minutes)) × ((n m : ℕ) → run r.at (rows_more n m []) (ahead r) ≡ reads (record { first = n; second = m; conditions = cs }))
ReadsAll r (Err e) = (n m : ℕ) → Faults r (rows_more n m []) e.place

-- ---- the source
abbrev pub conditions_of : Outcome → List (Condition Minutes)
conditions_of (reads l) = l.conditions
conditions_of (stuck p) = []

-- the conditions that stand in a text from the place behind its header on; none where that is not so
unfoldable pub conditions_from : List ℕ → ℕ → List (Condition Minutes)
conditions_from t p = cond (nat_le (length t) longest_text && nat_le p (length t)) (conditions_of (run p (rows_more 0 0 []) (drop p t))) []

-- read to the end, and not stuck
abbrev pub ends : Outcome → Bool
ends (reads l) = true
ends (stuck p) = false

-- whether rows stand in a text from a place on, up to its end
abbrev pub reads_rows : List ℕ → ℕ → Bool
reads_rows t p = ends (run p (rows_more 0 0 []) (drop p t))

-- what a row shows of condition k and its window w
pub record Looked (cs : List (Condition Minutes)) (k w : ℕ) (r : Row Minutes) : Type 0 where
  pub from : r.from ≡ (slice_index_or cs k no_condition).from
  pub to : r.to ≡ (slice_index_or cs k no_condition).to
  pub count : r.count ≡ length (slice_index_or cs k no_condition).windows
  pub window : r.first ≡ window_of (slice_index_or cs k no_condition) w

-- from the place p on there are rows, up to the end of a text that is not too long, and these are the conditions
pub record Readable (t : List ℕ) (p : ℕ) : Type 0 where
  pub inside : Inside t p
  pub listing : Listing
  pub reads_it : run p (rows_more 0 0 []) (drop p t) ≡ reads listing
  pub means_it : conditions_from t p ≡ listing.conditions

-- the next row, where there is one; else the last bracket, or a fault
abbrev pub NextRow : Reader → ℕ → Option (Row Minutes × Reader) → Type 0
NextRow r pick (Some v) =
    (c : Condition Minutes) × Shows c pick v.0 × (r.at < v.1.at)
    × ((n m : ℕ) (cs : List (Condition Minutes)) → Leads r (rows_more n m cs) v.1 (rows_more n m (cs ++ (c ∷ []))))
NextRow r pick None =
    ((q : Reader) × ((n m : ℕ) (cs : List (Condition Minutes)) → Leads r (rows_more n m cs) q (finished (record { first = n; second = m; conditions = cs }))))
    ⊎ ((e : ℕ) × ((n m : ℕ) (cs : List (Condition Minutes)) → Faults r (rows_more n m cs) e))
