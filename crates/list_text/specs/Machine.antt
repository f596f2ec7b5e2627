-- Reading as a machine that takes one byte at a time. What a `ListText` means is worked out by it, and `read` promises that this is the network
-- which the text denotes: a reader who believes the grammar need not read the machine.
-- A state says what is still to come, and which state comes after it with what was read. Assumes nothing.
use Rattle.std.specs.Prelude.{ℕ, zero, suc, ◌+◌, ◌-◌, ◌*◌, Bool, true, false, cond, List, [], ◌∷◌, ◌++◌, Some, None, Option, ◌==◌}
use Rattle.spans.specs.declared.minutes.Minutes.{Minutes}
use Rattle.spans.specs.MinuteKind.{minutes}
use Rattle.networks.specs.declared.window.Window.{Window}
use Rattle.networks.specs.Network.{Condition}
use Rattle.list_text.specs.declared.token.Mark.{Mark}
use Rattle.list_text.specs.declared.token.Mark.TheVariants.{Open, Close, ListOpen, ListClose, Comma}
use Rattle.list_text.specs.Grammar.{blank, digit, byte, with_sign, Listing}

pub data State : Type 0 where
  -- only blanks may follow
  finished : Listing → State
  -- this mark
  expects : Mark → State → State
  -- a number, with a sign or not, and the mark after it
  number : Bool → (Bool → ℕ → State) → State
  -- the first digit behind a minus
  after_dash : (Bool → ℕ → State) → State
  -- up to so many digits more behind those that wrote a number, and the mark after them
  in_digits : Bool → ℕ → Bool → ℕ → (Bool → ℕ → State) → State
  -- an end; the rest of `Inf` behind its first letter, and behind its second
  at_end : (Option Minutes → State) → State
  after_I : State → State
  after_In : State → State
  -- windows behind `[`; more of them behind some
  windows_start : (List (Window Minutes) → State) → State
  windows_more : List (Window Minutes) → (List (Window Minutes) → State) → State
  -- more rows behind a header and some rows
  rows_more : ℕ → ℕ → List (Condition Minutes) → State

-- what follows a number: `)` where it may have a sign, else `,`
abbrev pub mark_after : Bool → Mark
mark_after true = Close
mark_after false = Comma

-- a window behind its first bracket
abbrev pub in_window : List (Window Minutes) → (List (Window Minutes) → State) → State
in_window ws k =
    at_end (λ low. expects Comma (at_end (λ high. expects Close (windows_more (ws ++ (record { low = low; high = high } ∷ [])) k))))

-- a row behind its first bracket
abbrev pub in_row : (Condition Minutes → State) → State
in_row k =
    number false (λ _ i. number false (λ _ j. expects ListOpen (windows_start (λ ws. expects Close (k (record { from = i; to = j; windows = ws }))))))

-- a row more behind some rows
abbrev pub one_more_row : ℕ → ℕ → List (Condition Minutes) → State
one_more_row n m cs = in_row (λ c. rows_more n m (cs ++ (c ∷ [])))

abbrev pub start : State
start =
    expects ListOpen (expects Open (number false (λ _ n. number false (λ _ m.
    expects ListOpen (expects ListClose (expects Close (rows_more n m [])))))))

-- one digit more, where one may still come
abbrev pub one_digit : ℕ → (ℕ → State) → Option State
one_digit zero k = None
one_digit (suc left) k = Some (k left)

-- blanks pass
abbrev pub idle : ℕ → State → Option State → Option State
idle c s r = cond (blank c) (Some s) r

abbrev pub when : Bool → State → Option State → Option State
when b s r = cond b (Some s) r

abbrev pub step : State → ℕ → Option State
step (finished l) c = idle c (finished l) None
step (expects m k) c = idle c (expects m k) (when (c == byte m) k None)
step (number sign k) c =
    idle c (number sign k) (when (digit c) (in_digits sign 11 false (0 * 10 + (c - 48)) k)
    (cond sign (when (c == 45) (after_dash k) None) None))
step (after_dash k) c = when (digit c) (in_digits true 11 true (0 * 10 + (c - 48)) k) None
step (in_digits sign left negative n k) c =
    cond (digit c) (one_digit left (λ l. in_digits sign l negative (n * 10 + (c - 48)) k))
    (idle c (expects (mark_after sign) (k negative n)) (when (c == byte (mark_after sign)) (k negative n) None))
step (at_end k) c =
    idle c (at_end k) (when (c == 69) (expects Open (number true (λ negative n. k (Some (minutes (with_sign negative n))))))
    (when (c == 73) (after_I (k None)) None))
step (after_I k) c = when (c == 110) (after_In k) None
step (after_In k) c = when (c == 102) k None
step (windows_start k) c = idle c (windows_start k) (when (c == 93) (k []) (when (c == 40) (in_window [] k) None))
step (windows_more ws k) c =
    idle c (windows_more ws k) (when (c == 93) (k ws) (when (c == 59) (expects Open (in_window ws k)) None))
step (rows_more n m cs) c =
    idle c (rows_more n m cs) (when (c == 93) (finished (record { first = n; second = m; conditions = cs }))
    (when (c == 59) (expects Open (one_more_row n m cs)) None))

-- read to the end as a listing, or stuck at a place
pub data Outcome : Type 0 where
  reads : Listing → Outcome
  stuck : ℕ → Outcome

abbrev pub at_the_end : ℕ → State → Outcome
at_the_end p (finished l) = reads l
at_the_end p (expects m k) = stuck p
at_the_end p (number sign k) = stuck p
at_the_end p (after_dash k) = stuck p
at_the_end p (in_digits sign left negative n k) = stuck p
at_the_end p (at_end k) = stuck p
at_the_end p (after_I k) = stuck p
at_the_end p (after_In k) = stuck p
at_the_end p (windows_start k) = stuck p
at_the_end p (windows_more ws k) = stuck p
at_the_end p (rows_more n m cs) = stuck p

-- reading a text whose first byte has the place p
abbrev pub run : ℕ → State → List ℕ → Outcome
run p s [] = at_the_end p s
run p s (c ∷ cs) = elim (step s c) [ None ↦ stuck p | Some k ↦ run (p + 1) k cs ]
