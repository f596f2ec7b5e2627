-- How the machine moves through lists of windows and of rows, and what the row that is kept of them shows. Assumes nothing.
use Rattle.std.proofs.Common.{◌≡◌, ℕ, zero, suc, ◌+◌, ◌-◌, ◌<◌, false, cond, eqb, leb, ◌⊎◌, List, [], ◌∷◌, ◌++◌, length, get_or, drop, set, Some, None, Option, Ok, Err, Result, sym, refl, ap, ◌∙◌, subst, inl, inr, ⊎_elim, arith, length-append, length-drop}
use Rattle.std.proofs.lemmas.List.{get_or_at, get_or-set_same, get_or-set_other, drop_all}
use Rattle.std.proofs.lemmas.Bool.{cond-true, cond-false, cases_lt, cases_eq, le-leb, lt-leb}
use Rattle.spans.specs.declared.minutes.Minutes.{Minutes}
use Rattle.networks.specs.declared.window.Window.{Window}
use Rattle.networks.specs.declared.rows.Row.{Row}
use Rattle.networks.specs.Network.{Condition, open_window}
use Rattle.networks.specs.Rows.{room, row_of}
use Rattle.list_text.specs.declared.token.Mark.TheVariants.{Open, Close, ListOpen, ListClose, Comma, Semicolon}
use Rattle.list_text.specs.declared.token.Mark.{Mark}
use Rattle.list_text.specs.declared.token.Token.{Token}
use Rattle.list_text.specs.declared.token.Token.TheVariants.{Bracket, Number, Word, Stray, Finish}
use Rattle.list_text.specs.declared.token.Lexeme.{Lexeme}
use Rattle.list_text.specs.Grammar.{blank, byte, Listing}
use Rattle.list_text.specs.Lexing.{Lexed, Cut, mark_of}
use Rattle.list_text.specs.Machine.{State, finished, expects, windows_start, windows_more, rows_more, in_window, one_more_row, start, step, run, reads}
use Rattle.list_text.specs.Reading.{ahead, Leads, Faults, Shows, OneMore, Passes, ReadsRow, NextRow}
use Rattle.std.specs.Result.{result_ok}
use Rattle.list_text.specs.declared.reader.Misread.{Misread}
use Rattle.list_text.specs.declared.reader.Reader.{Reader}
use Rattle.list_text.proofs.Written.{windows_start_waits, windows_more_waits, rows_wait, finished_waits}
use Rattle.list_text.proofs.Moves.{then, stop, mark_onward, over_gap, halts, Wants, refuses, takes, first_no_blank, first_other, begins}

-- ---- at the next token
-- a state that takes one mark or another, and nothing else
two_marks : {r : Reader} {x : Lexeme} → Lexed r x → (s : State) → Wants s → (m n : Mark)
    → ((c : ℕ) → blank c ≡ false → eqb c (byte m) ≡ false → eqb c (byte n) ≡ false → step s c ≡ None)
    → (mark_of x.token ≡ Some m → ⊥) → (mark_of x.token ≡ Some n → ⊥) → Faults r s x.place
two_marks {r} {x} h s w m n untaken a b =
    refuses h s w (λ c f e. untaken c e (first_other x.token m c f a) (first_other x.token n c f b))

module _ {r : Reader} {x : Lexeme} (h : Lexed r x) where
  pub windows_close : (k : List (Window Minutes) → State) → mark_of x.token ≡ Some ListClose → Leads r (windows_start k) x.after (k [])
  windows_close k is = takes h (windows_start k) (k []) ListClose windows_start_waits refl is

  pub windows_open : (k : List (Window Minutes) → State) → mark_of x.token ≡ Some Open → Leads r (windows_start k) x.after (in_window [] k)
  windows_open k is = takes h (windows_start k) (in_window [] k) Open windows_start_waits refl is

  pub windows_fault : (k : List (Window Minutes) → State) → (mark_of x.token ≡ Some ListClose → ⊥) → (mark_of x.token ≡ Some Open → ⊥)
      → Faults r (windows_start k) x.place
  windows_fault k = two_marks h (windows_start k) (record { waits = windows_start_waits; not_yet = λ p. refl }) ListClose Open
      (λ c b e f. cond-false (blank c) _ _ b ∙ cond-false (eqb c 93) _ _ e ∙ cond-false (eqb c 40) _ _ f)

  pub more_close : (ws : List (Window Minutes)) (k : List (Window Minutes) → State) → mark_of x.token ≡ Some ListClose → Leads r (windows_more ws k) x.after (k ws)
  more_close ws k is = takes h (windows_more ws k) (k ws) ListClose windows_more_waits refl is

  pub more_semicolon : (ws : List (Window Minutes)) (k : List (Window Minutes) → State) → mark_of x.token ≡ Some Semicolon
      → Leads r (windows_more ws k) x.after (expects Open (in_window ws k))
  more_semicolon ws k is = takes h (windows_more ws k) (expects Open (in_window ws k)) Semicolon windows_more_waits refl is

  pub more_fault : (ws : List (Window Minutes)) (k : List (Window Minutes) → State) → (mark_of x.token ≡ Some ListClose → ⊥) → (mark_of x.token ≡ Some Semicolon → ⊥)
      → Faults r (windows_more ws k) x.place
  more_fault ws k = two_marks h (windows_more ws k) (record { waits = windows_more_waits; not_yet = λ p. refl }) ListClose Semicolon
      (λ c b e f. cond-false (blank c) _ _ b ∙ cond-false (eqb c 93) _ _ e ∙ cond-false (eqb c 59) _ _ f)

  pub rows_close : (n m : ℕ) (cs : List (Condition Minutes)) → mark_of x.token ≡ Some ListClose
      → Leads r (rows_more n m cs) x.after (finished (record { first = n; second = m; conditions = cs }))
  rows_close n m cs is = takes h (rows_more n m cs) _ ListClose rows_wait refl is

  pub rows_semicolon : (n m : ℕ) (cs : List (Condition Minutes)) → mark_of x.token ≡ Some Semicolon
      → Leads r (rows_more n m cs) x.after (expects Open (one_more_row n m cs))
  rows_semicolon n m cs is = takes h (rows_more n m cs) _ Semicolon rows_wait refl is

  pub rows_fault : (n m : ℕ) (cs : List (Condition Minutes)) → (mark_of x.token ≡ Some ListClose → ⊥) → (mark_of x.token ≡ Some Semicolon → ⊥)
      → Faults r (rows_more n m cs) x.place
  rows_fault n m cs = two_marks h (rows_more n m cs) (record { waits = rows_wait; not_yet = λ p. refl }) ListClose Semicolon
      (λ c b e f. cond-false (blank c) _ _ b ∙ cond-false (eqb c 93) _ _ e ∙ cond-false (eqb c 59) _ _ f)

  -- at the end of the text, and not at its end
  pub at_finish : (l : Listing) → x.token ≡ Finish → run r.at (finished l) (ahead r) ≡ reads l
  at_finish l is =
      let (e, _) = subst (λ y. Cut r.text.now x.place y x.after.at) is h.token in
      over_gap (finished l) finished_waits r.text.now r.at x.place h.gap ∙ ap (run x.place (finished l)) (drop_all x.place r.text.now (omega arith))

  pub not_finish : (l : Listing) → (x.token ≡ Finish → ⊥) → Faults r (finished l) x.place
  not_finish l other = record {
    faults = over_gap (finished l) finished_waits r.text.now r.at x.place h.gap
        ∙ ⊎_elim (λ e. absurd (other (finish x.token h.token e)))
        (λ (c, u, e, f). ap (run x.place (finished l)) e ∙ halts (finished l) c x.place u (cond-false (blank c) _ _ (first_no_blank x.token c f)))
        (begins r.text.now x.place x.after.at x.token h.token);
  }
    where
      short : x.place < length r.text.now → drop x.place r.text.now ≡ [] → ⊥
      short lt e = let z : length (drop x.place r.text.now) ≡ 0 = ap length e in let l = length-drop x.place r.text.now in omega arith

      finish : (y : Token) → Cut r.text.now x.place y x.after.at → drop x.place r.text.now ≡ [] → y ≡ Finish
      finish (Bracket m w) cut e = absurd (short cut.0 e)
      finish (Number w) cut e = absurd (short cut.0 e)
      finish (Word w) cut e = absurd (short cut.0 e)
      finish (Stray w) cut e = absurd (short cut.0 e)
      finish Finish cut e = refl

-- ---- one element more
pub append_other : {X : Type 0} (xs : List X) (y d : X) (i : ℕ) → (i ≡ length xs → ⊥) → get_or (xs ++ (y ∷ [])) i d ≡ get_or xs i d
append_other [] y d zero ne = absurd (ne refl)
append_other [] y d (suc i) ne = refl
append_other (x ∷ xs) y d zero ne = refl
append_other (x ∷ xs) y d (suc i) ne = append_other xs y d i (λ e. ne (ap suc e))

pub count_more : {X : Type 0} (xs : List X) (y : X) (count : ℕ) → count ≡ length xs → count + 1 ≡ length (xs ++ (y ∷ []))
count_more xs y count e = simp length-append (omega arith)

-- ---- the row that is kept
pub shows_none : (i j pick : ℕ) (r : Row Minutes) → r ≡ row_of i j [] → Shows (record { from = i; to = j; windows = [] }) pick r
shows_none i j pick r e =
    subst (Shows (record { from = i; to = j; windows = [] }) pick) (sym e)
    (record { from = refl; to = refl; count = refl; windows = λ n h. all_open n })
  where
    all_open : (n : ℕ) → get_or (room (row_of {S = Minutes} i j [])) n open_window ≡ open_window
    all_open zero = refl
    all_open (suc zero) = refl
    all_open (suc (suc zero)) = refl
    all_open (suc (suc (suc zero))) = refl
    all_open (suc (suc (suc (suc n)))) = refl

pub shows_more : (i j pick : ℕ) (ws : List (Window Minutes)) (w : Window Minutes) (r r' : Row Minutes)
    → Shows (record { from = i; to = j; windows = ws }) pick r → OneMore r pick w r' → Shows (record { from = i; to = j; windows = ws ++ (w ∷ []) }) pick r'
shows_more i j pick ws w r r' s o = record {
  from = o.from ∙ s.from;
  to = o.to ∙ s.to;
  count = o.count ∙ count_more ws w r.count s.count;
  windows = λ n h. ap (λ v. get_or v n open_window) o.room ∙ kept n h;
}
  where
    kept : (n : ℕ) → n < 4
        → get_or (cond (leb pick r.count) (set (room r) (r.count - pick) w) (room r)) n open_window ≡ get_or (ws ++ (w ∷ [])) (pick + n) open_window
    kept n h =
        let c = s.count in
        elim (cases_lt r.count pick) [
          | inl below ↦
              ap (λ v. get_or v n open_window) (cond-false (leb pick r.count) _ _ (lt-leb pick r.count below))
              ∙ s.windows n h ∙ sym (append_other ws w open_window (pick + n) (λ e. let z : pick + n ≡ length ws = e in absurd (omega arith)))
          | inr above ↦
              ap (λ v. get_or v n open_window) (cond-true (leb pick r.count) _ _ (le-leb pick r.count above))
              ∙ elim (cases_eq n (r.count - pick)) [
                | inl e ↦
                    (let at : length ws ≡ pick + n = omega arith in
                    ap (λ m. get_or (set (room r) m w) n open_window) (sym e) ∙ get_or-set_same (room r) n w open_window h ∙ sym (get_or_at ws w [] open_window (pick + n) at))
                | inr ne ↦
                    get_or-set_other (room r) (r.count - pick) n w open_window ne ∙ s.windows n h
                    ∙ sym (append_other ws w open_window (pick + n) (λ e. ne (let z : pick + n ≡ length ws = e in omega arith)))
              ]
        ]

-- ---- how far windows and rows are read
pub record WindowsSoFar (from p : Reader) (i j pick : ℕ) (r : Row Minutes) : Type 0 where
  pub few : r.count < p.at
  pub windows : List (Window Minutes)
  pub shows : Shows (record { from = i; to = j; windows = windows }) pick r
  pub leads : (k : List (Window Minutes) → State) → Leads from (windows_start k) p (in_window windows k)

pub record RowsSoFar (from p : Reader) : Type 0 where
  pub list : List (Condition Minutes)
  pub leads : (n m : ℕ) → Leads from (rows_more n m []) p (rows_more n m list)

-- ---- the next row, or none
closes : (o : Option Mark) → (o ≡ Some ListClose) ⊎ (o ≡ Some ListClose → ⊥)
closes None = inr (λ e. grind arith)
closes (Some Open) = inr (λ e. grind arith)
closes (Some Close) = inr (λ e. grind arith)
closes (Some ListOpen) = inr (λ e. grind arith)
closes (Some ListClose) = inl refl
closes (Some Comma) = inr (λ e. grind arith)
closes (Some Semicolon) = inr (λ e. grind arith)

pub no_row : {r : Reader} {x : Lexeme} → Lexed r x → (mark_of x.token ≡ Some Semicolon → ⊥) → (pick : ℕ) → NextRow r pick None
no_row {r} {x} h other pick =
    elim (closes (mark_of x.token)) [
      | inl is ↦ inl (x.after, λ n m cs. rows_close h n m cs is)
      | inr not-closed ↦ inr (x.place, λ n m cs. rows_fault h n m cs not-closed other)
    ]

pub bracket_read : {r p : Reader} (v : Result Reader Misread) → ((k : State) → Passes r (expects Open k) k v) → Some p ≡ result_ok v → (k : State) → Leads r (expects Open k) p k
bracket_read {r} {p} (Ok q) f e k = let i : q ≡ p = cc in subst (λ u. Leads r (expects Open k) u k) i (f k)
bracket_read {r} {p} (Err e) f some k = absurd (grind arith)

module _ {r : Reader} {x : Lexeme} (h : Lexed r x) (is : mark_of x.token ≡ Some Semicolon) where
  -- a semicolon, and no bracket
  pub no_bracket : (v : Result Reader Misread) → ((k : State) → Passes x.after (expects Open k) k v) → None ≡ result_ok v → (pick : ℕ) → NextRow r pick None
  no_bracket (Ok q) f e pick = absurd (grind arith)
  no_bracket (Err e) f none pick = inr (e.place, λ n m cs. stop (rows_semicolon h n m cs is) (f _))

  -- a semicolon, a bracket, and a row or none
  pub one_row : {p : Reader} (pick : ℕ) → ((k : State) → Leads x.after (expects Open k) p k) → (v : Result (Row Minutes × Reader) Misread) → ReadsRow p pick v → NextRow r pick (result_ok v)
  one_row {p} pick bracket (Ok v) (c, s, read) =
      let on = mark_onward h _ is in
      let a = (bracket start).onward in
      let b = (read (λ _. start)).onward in (
        c,
        s,
        omega arith,
        λ n m cs. then (rows_semicolon h n m cs is) (then (bracket _) (read (λ d. rows_more n m (cs ++ (d ∷ []))))),
      )
  one_row {p} pick bracket (Err e) faults =
      inr (e.place, λ n m cs. stop (rows_semicolon h n m cs is) (stop (bracket _) (faults (λ d. rows_more n m (cs ++ (d ∷ []))))))
