-- How the machine moves over a gap, over a mark, and past what it does not take. Assumes nothing.
use Rattle.std.proofs.Common.{◌≡◌, ℕ, ◌+◌, ◌<◌, Bool, true, false, cond, ◌||◌, eqb, ◌⊎◌, List, [], ◌∷◌, ◌++◌, length, get_or, drop, Some, None, sym, refl, ap, ◌∙◌, inl, inr, ⊎_elim, arith, length-drop}
use Rattle.std.proofs.lemmas.List.{drop_more, drop_all}
use Rattle.std.proofs.lemmas.Bool.{cond-false, ne_eqb, or_from, both_ways}
use Rattle.std.proofs.lemmas.Bool.Decides.{nat_tests}
use Rattle.list_text.specs.declared.token.Mark.{Mark}
use Rattle.list_text.specs.declared.token.Mark.TheVariants.{Open, Close, ListOpen, ListClose, Comma, Semicolon}
use Rattle.list_text.specs.declared.token.Token.{Token}
use Rattle.list_text.specs.declared.token.Token.TheVariants.{Bracket, Number, Word, Stray, Finish}
use Rattle.list_text.specs.declared.token.Lexeme.{Lexeme}
use Rattle.list_text.specs.Grammar.{Over, none, more, blank, digit, byte}
use Rattle.list_text.specs.Lexing.{letter, Passed, Cut, Lexed, Odd, mark_of}
use Rattle.list_text.specs.Machine.{State, expects, step, run, stuck}
use Rattle.list_text.specs.Reading.{ahead, Leads, Faults}
use Rattle.list_text.specs.declared.reader.Reader.{Reader}
use Rattle.list_text.proofs.Completions.{takes_mark}
use Rattle.list_text.proofs.Written.{Waits, expects_waits}

-- ---- one byte
pub moves : (s k : State) (c p : ℕ) (u : List ℕ) → step s c ≡ Some k → run p s (c ∷ u) ≡ run (p + 1) k u
moves s k c p u e = rw (e, run)

pub halts : (s : State) (c p : ℕ) (u : List ℕ) → step s c ≡ None → run p s (c ∷ u) ≡ stuck p
halts s c p u e = rw (e, run)

moves_at : (s k : State) (t : List ℕ) (p : ℕ) → p < length t → step s (get_or t p 0) ≡ Some k → run p s (drop p t) ≡ run (p + 1) k (drop (p + 1) t)
moves_at s k t p lt e = ap (run p s) (drop_more t p 0 lt) ∙ moves s k (get_or t p 0) p (drop (p + 1) t) e

-- ---- a gap
over_blanks : (s : State) → Waits s → (u v : List ℕ) → Over blank u v → (p q : ℕ) → q + length v ≡ p + length u → run p s u ≡ run q s v
over_blanks s i u v none p q e = let h : p ≡ q = omega arith in ap (λ x. run x s u) h
over_blanks s i u v (more {u = w} c b o) p q e = moves s s c p w (i.stays c b) ∙ over_blanks s i w v o (p + 1) q (omega arith)

pub over_gap : (s : State) → Waits s → (t : List ℕ) (p q : ℕ) → Passed blank t p q → run p s (drop p t) ≡ run q s (drop q t)
over_gap s i t p q h = over_blanks s i (drop p t) (drop q t) h.all p q (simp length-drop (omega (arith, h.from, h.within)))

-- ---- what tokens begin with
abbrev pub First : Token → ℕ → Type 0
First (Bracket m w) c = c ≡ byte m
First (Number w) c = (eqb c 45 || digit c) ≡ true
First (Word w) c = letter c ≡ true
First (Stray w) c = Odd c
First Finish c = ⊥

pub begins : (t : List ℕ) (p q : ℕ) (x : Token) → Cut t p x q → (drop p t ≡ []) ⊎ ((c : ℕ) × (u : List ℕ) × (drop p t ≡ c ∷ u) × First x c)
begins t p q (Bracket m w) (lt, e, is, bytes) = inr (get_or t p 0, drop (p + 1) t, drop_more t p 0 lt, is)
begins t p q (Number w) (lt, h) = inr (h.first, h.others ++ drop q t, h.whole ∙ ap (λ y. y ++ drop q t) h.is, h.begins)
begins t p q (Word w) (lt, h) = inr (h.first, h.others ++ drop q t, h.whole ∙ ap (λ y. y ++ drop q t) h.is, h.begins)
begins t p q (Stray w) (lt, e, h, bytes) = inr (get_or t p 0, drop (p + 1) t, drop_more t p 0 lt, h)
begins t p q Finish (e, _) = inl (drop_all p t (omega arith))

-- what the byte of a mark is not
pub mark_class : (m : Mark) → (blank (byte m) ≡ false) × (digit (byte m) ≡ false) × (letter (byte m) ≡ false) × (eqb (byte m) 45 ≡ false)
mark_class Open = (refl, refl, refl, refl)
mark_class Close = (refl, refl, refl, refl)
mark_class ListOpen = (refl, refl, refl, refl)
mark_class ListClose = (refl, refl, refl, refl)
mark_class Comma = (refl, refl, refl, refl)
mark_class Semicolon = (refl, refl, refl, refl)

pub first_no_blank : (x : Token) (c : ℕ) → First x c → blank c ≡ false
first_no_blank (Bracket m w) c f = ap blank f ∙ (mark_class m).0
first_no_blank (Number w) c f = grind (arith, nat_tests)
first_no_blank (Word w) c f = grind (arith, nat_tests)
first_no_blank (Stray w) c f = f.blank
first_no_blank Finish c f = absurd f

mark_at : ℕ → Mark
mark_at c = cond (eqb c 40) Open (cond (eqb c 41) Close (cond (eqb c 91) ListOpen (cond (eqb c 93) ListClose (cond (eqb c 44) Comma Semicolon))))

mark_at_byte : (m : Mark) → mark_at (byte m) ≡ m
unfolding mark_at
mark_at_byte Open = refl
mark_at_byte Close = refl
mark_at_byte ListOpen = refl
mark_at_byte ListClose = refl
mark_at_byte Comma = refl
mark_at_byte Semicolon = refl

one_byte : (m n : Mark) → byte m ≡ byte n → m ≡ n
one_byte m n e = sym (mark_at_byte m) ∙ ap mark_at e ∙ mark_at_byte n

unlike_mark : (P : ℕ → Bool) (m : Mark) (c : ℕ) → P (byte m) ≡ false → P c ≡ true → c ≡ byte m → ⊥
unlike_mark P m c not is e = both_ways (P c) (ap P e ∙ not) is

-- a token that is not this mark does not begin with its byte
pub first_other : (x : Token) (m : Mark) (c : ℕ) → First x c → (mark_of x ≡ Some m → ⊥) → eqb c (byte m) ≡ false
first_other (Bracket n w) m c f other = ne_eqb c (byte m) (λ h. other (ap Some (one_byte n m (sym f ∙ h))))
first_other (Number w) m c f other =
    ne_eqb c (byte m) (unlike_mark (λ c. eqb c 45 || digit c) m c (or_from _ _ (mark_class m).3 (mark_class m).1) f)
first_other (Word w) m c f other = ne_eqb c (byte m) (unlike_mark letter m c (mark_class m).2 f)
first_other (Stray w) m c f other = ne_eqb c (byte m) (λ e. f.mark m (sym e))
first_other Finish m c f other = absurd f

-- ---- past a gap, at a token
-- a state that waits for a token, in which the text may not end
pub record Wants (s : State) : Type 0 where
  pub waits : Waits s
  pub not_yet : (p : ℕ) → run p s [] ≡ stuck p

pub expects_wants : {m : Mark} {k : State} → Wants (expects m k)
expects_wants = record { waits = expects_waits; not_yet = λ p. refl }

module _ {r : Reader} {x : Lexeme} (h : Lexed r x) where
  -- it takes no byte with which the token begins
  pub refuses : (s : State) → Wants s → ((c : ℕ) → First x.token c → blank c ≡ false → step s c ≡ None) → Faults r s x.place
  refuses s w untaken = record {
    faults = over_gap s w.waits r.text.now r.at x.place h.gap
        ∙ ⊎_elim (λ e. ap (run x.place s) e ∙ w.not_yet x.place)
        (λ (c, u, e, f). ap (run x.place s) e ∙ halts s c x.place u (untaken c f (first_no_blank x.token c f)))
        (begins r.text.now x.place x.after.at x.token h.token);
  }

  -- the state in which the machine is behind the token
  pub goes : (s k : State) → run r.at s (ahead r) ≡ run x.after.at k (drop x.after.at r.text.now) → Leads r s x.after k
  goes s k e = record { text = h.text; onward = h.onward; leads = e ∙ ap (λ t. run x.after.at k (drop x.after.at t)) (sym h.text) }

  -- it takes the mark that is there
  pub takes : (s k : State) (m : Mark) → Waits s → step s (byte m) ≡ Some k → mark_of x.token ≡ Some m → Leads r s x.after k
  takes s k m w e is = goes s k (over_gap s w r.text.now r.at x.place h.gap ∙ over x.token h.token is)
    where
      over : (y : Token) → Cut r.text.now x.place y x.after.at → mark_of y ≡ Some m → run x.place s (drop x.place r.text.now) ≡ run x.after.at k (drop x.after.at r.text.now)
      over (Bracket n b) (lt, eq, at, bytes) is =
          let same : n ≡ m = cc in
          moves_at s k r.text.now x.place lt (ap (step s) (at ∙ ap byte same) ∙ e) ∙ ap (λ i. run i k (drop i r.text.now)) (sym eq)
      over (Number b) cut is = absurd (grind arith)
      over (Word b) cut is = absurd (grind arith)
      over (Stray b) cut is = absurd (grind arith)
      over Finish cut is = absurd (grind arith)

  -- the reader behind a mark is behind its place
  pub mark_onward : (m : Mark) → mark_of x.token ≡ Some m → r.at < x.after.at
  mark_onward m is = over x.token h.token is
    where
      over : (y : Token) → Cut r.text.now x.place y x.after.at → mark_of y ≡ Some m → r.at < x.after.at
      over (Bracket n b) (lt, eq, at, bytes) is = omega (arith, h.gap.from)
      over (Number b) cut is = absurd (grind arith)
      over (Word b) cut is = absurd (grind arith)
      over (Stray b) cut is = absurd (grind arith)
      over Finish cut is = absurd (grind arith)

  pub expected : (m : Mark) (k : State) → mark_of x.token ≡ Some m → Leads r (expects m k) x.after k
  expected m k is = takes (expects m k) k m expects_waits (takes_mark m k) is

  pub unexpected : (m : Mark) (k : State) → (mark_of x.token ≡ Some m → ⊥) → Faults r (expects m k) x.place
  unexpected m k other =
      refuses (expects m k) expects_wants
      (λ c f b. cond-false (blank c) _ _ b ∙ cond-false (eqb c (byte m)) _ _ (first_other x.token m c f other))

-- ---- one reading after another
pub then : {r q u : Reader} {s k j : State} → Leads r s q k → Leads q k u j → Leads r s u j
then a b = record { text = b.text ∙ a.text; onward = omega (arith, a.onward, b.onward); leads = a.leads ∙ b.leads }

pub stop : {r q : Reader} {e : ℕ} {s k : State} → Leads r s q k → Faults q k e → Faults r s e
stop a b = record { faults = a.leads ∙ b.faults }

-- none: the reader stays where it is
pub stays : (r : Reader) (s : State) → Leads r s r s
stays r s = record { text = refl; onward = omega arith; leads = refl }

-- behind a step onward fewer bytes are ahead
pub nearer : {r q : Reader} {s k : State} → Leads r s q k → r.at < q.at → length (ahead q) < length (ahead r)
nearer {r} {q} l on =
    let a = length-drop r.at r.text.now in
    let b = length-drop q.at q.text.now in
    let e : length q.text.now ≡ length r.text.now = ap length l.text in
    let w = q.inside.within in
    omega arith
