-- How the machine moves over a number, and the value of its digits. Assumes nothing.
use Rattle.std.proofs.Common.{◌≡◌, ℕ, zero, suc, ◌+◌, ◌-◌, ◌*◌, ◌^◌, ◌<◌, ◌≤◌, Bool, true, false, cond, ◌||◌, eqb, ◌⊎◌, List, [], ◌∷◌, ◌++◌, length, get_or, take, drop, Some, None, Option, sym, refl, ap, ◌∙◌, subst, inl, inr, ⊎_elim, pow-suc, add-one, arith, lit<, Bor}
use native.Mathlib.Nat.{pow-le-pow_right}
use Rattle.std.proofs.lemmas.List.{take_more, take_all}
use Rattle.std.proofs.lemmas.Bool.{cond-true, cond-false, ne_eqb, or_cases, both_ways, leb-true, and_parts}
use Rattle.std.proofs.lemmas.Bool.Decides.{nat_tests}
use Rattle.list_text.specs.declared.token.Mark.TheVariants.{Close}
use Rattle.list_text.specs.declared.token.Token.{Token}
use Rattle.list_text.specs.declared.token.Token.TheVariants.{Bracket, Number, Word, Stray, Finish}
use Rattle.list_text.specs.declared.token.Lexeme.{Lexeme}
use Rattle.list_text.specs.Grammar.{blank, digit, AllOf, Numeral, written}
use Rattle.list_text.specs.Lexing.{Cut, Lexed, Unlike, Piece}
use Rattle.list_text.specs.Machine.{State, expects, number, after_dash, in_digits, one_digit, mark_after, step, run, stuck}
use Rattle.list_text.specs.Reading.{ahead, Leads, Faults}
use Rattle.list_text.specs.declared.reader.Reader.{Reader}
use Rattle.list_text.proofs.Written.{number_waits}
use Rattle.list_text.proofs.Moves.{moves, halts, over_gap, goes, Wants, refuses, First, mark_class}

-- ---- the value of digits, one by one
written_append : (xs ys : List ℕ) (n : ℕ) → written n (xs ++ ys) ≡ written (written n xs) ys
written_append [] ys n = refl
written_append (x ∷ xs) ys n = written_append xs ys (n * 10 + (x - 48))

pub written_more : (ds : List ℕ) (i : ℕ) → i < length ds → written 0 (take (i + 1) ds) ≡ written 0 (take i ds) * 10 + (get_or ds i 0 - 48)
written_more ds i lt = ap (written 0) (take_more ds i 0 lt) ∙ written_append (take i ds) (get_or ds i 0 ∷ []) 0

all_at : (P : ℕ → Bool) (ds : List ℕ) (i : ℕ) → AllOf P ds → i < length ds → P (get_or ds i 0) ≡ true
all_at P [] i all lt = absurd (omega arith)
all_at P (c ∷ cs) zero all lt = all.0
all_at P (c ∷ cs) (suc i) all lt = all_at P cs i all.1 (omega arith)

pub digit_at : (ds : List ℕ) (i : ℕ) → AllOf digit ds → i < length ds → (48 ≤ get_or ds i 0) × (get_or ds i 0 ≤ 57)
digit_at ds i all lt =
    let h = and_parts _ _ (all_at digit ds i all lt) in
    (leb-true 48 (get_or ds i 0) h.0, leb-true (get_or ds i 0) 57 h.1)

pub digits_more : (n i d : ℕ) → n < 10 ^ i → d < 10 → n * 10 + d < 10 ^ (i + 1)
digits_more n i d lt small = rw (add-one, pow-suc) (omega arith)

pub ten_to : (i : ℕ) → i ≤ 12 → 10 ^ i ≤ 10 ^ 12
ten_to i le = pow-le-pow_right (lit< {m = 0} {n = 10} tt) le

-- ---- over digits
-- where no digit follows, a number is at its end
leave_digits : (sign : Bool) (left : ℕ) (negative : Bool) (n : ℕ) (k : Bool → ℕ → State) (v : List ℕ) (p : ℕ) → Unlike digit v
    → run p (in_digits sign left negative n k) v ≡ run p (expects (mark_after sign) (k negative n)) v
leave_digits sign left negative n k [] p h = refl
leave_digits sign left negative n k (c ∷ u) p h =
    ap (λ (o : Option State). elim o [ None ↦ stuck p | Some j ↦ run (p + 1) j u ]) (cond-false (digit c) _ _ h)

one_step : (sign : Bool) (left : ℕ) (negative : Bool) (n : ℕ) (k : Bool → ℕ → State) (c : ℕ) → digit c ≡ true
    → step (in_digits sign left negative n k) c ≡ one_digit left (λ i. in_digits sign i negative (n * 10 + (c - 48)) k)
one_step sign left negative n k c e = cond-true (digit c) _ _ e

over_digits : (sign negative : Bool) (k : Bool → ℕ → State) (v ds : List ℕ) (left n p : ℕ) → AllOf digit ds → length ds ≤ left → Unlike digit v
    → run p (in_digits sign left negative n k) (ds ++ v) ≡ run (p + length ds) (expects (mark_after sign) (k negative (written n ds))) v
over_digits sign negative k v [] left n p all few h =
    leave_digits sign left negative n k v p h
    ∙ (let e : p ≡ p + 0 = omega arith in ap (λ i. run i (expects (mark_after sign) (k negative n)) v) e)
over_digits sign negative k v (c ∷ cs) zero n p all few h = absurd (omega arith)
over_digits sign negative k v (c ∷ cs) (suc left) n p all few h =
    moves (in_digits sign (suc left) negative n k) (in_digits sign left negative (n * 10 + (c - 48)) k) c p (cs ++ v) (one_step sign (suc left) negative n k c all.0)
    ∙ over_digits sign negative k v cs left (n * 10 + (c - 48)) (p + 1) all.1 (omega arith) h
    ∙ (let e : (p + 1) + length cs ≡ p + suc (length cs) = omega arith in ap (λ i. run i (expects (mark_after sign) (k negative (written (n * 10 + (c - 48)) cs))) v) e)

too_many : (sign negative : Bool) (k : Bool → ℕ → State) (v ds : List ℕ) (left n p : ℕ) → AllOf digit ds → left < length ds
    → run p (in_digits sign left negative n k) (ds ++ v) ≡ stuck (p + left)
too_many sign negative k v [] left n p all long = absurd (omega arith)
too_many sign negative k v (c ∷ cs) zero n p all long =
    halts (in_digits sign 0 negative n k) c p (cs ++ v) (one_step sign 0 negative n k c all.0) ∙ (let e : p ≡ p + 0 = omega arith in ap stuck e)
too_many sign negative k v (c ∷ cs) (suc left) n p all long =
    moves (in_digits sign (suc left) negative n k) (in_digits sign left negative (n * 10 + (c - 48)) k) c p (cs ++ v) (one_step sign (suc left) negative n k c all.0)
    ∙ too_many sign negative k v cs left (n * 10 + (c - 48)) (p + 1) all.1 (omega arith)
    ∙ (let e : (p + 1) + left ≡ p + suc left = omega arith in ap stuck e)

-- a state in which a number's first digit may come
abbrev Enters : State → Bool → Bool → (Bool → ℕ → State) → Type 0
Enters s sign negative k = (c : ℕ) → digit c ≡ true → step s c ≡ Some (in_digits sign 11 negative (0 * 10 + (c - 48)) k)

whole_number : (s : State) (sign negative : Bool) (k : Bool → ℕ → State) → Enters s sign negative k → (v ds : List ℕ) (n p : ℕ) → Numeral n ds → Unlike digit v
    → run p s (ds ++ v) ≡ run (p + length ds) (expects (mark_after sign) (k negative n)) v
whole_number s sign negative k go v [] n p h u = absurd (omega (arith, h.some))
whole_number s sign negative k go v (c ∷ cs) n p h u =
    moves s (in_digits sign 11 negative (0 * 10 + (c - 48)) k) c p (cs ++ v) (go c h.digits.0)
    ∙ over_digits sign negative k v cs 11 (0 * 10 + (c - 48)) (p + 1) h.digits.1 (omega (arith, h.few)) u
    ∙ (let i : (p + 1) + length cs ≡ p + suc (length cs) = omega arith in ap (λ i. run i (expects (mark_after sign) (k negative (written (0 * 10 + (c - 48)) cs))) v) i)
    ∙ ap (λ x. run (p + suc (length cs)) (expects (mark_after sign) (k negative x)) v) h.writes

long_number : (s : State) (sign negative : Bool) (k : Bool → ℕ → State) → Enters s sign negative k → (v ds : List ℕ) (p : ℕ) → AllOf digit ds → 12 < length ds
    → run p s (ds ++ v) ≡ stuck (p + 12)
long_number s sign negative k go v [] p all long = absurd (omega arith)
long_number s sign negative k go v (c ∷ cs) p all long =
    moves s (in_digits sign 11 negative (0 * 10 + (c - 48)) k) c p (cs ++ v) (go c all.0)
    ∙ too_many sign negative k v cs 11 (0 * 10 + (c - 48)) (p + 1) all.1 (omega arith)
    ∙ (let i : (p + 1) + 11 ≡ p + 12 = omega arith in ap stuck i)

digit_no_blank : (c : ℕ) → digit c ≡ true → blank c ≡ false
digit_no_blank c e = grind (arith, nat_tests)

number_enters : (sign : Bool) (k : Bool → ℕ → State) → Enters (number sign k) sign false k
number_enters sign k c e = cond-false (blank c) _ _ (digit_no_blank c e) ∙ cond-true (digit c) _ _ e

dash_enters : (k : Bool → ℕ → State) → Enters (after_dash k) true true k
dash_enters k c e = cond-true (digit c) _ _ e

-- ---- what is no number
no_number : (sign : Bool) (k : Bool → ℕ → State) (c : ℕ) → blank c ≡ false → digit c ≡ false → (sign ≡ false) ⊎ (eqb c 45 ≡ false) → step (number sign k) c ≡ None
no_number sign k c b d h = cond-false (blank c) _ _ b ∙ cond-false (digit c) _ _ d ∙ go sign h
  where
    go : (sign : Bool) → (sign ≡ false) ⊎ (eqb c 45 ≡ false) → cond sign (cond (eqb c 45) (Some (after_dash k)) None) None ≡ None
    go false h = refl
    go true (inl e) = absurd (both_ways true e refl)
    go true (inr e) = cond-false (eqb c 45) _ _ e

number_wants : {sign : Bool} {k : Bool → ℕ → State} → Wants (number sign k)
number_wants = record { waits = number_waits; not_yet = λ p. refl }

pub not_number : {r : Reader} {x : Lexeme} → Lexed r x → (sign : Bool) (k : Bool → ℕ → State) → ((w : Bor (List ℕ)) → x.token ≡ Number w → ⊥)
    → Faults r (number sign k) x.place
not_number {r} {x} h sign k other = refuses h (number sign k) number_wants (untaken x.token other)
  where
    untaken : (y : Token) → ((w : Bor (List ℕ)) → y ≡ Number w → ⊥) → (c : ℕ) → First y c → blank c ≡ false → step (number sign k) c ≡ None
    untaken (Bracket m w) other c f b = no_number sign k c b (ap digit f ∙ (mark_class m).1) (inr (ap (λ x. eqb x 45) f ∙ (mark_class m).3))
    untaken (Number w) other c f b = absurd (other w refl)
    untaken (Word w) other c f b = no_number sign k c b (grind (arith, nat_tests)) (inr (grind (arith, nat_tests)))
    untaken (Stray w) other c f b = no_number sign k c b f.digit (inr (ne_eqb c 45 f.dash))
    untaken Finish other c f b = absurd f

-- ---- the number that is there
abbrev pub NumberPiece : List ℕ → List ℕ → ℕ → ℕ → Type 0
NumberPiece t w p q = Piece (λ c. (eqb c 45 || digit c) ≡ true) digit t w p q

-- `&w[1..]`
pub rest_is : (c : ℕ) (ds w : List ℕ) → w ≡ c ∷ ds → take (length w - 1) (drop 1 w) ≡ ds
rest_is c ds w e = ap (λ w. take (length w - 1) (drop 1 w)) e ∙ take_all (suc (length ds) - 1) ds (omega arith)

-- why digits write no number, and where
abbrev pub NoNumber : List ℕ → ℕ → ℕ → Type 0
NoNumber ds p e = ((length ds ≡ 0) × (e ≡ p)) ⊎ ((12 < length ds) × (e ≡ p + 12))

module _ {r : Reader} {x : Lexeme} (h : Lexed r x) (w : Bor (List ℕ)) (is : x.token ≡ Number w) where
  pub number_piece : NumberPiece r.text.now w.now x.place x.after.at
  number_piece = (subst (λ y. Cut r.text.now x.place y x.after.at) is h.token).1

  first_is : get_or w.now 0 0 ≡ number_piece.first
  first_is = ap (λ w. get_or w 0 0) number_piece.is

  pub all_digits : (get_or w.now 0 0 ≡ 45 → ⊥) → AllOf digit w.now
  all_digits no-dash =
      let g = number_piece in
      let n : eqb g.first 45 ≡ false = ne_eqb g.first 45 (λ e. no-dash (first_is ∙ e)) in
      subst (AllOf digit) (sym g.is)
      (⊎_elim (λ e. absurd (both_ways _ n e)) (λ e. e) (or_cases (eqb g.first 45) (digit g.first) g.begins), g.pass)

  to_number : (sign : Bool) (k : Bool → ℕ → State) → run r.at (number sign k) (ahead r) ≡ run x.place (number sign k) (w.now ++ drop x.after.at r.text.now)
  to_number sign k = over_gap _ number_waits r.text.now r.at x.place h.gap ∙ ap (run x.place (number sign k)) number_piece.whole

  pub plain : (sign : Bool) (k : Bool → ℕ → State) (n : ℕ) → Numeral n w.now → Leads r (number sign k) x.after (expects (mark_after sign) (k false n))
  plain sign k n d =
      let g = number_piece in
      goes h (number sign k) _ (to_number sign k
      ∙ whole_number (number sign k) sign false k (number_enters sign k) (drop x.after.at r.text.now) w.now n x.place d g.stops
      ∙ ap (λ i. run i (expects (mark_after sign) (k false n)) (drop x.after.at r.text.now)) (sym g.long))

  pub plain_fault : (sign : Bool) (k : Bool → ℕ → State) (e : ℕ) → AllOf digit w.now → NoNumber w.now x.place e → Faults r (number sign k) e
  plain_fault sign k e all (inl (z, _)) =
      let l : length w.now ≡ suc (length number_piece.others) = ap length number_piece.is in absurd (omega arith)
  plain_fault sign k e all (inr (long, at)) = record {
    faults = to_number sign k ∙ long_number (number sign k) sign false k (number_enters sign k) (drop x.after.at r.text.now) w.now x.place all long ∙ ap stuck (sym at);
  }

  -- over the dash
  over_dash : (k : Bool → ℕ → State) → get_or w.now 0 0 ≡ 45 → run r.at (number true k) (ahead r) ≡ run (x.place + 1) (after_dash k) (number_piece.others ++ drop x.after.at r.text.now)
  over_dash k d =
      let g = number_piece in
      let e : w.now ≡ 45 ∷ g.others = g.is ∙ ap (λ c. c ∷ g.others) (sym first_is ∙ d) in
      to_number true k ∙ ap (λ y. run x.place (number true k) (y ++ drop x.after.at r.text.now)) e
      ∙ moves (number true k) (after_dash k) 45 x.place (g.others ++ drop x.after.at r.text.now) refl

  pub dash_fault : (sign : Bool) (k : Bool → ℕ → State) → sign ≡ false → get_or w.now 0 0 ≡ 45 → Faults r (number sign k) x.place
  dash_fault sign k unsigned d =
      let g = number_piece in
      let f : g.first ≡ 45 = sym first_is ∙ d in
      record {
        faults = to_number sign k ∙ ap (λ y. run x.place (number sign k) (y ++ drop x.after.at r.text.now)) g.is
            ∙ halts (number sign k) g.first x.place (g.others ++ drop x.after.at r.text.now) (no_number sign k g.first (ap blank f) (ap digit f) (inl unsigned));
      }

  pub negative : (k : Bool → ℕ → State) (n : ℕ) (ds : List ℕ) → get_or w.now 0 0 ≡ 45 → ds ≡ number_piece.others → Numeral n ds
      → Leads r (number true k) x.after (expects Close (k true n))
  negative k n ds d e numeral =
      let g = number_piece in
      let l : length w.now ≡ suc (length g.others) = ap length g.is in
      let long : x.after.at ≡ x.place + length w.now = g.long in
      let i : (x.place + 1) + length g.others ≡ x.after.at = omega arith in
      goes h (number true k) _ (over_dash k d
      ∙ whole_number (after_dash k) true true k (dash_enters k) (drop x.after.at r.text.now) g.others n (x.place + 1) (subst (Numeral n) e numeral) g.stops
      ∙ ap (λ i. run i (expects Close (k true n)) (drop x.after.at r.text.now)) i)

  pub negative_fault : (k : Bool → ℕ → State) (e : ℕ) (ds : List ℕ) → get_or w.now 0 0 ≡ 45 → ds ≡ number_piece.others → NoNumber ds (x.place + 1) e
      → Faults r (number true k) e
  negative_fault k e ds d same (inl (z, at)) =
      let g = number_piece in
      record {
        faults = over_dash k d ∙ ap (run (x.place + 1) (after_dash k)) (ap (λ y. y ++ drop x.after.at r.text.now) (empty g.others (ap length (sym same) ∙ z)))
            ∙ no_digit (drop x.after.at r.text.now) g.stops ∙ ap stuck (sym at);
      }
    where
      empty : (l : List ℕ) → length l ≡ 0 → l ≡ []
      empty [] e = refl
      empty (c ∷ l) e = absurd (omega arith)

      no_digit : (v : List ℕ) → Unlike digit v → run (x.place + 1) (after_dash k) v ≡ stuck (x.place + 1)
      no_digit [] u = refl
      no_digit (c ∷ v) u = halts (after_dash k) c (x.place + 1) v (cond-false (digit c) _ _ u)
  negative_fault k e ds d same (inr (long, at)) =
      let g = number_piece in
      record {
        faults = over_dash k d
            ∙ long_number (after_dash k) true true k (dash_enters k) (drop x.after.at r.text.now) g.others (x.place + 1) g.pass (subst (λ y. 12 < length y) same long)
            ∙ ap stuck (sym at);
      }
