-- How the machine moves over a word: `E`, `Inf`, or one that is neither. Assumes nothing.
use Rattle.std.proofs.Common.{◌≡◌, ℕ, ◌+◌, ◌<◌, Bool, true, false, not, cond, eqb, List, [], ◌∷◌, ◌++◌, length, get_or, drop, Some, None, Option, sym, refl, ap, ◌∙◌, subst, arith, Bor}
use Rattle.std.proofs.lemmas.Bool.{cond-true, cond-false, ne_eqb, eqb-true, both_ways}
use Rattle.std.proofs.lemmas.Bool.Decides.{nat_tests}
use Rattle.spans.specs.declared.minutes.Minutes.{Minutes}
use Rattle.spans.specs.MinuteKind.{minutes}
use Rattle.list_text.specs.declared.token.Mark.{Mark}
use Rattle.list_text.specs.declared.token.Mark.TheVariants.{Open}
use Rattle.list_text.specs.declared.token.Token.{Token}
use Rattle.list_text.specs.declared.token.Token.TheVariants.{Bracket, Number, Word, Stray, Finish}
use Rattle.list_text.specs.declared.token.Lexeme.{Lexeme}
use Rattle.list_text.specs.Grammar.{blank, byte, with_sign, AllOf}
use Rattle.list_text.specs.Lexing.{letter, Cut, Lexed, Unlike, Piece, fault_in}
use Rattle.list_text.specs.Machine.{State, expects, number, at_end, after_I, after_In, step, run, stuck}
use Rattle.list_text.specs.Reading.{ahead, Leads, Faults}
use Rattle.list_text.specs.declared.reader.Reader.{Reader}
use Rattle.list_text.proofs.Written.{end_waits}
use Rattle.list_text.proofs.Moves.{moves, halts, over_gap, goes, Wants, refuses, First, mark_class}

pub other_way : {a b : Bool} → a ≡ not b → not a ≡ b
other_way {a = true} {b = true} e = grind arith
other_way {a = true} {b = false} e = refl
other_way {a = false} {b = true} e = refl
other_way {a = false} {b = false} e = grind arith

letter_no_blank : (c : ℕ) → letter c ≡ true → blank c ≡ false
letter_no_blank c e = grind (arith, nat_tests)

letter_no_mark : (m : Mark) (c : ℕ) → letter c ≡ true → eqb c (byte m) ≡ false
letter_no_mark m c e = ne_eqb c (byte m) (λ i. both_ways true (sym e ∙ ap letter i ∙ (mark_class m).2) refl)

stuck_letter : (m : Mark) (k : State) (c p : ℕ) (u : List ℕ) → letter c ≡ true → run p (expects m k) (c ∷ u) ≡ stuck p
stuck_letter m k c p u e =
    halts (expects m k) c p u (cond-false (blank c) _ _ (letter_no_blank c e) ∙ cond-false (eqb c (byte m)) _ _ (letter_no_mark m c e))

-- what begins with no letter goes on neither with `n` nor with `f`
no_n : (k : State) (p : ℕ) (v : List ℕ) → Unlike letter v → run p (after_I k) v ≡ stuck p
no_n k p [] u = refl
no_n k p (c ∷ v) u = halts (after_I k) c p v (cond-false (eqb c 110) _ _ (grind (arith, nat_tests)))

no_f : (k : State) (p : ℕ) (v : List ℕ) → Unlike letter v → run p (after_In k) v ≡ stuck p
no_f k p [] u = refl
no_f k p (c ∷ v) u = halts (after_In k) c p v (cond-false (eqb c 102) _ _ (grind (arith, nat_tests)))

module _ (m : Mark) (k : Option Minutes → State) (v : List ℕ) (u : Unlike letter v) where
  behind_Inf : (w : List ℕ) (p : ℕ) → AllOf letter w → (w ≡ [] → ⊥) → run p (expects m (k None)) (w ++ v) ≡ stuck p
  behind_Inf [] p all some = absurd (some refl)
  behind_Inf (c ∷ w) p all some = stuck_letter m (k None) c p (w ++ v) all.0

  behind_In : (w : List ℕ) (p : ℕ) → AllOf letter w → (w ≡ 102 ∷ [] → ⊥)
      → run p (after_In (expects m (k None))) (w ++ v) ≡ stuck (p + cond (eqb (get_or w 0 0) 102) 1 0)
  behind_In [] p all other = no_f (expects m (k None)) p v u ∙ (let e : p ≡ p + 0 = omega arith in ap stuck e)
  behind_In (c ∷ w) p all other = go (eqb c 102) refl
    where
      go : (b : Bool) → eqb c 102 ≡ b → run p (after_In (expects m (k None))) (c ∷ (w ++ v)) ≡ stuck (p + cond b 1 0)
      go true t =
          moves (after_In (expects m (k None))) (expects m (k None)) c p (w ++ v) (cond-true (eqb c 102) _ _ t)
          ∙ behind_Inf w (p + 1) all.1 (λ e. other (let i = eqb-true c 102 t in cc))
      go false t = halts (after_In (expects m (k None))) c p (w ++ v) (cond-false (eqb c 102) _ _ t) ∙ (let e : p ≡ p + 0 = omega arith in ap stuck e)

  behind_I : (w : List ℕ) (p : ℕ) → AllOf letter w → (w ≡ 110 ∷ 102 ∷ [] → ⊥)
      → run p (after_I (expects m (k None))) (w ++ v) ≡ stuck (p + cond (eqb (get_or w 0 0) 110) (cond (eqb (get_or w 1 0) 102) 2 1) 0)
  behind_I [] p all other = no_n (expects m (k None)) p v u ∙ (let e : p ≡ p + 0 = omega arith in ap stuck e)
  behind_I (c ∷ w) p all other = go (eqb c 110) refl
    where
      one_on : (b : Bool) → (p + 1) + cond b 1 0 ≡ p + cond b 2 1
      one_on true = omega arith
      one_on false = omega arith

      go : (b : Bool) → eqb c 110 ≡ b → run p (after_I (expects m (k None))) (c ∷ (w ++ v)) ≡ stuck (p + cond b (cond (eqb (get_or w 0 0) 102) 2 1) 0)
      go true t =
          moves (after_I (expects m (k None))) (after_In (expects m (k None))) c p (w ++ v) (cond-true (eqb c 110) _ _ t)
          ∙ behind_In w (p + 1) all.1 (λ e. other (let i = eqb-true c 110 t in cc)) ∙ ap stuck (one_on (eqb (get_or w 0 0) 102))
      go false t = halts (after_I (expects m (k None))) c p (w ++ v) (cond-false (eqb c 110) _ _ t) ∙ (let e : p ≡ p + 0 = omega arith in ap stuck e)

  other_word : (w : List ℕ) (p : ℕ) → AllOf letter w → 0 < length w → (w ≡ 69 ∷ [] → ⊥) → (w ≡ 73 ∷ 110 ∷ 102 ∷ [] → ⊥)
      → run p (at_end (λ o. expects m (k o))) (w ++ v) ≡ stuck (p + fault_in w)
  other_word [] p all some no-E no-Inf = absurd (omega arith)
  other_word (c ∷ w) p all some no-E no-Inf =
      ap (λ (o : Option State). elim o [ None ↦ stuck p | Some j ↦ run (p + 1) j (w ++ v) ]) (cond-false (blank c) _ _ (letter_no_blank c all.0))
      ∙ go (eqb c 69) refl (eqb c 73) refl
    where
      inner : (b : Bool) (i : Bool) → (p + 1) + cond b (cond i 2 1) 0 ≡ p + cond b (cond i 3 2) 1
      inner true true = omega arith
      inner true false = omega arith
      inner false i = omega arith

      behind_E : (w : List ℕ) → AllOf letter w → (w ≡ [] → ⊥)
          → run (p + 1) (expects Open (number true (λ negative n. expects m (k (Some (minutes (with_sign negative n))))))) (w ++ v) ≡ stuck (p + 1)
      behind_E [] all some = absurd (some refl)
      behind_E (d ∷ w) all some = stuck_letter Open _ d (p + 1) (w ++ v) all.0

      go : (b : Bool) → eqb c 69 ≡ b → (i : Bool) → eqb c 73 ≡ i
          → elim (cond b (Some (expects Open (number true (λ negative n. expects m (k (Some (minutes (with_sign negative n)))))))) (cond i (Some (after_I (expects m (k None)))) None)) [ None ↦ stuck p | Some j ↦ run (p + 1) j (w ++ v) ]
          ≡ stuck (p + cond b 1 (cond i (cond (eqb (get_or w 0 0) 110) (cond (eqb (get_or w 1 0) 102) 3 2) 1) 0))
      go true t i s = behind_E w all.1 (λ e. no-E (let x = eqb-true c 69 t in cc))
      go false t true s =
          behind_I w (p + 1) all.1 (λ e. no-Inf (let x = eqb-true c 73 s in cc)) ∙ ap stuck (inner (eqb (get_or w 0 0) 110) (eqb (get_or w 1 0) 102))
      go false t false s = let e : p ≡ p + 0 = omega arith in ap stuck e

-- ---- the word that is there
module _ {r : Reader} {x : Lexeme} (h : Lexed r x) (w : Bor (List ℕ)) (is : x.token ≡ Word w) where
  pub word_piece : Piece (λ c. letter c ≡ true) letter r.text.now w.now x.place x.after.at
  word_piece = (subst (λ y. Cut r.text.now x.place y x.after.at) is h.token).1

  to_word : (j : Option Minutes → State) → run r.at (at_end j) (ahead r) ≡ run x.place (at_end j) (w.now ++ drop x.after.at r.text.now)
  to_word j = over_gap _ end_waits r.text.now r.at x.place h.gap ∙ ap (run x.place (at_end j)) word_piece.whole

  pub is_Inf : (j : Option Minutes → State) → w.now ≡ 73 ∷ 110 ∷ 102 ∷ [] → Leads r (at_end j) x.after (j None)
  is_Inf j e =
      let l : length w.now ≡ 3 = ap length e in
      let long : x.after.at ≡ x.place + length w.now = word_piece.long in
      let i : ((x.place + 1) + 1) + 1 ≡ x.after.at = omega arith in
      goes h (at_end j) _ (to_word j ∙ ap (λ y. run x.place (at_end j) (y ++ drop x.after.at r.text.now)) e ∙ ap (λ i. run i (j None) (drop x.after.at r.text.now)) i)

  pub is_E : (j : Option Minutes → State) → w.now ≡ 69 ∷ [] → Leads r (at_end j) x.after (expects Open (number true (λ negative n. j (Some (minutes (with_sign negative n))))))
  is_E j e =
      let l : length w.now ≡ 1 = ap length e in
      let long : x.after.at ≡ x.place + length w.now = word_piece.long in
      let i : x.place + 1 ≡ x.after.at = omega arith in
      goes h (at_end j) _ (to_word j ∙ ap (λ y. run x.place (at_end j) (y ++ drop x.after.at r.text.now)) e
      ∙ ap (λ i. run i (expects Open (number true (λ negative n. j (Some (minutes (with_sign negative n)))))) (drop x.after.at r.text.now)) i)

  pub is_other : (m : Mark) (k : Option Minutes → State) → (w.now ≡ 69 ∷ [] → ⊥) → (w.now ≡ 73 ∷ 110 ∷ 102 ∷ [] → ⊥)
      → Faults r (at_end (λ o. expects m (k o))) (x.place + fault_in w.now)
  is_other m k no-E no-Inf =
      let g = word_piece in
      record {
        faults = to_word (λ o. expects m (k o))
            ∙ other_word m k (drop x.after.at r.text.now) g.stops w.now x.place (subst (AllOf letter) (sym g.is) (g.begins, g.pass)) (subst (λ y. 0 < length y) (sym g.is) (omega arith)) no-E no-Inf;
      }

end_wants : {k : Option Minutes → State} → Wants (at_end k)
end_wants = record { waits = end_waits; not_yet = λ p. refl }

pub not_word : {r : Reader} {x : Lexeme} → Lexed r x → (j : Option Minutes → State) → ((w : Bor (List ℕ)) → x.token ≡ Word w → ⊥) → Faults r (at_end j) x.place
not_word {r} {x} h j other = refuses h (at_end j) end_wants (untaken x.token other)
  where
    no_letter : (c : ℕ) → blank c ≡ false → letter c ≡ false → step (at_end j) c ≡ None
    no_letter c b l = cond-false (blank c) _ _ b ∙ cond-false (eqb c 69) _ _ (grind (arith, nat_tests)) ∙ cond-false (eqb c 73) _ _ (grind (arith, nat_tests))

    untaken : (y : Token) → ((w : Bor (List ℕ)) → y ≡ Word w → ⊥) → (c : ℕ) → First y c → blank c ≡ false → step (at_end j) c ≡ None
    untaken (Bracket m w) other c f b = no_letter c b (ap letter f ∙ (mark_class m).2)
    untaken (Number w) other c f b = no_letter c b (grind (arith, nat_tests))
    untaken (Word w) other c f b = absurd (other w refl)
    untaken (Stray w) other c f b = no_letter c b f.letter
    untaken Finish other c f b = absurd f
