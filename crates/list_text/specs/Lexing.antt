-- How a text is cut into tokens. Said by private functions alone. Assumes nothing.
use Rattle.std.specs.Prelude.{◌≡◌, ℕ, ◌+◌, ◌<◌, ◌≤◌, Bool, true, false, cond, ◌&&◌, ◌||◌, List, [], ◌∷◌, ◌++◌, length, drop, Some, None, Option, ◌==◌, ◌≢◌, nat_le, slice_index}
use Rattle.list_text.specs.declared.token.Mark.{Mark}
use Rattle.list_text.specs.declared.token.Token.{Token}
use Rattle.list_text.specs.declared.token.Token.TheVariants.{Bracket, Number, Word, Stray, Finish}
use Rattle.list_text.specs.declared.token.Lexeme.{Lexeme}
use Rattle.list_text.specs.declared.reader.Reader.{Reader}
use Rattle.list_text.specs.Grammar.{Over, AllOf, blank, digit, byte}

abbrev pub letter : ℕ → Bool
letter c = (nat_le 65 c && nat_le c 90) || (nat_le 97 c && nat_le c 122)

-- from p to q all bytes pass the test, and the next one does not
pub record Passed (P : ℕ → Bool) (t : List ℕ) (p q : ℕ) : Type 0 where
  pub from : p ≤ q
  pub within : q ≤ length t
  pub all : Over P (drop p t) (drop q t)
  pub stops : q < length t → P (slice_index t q) ≡ false

-- a byte with which no token begins
pub record Odd (c : ℕ) : Type 0 where
  pub mark : (m : Mark) → byte m ≢ c
  pub dash : c ≡ 45 → ⊥
  pub digit : digit c ≡ false
  pub letter : letter c ≡ false
  pub blank : blank c ≡ false

-- a text that does not go on with a byte that passes the test
abbrev pub Unlike : (ℕ → Bool) → List ℕ → Type 0
Unlike P [] = Unit {0}
Unlike P (c ∷ u) = P c ≡ false

-- from p to q: one byte, and then all that pass the test
pub record Piece (First : ℕ → Type 0) (P : ℕ → Bool) (t w : List ℕ) (p q : ℕ) : Type 0 where
  pub first : ℕ
  pub others : List ℕ
  pub is : w ≡ first ∷ others
  pub begins : First first
  pub pass : AllOf P others
  pub whole : drop p t ≡ w ++ drop q t
  pub stops : Unlike P (drop q t)
  pub within : q ≤ length t
  pub long : q ≡ p + length w

abbrev pub Cut : List ℕ → ℕ → Token → ℕ → Type 0
Cut t p (Bracket m w) q = (p < length t) × (q ≡ p + 1) × (slice_index t p ≡ byte m) × (w.now ≡ slice_index t p ∷ [])
Cut t p (Number w) q = (p < length t) × Piece (λ c. (c == 45 || digit c) ≡ true) digit t w.now p q
Cut t p (Word w) q = (p < length t) × Piece (λ c. letter c ≡ true) letter t w.now p q
Cut t p (Stray w) q = (p < length t) × (q ≡ p + 1) × Odd (slice_index t p) × (w.now ≡ slice_index t p ∷ [])
Cut t p Finish q = (p ≡ length t) × (q ≡ p)

-- the next token from r on
pub record Lexed (r : Reader) (x : Lexeme) : Type 0 where
  pub gap : Passed blank r.text.now r.at x.place
  pub token : Cut r.text.now x.place x.token x.after.at
  pub text : x.after.text.now ≡ r.text.now
  pub onward : r.at ≤ x.after.at

abbrev pub mark_of : Token → Option Mark
mark_of (Bracket m w) = Some m
mark_of (Number w) = None
mark_of (Word w) = None
mark_of (Stray w) = None
mark_of Finish = None

-- how far into a word that is neither `E` nor `Inf` one can read
abbrev pub fault_in : List ℕ → ℕ
fault_in w =
    cond (slice_index w 0 == 69) 1
    (cond (slice_index w 0 == 73) (cond (slice_index w 1 == 110) (cond (slice_index w 2 == 102) 3 2) 1) 0)
