-- Where the fault of a text is: the first byte with which no list text can go on, or the length where the text ends too soon. Assumes nothing.
use Rattle.std.specs.Prelude.{◌≡◌, ℕ, suc, ◌<◌, ◌≤◌, ◌⊎◌, List, ◌++◌, length, take}
use Rattle.list_text.specs.Grammar.{Listing, Says}

-- some list text begins with these bytes
abbrev pub Begins : List ℕ → Type 0
Begins u = (v : List ℕ) × (l : Listing) × Says (u ++ v) l

-- the bytes before p begin a list text, those up to and with p (where there is a byte p) do not, and the text itself is none
pub record FaultAt (t : List ℕ) (p : ℕ) : Type 0 where
  pub within : p ≤ length t
  pub before : Begins (take p t)
  pub here : p < length t → Begins (take (suc p) t) → ⊥
  pub none : (l : Listing) → Says t l → ⊥

-- the longest text that is read
abbrev pub longest_text : ℕ
longest_text = 65536

-- a place in a text that is not too long
pub record Inside (t : List ℕ) (p : ℕ) : Type 0 where
  pub within : p ≤ length t
  pub short : length t ≤ longest_text

-- why a text is turned away, and with which place: it is too long, or has a fault there
abbrev pub TurnedAway : List ℕ → ℕ → Type 0
TurnedAway t p = ((longest_text < length t) × (p ≡ longest_text)) ⊎ ((length t ≤ longest_text) × FaultAt t p)
