-- What list text is. Assumes nothing.
-- A part of a text is a relation between the bytes from where it begins and those behind it: the part is written out, then comes the rest.
-- The grammar takes a style: what may stand between tokens, and how numbers may be written. Reading is in the free style, writing in the compact one.
--     Text s l u v    u is list text that says l, in the style s, and then v
--     Says t l        t is list text, in the free style, and says l
--     Denotes t N     t is list text of the network N
use Rattle.std.specs.Prelude.{◌≡◌, ℕ, ◌+◌, ◌-◌, ◌*◌, ◌≤◌, Bool, true, false, cond, ◌&&◌, ◌||◌, List, [], ◌∷◌, ◌++◌, length, ℤ, pos, neg_ℤ, Some, None, Option, ◌==◌, nat_le}
use Rattle.spans.specs.declared.minutes.Minutes.{Minutes}
use Rattle.networks.specs.declared.window.Window.{Window}
use Rattle.networks.specs.Network.{Condition, Network}
use Rattle.list_text.specs.declared.token.Mark.{Mark}
use Rattle.list_text.specs.declared.token.Mark.TheVariants.{Open, Close, ListOpen, ListClose, Comma, Semicolon}

abbrev pub Part : Type 1
Part = List ℕ → List ℕ → Type 0

infixr 20 ◌⨾◌
-- one part and then another
abbrev pub ◌⨾◌ : Part → Part → Part
◌⨾◌ f g u w = (v : List ℕ) × f u v × g v w

abbrev pub Nothing : Part
Nothing u v = u ≡ v

-- ---- bytes
-- space, tab, line feed, carriage return
abbrev pub blank : ℕ → Bool
blank c = ((c == 32 || c == 9) || c == 10) || c == 13

abbrev pub digit : ℕ → Bool
digit c = nat_le 48 c && nat_le c 57

abbrev pub byte : Mark → ℕ
byte Open = 40
byte Close = 41
byte ListOpen = 91
byte ListClose = 93
byte Comma = 44
byte Semicolon = 59

-- any number of bytes that pass a test
pub data Over (P : ℕ → Bool) : List ℕ → List ℕ → Type 0 where
  none : {u : List ℕ} → Over P u u
  more : {u v : List ℕ} → (c : ℕ) → P c ≡ true → Over P u v → Over P (c ∷ u) v

abbrev pub Blanks : Part
Blanks = Over blank

abbrev pub AllOf : (ℕ → Bool) → List ℕ → Type 0
AllOf P [] = Unit {0}
AllOf P (c ∷ cs) = (P c ≡ true) × AllOf P cs

-- ---- numbers
-- the number that digits write behind those that wrote n
abbrev pub written : ℕ → List ℕ → ℕ
written n [] = n
written n (c ∷ cs) = written (n * 10 + (c - 48)) cs

-- 1 to 12 digits that write n
pub record Numeral (n : ℕ) (ds : List ℕ) : Type 0 where
  pub some : 1 ≤ length ds
  pub few : length ds ≤ 12
  pub digits : AllOf digit ds
  pub writes : written 0 ds ≡ n

-- the shortest of them
pub record Shortest (n : ℕ) (ds : List ℕ) : Type 0 where
  pub numeral : Numeral n ds
  pub shortest : (es : List ℕ) → Numeral n es → length ds ≤ length es

abbrev pub with_sign : Bool → ℕ → ℤ
with_sign false n = pos n
with_sign true n = neg_ℤ (pos n)

-- a minus, or nothing
abbrev pub dash : Bool → List ℕ
dash false = []
dash true = 45 ∷ []

-- a natural number, with a minus directly before it or none
abbrev pub Signed : ℤ → List ℕ → Type 0
Signed z bs = (negative : Bool) × (n : ℕ) × (ds : List ℕ) × Numeral n ds × (with_sign negative n ≡ z) × (bs ≡ dash negative ++ ds)

-- the shortest, with a minus only below zero
abbrev pub SignedShortest : ℤ → List ℕ → Type 0
SignedShortest z bs = (negative : Bool) × (n : ℕ) × (ds : List ℕ) × Shortest n ds × (with_sign negative n ≡ z) × (bs ≡ dash negative ++ ds) × (negative ≡ true → 1 ≤ n)

-- ---- styles
pub record Style : Type 1 where
  pub gap : Part
  pub natural : ℕ → List ℕ → Type 0
  pub integer : ℤ → List ℕ → Type 0

-- blanks between tokens, and any numeral
abbrev pub free : Style
free = record { gap = Blanks; natural = Numeral; integer = Signed }

-- nothing between tokens, and the shortest numeral
abbrev pub compact : Style
compact = record { gap = Nothing; natural = Shortest; integer = SignedShortest }

-- ---- the text
-- what a list text says: the two numbers of its header, and its conditions
pub record Listing : Type 0 where
  pub first : ℕ
  pub second : ℕ
  pub conditions : List (Condition Minutes)

module _ (s : Style) where
  -- a gap, and then just these bytes
  abbrev pub Token : List ℕ → Part
  Token w u v = s.gap u (w ++ v)

  abbrev pub One : Mark → Part
  One m = Token (byte m ∷ [])

  abbrev pub Natural : ℕ → Part
  Natural n u v = (ds : List ℕ) × s.natural n ds × Token ds u v

  abbrev pub Integer : ℤ → Part
  Integer z u v = (bs : List ℕ) × s.integer z bs × Token bs u v

  -- `E(`number`)`, or `Inf` for a missing end
  abbrev pub End : Option Minutes → Part
  End (Some a) = Token (69 ∷ []) ⨾ One Open ⨾ Integer a.count ⨾ One Close
  End None = Token (73 ∷ 110 ∷ 102 ∷ [])

  abbrev pub OneWindow : Window Minutes → Part
  OneWindow w = One Open ⨾ End w.low ⨾ One Comma ⨾ End w.high ⨾ One Close

  -- windows, each after a semicolon
  abbrev pub MoreWindows : List (Window Minutes) → Part
  MoreWindows [] = Nothing
  MoreWindows (w ∷ ws) = One Semicolon ⨾ OneWindow w ⨾ MoreWindows ws

  -- windows split by semicolons
  abbrev pub Windows : List (Window Minutes) → Part
  Windows [] = Nothing
  Windows (w ∷ ws) = OneWindow w ⨾ MoreWindows ws

  abbrev pub OneRow : Condition Minutes → Part
  OneRow c =
      One Open ⨾ Natural c.from ⨾ One Comma ⨾ Natural c.to ⨾ One Comma
      ⨾ One ListOpen ⨾ Windows c.windows ⨾ One ListClose ⨾ One Close

  -- rows, each after a semicolon
  abbrev pub AllRows : List (Condition Minutes) → Part
  AllRows [] = Nothing
  AllRows (c ∷ cs) = One Semicolon ⨾ OneRow c ⨾ AllRows cs

  abbrev pub Header : ℕ → ℕ → Part
  Header n m = One Open ⨾ Natural n ⨾ One Comma ⨾ Natural m ⨾ One Comma ⨾ One ListOpen ⨾ One ListClose ⨾ One Close

  abbrev pub Text : Listing → Part
  Text l = One ListOpen ⨾ Header l.first l.second ⨾ AllRows l.conditions ⨾ One ListClose ⨾ s.gap

abbrev pub Says : List ℕ → Listing → Type 0
Says t l = Text free l t []

-- two unlike numbers in the header mean 0 points
abbrev pub network : Listing → Network Minutes
network l = record { points = cond (l.first == l.second) l.first 0; conditions = l.conditions }

abbrev pub Denotes : List ℕ → Network Minutes → Type 0
Denotes t N = (l : Listing) × Says t l × (network l ≡ N)
