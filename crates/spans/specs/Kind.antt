-- A kind of span: signed distances in time, whose sums and opposites are there only within a size. Assumes nothing.
--     Kind S           the operations of a kind
--     Laws S K         what every kind shows; every proof about networks rests on this alone
--     OnlyWithin S K   that no other sum and no other opposite is there; apart, since no proof about networks rests on it
use Rattle.std.specs.Prelude.{◌≡◌, ℕ, ◌+◌, ◌^◌, ◌≤◌, Bool, true, false, is_some, Some, Option, ◌≢◌}
use Rattle.std.specs.declared.cmp.Ordering.{Ordering}
use Rattle.std.specs.Ordering.{is_lt}

-- `less a b`: a is below b. A sum or an opposite that is not there is `None`.
pub record Kind (S : Type 0) : Type 0 where
  pub zero : S
  pub step : S
  pub size : S → ℕ
  pub less : S → S → Bool
  pub plus : S → S → Option S
  pub opposite : S → Option S

infix 40 ◌<⟨◌⟩◌
infix 40 ◌≤⟨◌⟩◌
-- below
abbrev pub ◌<⟨◌⟩◌ : {S : Type 0} → S → Kind S → S → Type 0
a <⟨ K ⟩ b = K.less a b ≡ true

-- not above
abbrev pub ◌≤⟨◌⟩◌ : {S : Type 0} → S → Kind S → S → Type 0
a ≤⟨ K ⟩ b = K.less b a ≡ false

-- the greatest size that the two parts of a sum have together, and that a span with an opposite has
abbrev pub reach : ℕ
reach = 2 ^ 42

module _ {S : Type 0} (K : Kind S) where
  -- exactly one of less, the same and greater
  pub data Compared (a b : S) : Type 0 where
    is_less : K.less a b ≡ true → (a ≢ b) → K.less b a ≡ false → Compared a b
    is_same : K.less a b ≡ false → a ≡ b → K.less b a ≡ false → Compared a b
    is_greater : K.less a b ≡ false → (a ≢ b) → K.less b a ≡ true → Compared a b

-- Each law holds wherever everything in it is there.
pub record Laws (S : Type 0) (K : Kind S) : Type 0 where
  -- what is there, at least
  pub sum_there : (a b : S) → K.size a + K.size b ≤ reach → is_some (K.plus a b) ≡ true
  pub opposite_there : (a : S) → K.size a ≤ reach → is_some (K.opposite a) ≡ true
  -- order
  pub compared : (a b : S) → Compared K a b
  pub carries_over : (a b c : S) → K.less a b ≡ true → K.less b c ≡ true → K.less a c ≡ true
  -- sums
  pub commutes : (a b x y : S) → K.plus a b ≡ Some x → K.plus b a ≡ Some y → x ≡ y
  pub associates : (a b c ab bc x y : S) → K.plus a b ≡ Some ab → K.plus b c ≡ Some bc
      → K.plus ab c ≡ Some x → K.plus a bc ≡ Some y → x ≡ y
  pub zero_adds_nothing : (a x : S) → K.plus a K.zero ≡ Some x → x ≡ a
  pub opposites_cancel : (a b x : S) → K.opposite a ≡ Some b → K.plus a b ≡ Some x → x ≡ K.zero
  pub sum_keeps_order : (a b c x y : S) → K.less a b ≡ true → K.plus a c ≡ Some x → K.plus b c ≡ Some y
      → K.less x y ≡ true
  -- sizes
  pub zero_size : K.size K.zero ≡ 0
  pub opposite_size : (a b : S) → K.opposite a ≡ Some b → K.size b ≡ K.size a
  pub sum_size : (a b x : S) → K.plus a b ≡ Some x → K.size x ≤ K.size a + K.size b
  -- step
  pub step_above_zero : K.less K.zero K.step ≡ true
  pub step_size : K.size K.step ≡ 1

pub record OnlyWithin (S : Type 0) (K : Kind S) : Type 0 where
  pub no_other_sum : (a b : S) → is_some (K.plus a b) ≡ true → K.size a + K.size b ≤ reach
  pub no_other_opposite : (a : S) → is_some (K.opposite a) ≡ true → K.size a ≤ reach

-- the order of a kind is that of the comparison R
abbrev pub OrderedBy : {S : Type 0} → Kind S → (S → S → Ordering) → Type 0
OrderedBy {S} K R = (a b : S) → is_lt (R a b) ≡ K.less a b
