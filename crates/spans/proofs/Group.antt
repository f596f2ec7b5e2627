-- Sums and opposites behave as in an ordered group while the sizes of what is added stay within reach. Assumes nothing.
-- Every premise is one about sizes. Of presence only 'at least' is cited: that a sum is there where the sizes allow it.
use Rattle.std.proofs.Common.{◌≡◌, ℕ, ◌+◌, ◌*◌, ◌≤◌, true, is_some, Some, None, Option, unwrap_or, sym, refl, ap, ◌∙◌, inl, inr, arith}
use Rattle.std.proofs.lemmas.Bool.{both_ways, false_from_ne_true}
use Rattle.spans.specs.Kind.{Kind, Laws, Compared, is_less, is_same, is_greater, reach, ◌<⟨◌⟩◌, ◌≤⟨◌⟩◌}
use Rattle.spans.specs.Sums.{◌⊕⟨◌⟩◌, ⊖⟨◌⟩◌}
use Rattle.spans.specs.Order.{irrefl, lt_le, le_of_eq, le_cases, le_trans}

some_or : {X : Type 0} (o : Option X) (d : X) → is_some o ≡ true → o ≡ Some (unwrap_or o d)
some_or None d e = absurd (grind arith)
some_or (Some x) d e = refl

-- a size of the value, or of what stands in for it
size_or : {X : Type 0} (size : X → ℕ) (o : Option X) (d : X) (n : ℕ) → ((x : X) → o ≡ Some x → size x ≤ n) → size d ≤ n
    → size (unwrap_or o d) ≤ n
size_or size None d n h k = k
size_or size (Some x) d n h k = h x refl

module _ {S : Type 0} {K : Kind S} (laws : Laws S K) where
  -- ---- sums
  pub sum_some : (a b : S) → K.size a + K.size b ≤ reach → K.plus a b ≡ Some (a ⊕⟨ K ⟩ b)
  sum_some a b h = some_or (K.plus a b) K.zero (laws.sum_there a b h)

  -- no premise: what is not there counts as zero
  pub sum_size : (a b : S) → K.size (a ⊕⟨ K ⟩ b) ≤ K.size a + K.size b
  sum_size a b = size_or K.size (K.plus a b) K.zero _ (laws.sum_size a b) (omega (arith, laws.zero_size))

  pub comm : (a b : S) → K.size a + K.size b ≤ reach → a ⊕⟨ K ⟩ b ≡ b ⊕⟨ K ⟩ a
  comm a b h = laws.commutes a b _ _ (sum_some a b h) (sum_some b a (omega arith))

  pub assoc : (a b c : S) → K.size a + K.size b + K.size c ≤ reach → (a ⊕⟨ K ⟩ b) ⊕⟨ K ⟩ c ≡ a ⊕⟨ K ⟩ (b ⊕⟨ K ⟩ c)
  assoc a b c h =
      laws.associates a b c _ _ _ _ (sum_some a b (omega arith)) (sum_some b c (omega arith))
      (sum_some _ c (omega (arith, sum_size a b))) (sum_some a _ (omega (arith, sum_size b c)))

  pub zero_right : (a : S) → K.size a ≤ reach → a ⊕⟨ K ⟩ K.zero ≡ a
  zero_right a h = laws.zero_adds_nothing a _ (sum_some a K.zero (omega (arith, laws.zero_size)))

  pub zero_left : (a : S) → K.size a ≤ reach → K.zero ⊕⟨ K ⟩ a ≡ a
  zero_left a h = comm K.zero a (omega (arith, laws.zero_size)) ∙ zero_right a h

  -- ---- opposites
  pub opposite_some : (a : S) → K.size a ≤ reach → K.opposite a ≡ Some (⊖⟨ K ⟩ a)
  opposite_some a h = some_or (K.opposite a) K.zero (laws.opposite_there a h)

  pub opposite_size : (a : S) → K.size (⊖⟨ K ⟩ a) ≤ K.size a
  opposite_size a =
      size_or K.size (K.opposite a) K.zero _ (λ b e. omega (arith, laws.opposite_size a b e)) (omega (arith, laws.zero_size))

  pub inverse_right : (a : S) → 2 * K.size a ≤ reach → a ⊕⟨ K ⟩ (⊖⟨ K ⟩ a) ≡ K.zero
  inverse_right a h =
      laws.opposites_cancel a _ _ (opposite_some a (omega arith)) (sum_some a _ (omega (arith, opposite_size a)))

  pub inverse_left : (a : S) → 2 * K.size a ≤ reach → (⊖⟨ K ⟩ a) ⊕⟨ K ⟩ a ≡ K.zero
  inverse_left a h = comm (⊖⟨ K ⟩ a) a (omega (arith, opposite_size a)) ∙ inverse_right a h

  -- ---- sums and order
  pub lt_plus : (a b c : S) → K.size a + K.size c ≤ reach → K.size b + K.size c ≤ reach
      → a <⟨ K ⟩ b → (a ⊕⟨ K ⟩ c) <⟨ K ⟩ (b ⊕⟨ K ⟩ c)
  lt_plus a b c h k l = laws.sum_keeps_order a b c _ _ l (sum_some a c h) (sum_some b c k)

  pub le_plus : (a b c : S) → K.size a + K.size c ≤ reach → K.size b + K.size c ≤ reach
      → a ≤⟨ K ⟩ b → (a ⊕⟨ K ⟩ c) ≤⟨ K ⟩ (b ⊕⟨ K ⟩ c)
  le_plus a b c h k l =
      elim (le_cases laws l) [ inl s ↦ lt_le laws (lt_plus a b c h k s) | inr e ↦ le_of_eq laws (ap (λ (x : S). x ⊕⟨ K ⟩ c) e) ]

  pub le_plus_left : (a b c : S) → K.size a + K.size c ≤ reach → K.size b + K.size c ≤ reach
      → a ≤⟨ K ⟩ b → (c ⊕⟨ K ⟩ a) ≤⟨ K ⟩ (c ⊕⟨ K ⟩ b)
  le_plus_left a b c h k l = rw (comm c a (omega arith), comm c b (omega arith)) (le_plus a b c h k l)

  pub le_sums : (a b c d : S) → K.size a + K.size c ≤ reach → K.size b + K.size c ≤ reach → K.size b + K.size d ≤ reach
      → a ≤⟨ K ⟩ b → c ≤⟨ K ⟩ d → (a ⊕⟨ K ⟩ c) ≤⟨ K ⟩ (b ⊕⟨ K ⟩ d)
  le_sums a b c d h k m p q =
      le_trans laws (le_plus a b c h k p)
      (rw (comm b c k, comm b d m) (le_plus c d b (omega arith) (omega arith) q))

  pub le_cancel : (a b c : S) → K.size a + K.size c ≤ reach → K.size b + K.size c ≤ reach
      → (a ⊕⟨ K ⟩ c) ≤⟨ K ⟩ (b ⊕⟨ K ⟩ c) → a ≤⟨ K ⟩ b
  le_cancel a b c h k l = false_from_ne_true _ (λ s. both_ways _ l (lt_plus b a c k h s))

  pub cancel : (a b c : S) → K.size a + K.size c ≤ reach → K.size b + K.size c ≤ reach
      → a ⊕⟨ K ⟩ c ≡ b ⊕⟨ K ⟩ c → a ≡ b
  cancel a b c h k e = go (laws.compared a b)
    where
      go : Compared K a b → a ≡ b
      go (is_less p q r) = absurd (irrefl laws (rw e at (lt_plus a b c h k p)))
      go (is_same p q r) = q
      go (is_greater p q r) = absurd (irrefl laws (rw e at (lt_plus b a c k h r)))

  -- ---- opposites and order
  pub opposite_le : (a b : S) → 2 * K.size a ≤ reach → 2 * K.size b ≤ reach → a ≤⟨ K ⟩ b → (⊖⟨ K ⟩ b) ≤⟨ K ⟩ (⊖⟨ K ⟩ a)
  opposite_le a b h k l =
      let na : K.size (⊖⟨ K ⟩ a) ≤ K.size a = opposite_size a in
      let nb : K.size (⊖⟨ K ⟩ b) ≤ K.size b = opposite_size b in
      let s₁ : K.size a + K.size (⊖⟨ K ⟩ b) ≤ reach = omega arith in
      let s₂ : K.size b + K.size (⊖⟨ K ⟩ b) ≤ reach = omega arith in
      let s₃ : K.size (⊖⟨ K ⟩ a) + K.size a ≤ reach = omega arith in
      let s₄ : K.size (⊖⟨ K ⟩ b) + K.size a ≤ reach = omega arith in
      false_from_ne_true _ (λ s.
      let low : (a ⊕⟨ K ⟩ (⊖⟨ K ⟩ b)) ≤⟨ K ⟩ K.zero = rw (inverse_right b k) at (le_plus a b (⊖⟨ K ⟩ b) s₁ s₂ l) in
      let high : K.zero <⟨ K ⟩ ((⊖⟨ K ⟩ b) ⊕⟨ K ⟩ a) = rw (inverse_left a h) at (lt_plus (⊖⟨ K ⟩ a) (⊖⟨ K ⟩ b) a s₃ s₄ s) in
      both_ways _ low (rw (comm (⊖⟨ K ⟩ b) a s₄) at high))

  pub opposite_opposite : (a : S) → 2 * K.size a ≤ reach → ⊖⟨ K ⟩ (⊖⟨ K ⟩ a) ≡ a
  opposite_opposite a h =
      let n : K.size (⊖⟨ K ⟩ a) ≤ K.size a = opposite_size a in
      let m : K.size (⊖⟨ K ⟩ (⊖⟨ K ⟩ a)) ≤ K.size (⊖⟨ K ⟩ a) = opposite_size (⊖⟨ K ⟩ a) in
      cancel (⊖⟨ K ⟩ (⊖⟨ K ⟩ a)) a (⊖⟨ K ⟩ a) (omega arith) (omega arith)
      (inverse_left (⊖⟨ K ⟩ a) (omega arith) ∙ sym (inverse_right a h))

  -- ---- added and taken away again
  pub plus_minus : (x a : S) → K.size x + 2 * K.size a ≤ reach → (x ⊕⟨ K ⟩ a) ⊕⟨ K ⟩ (⊖⟨ K ⟩ a) ≡ x
  plus_minus x a h =
      let n : K.size (⊖⟨ K ⟩ a) ≤ K.size a = opposite_size a in
      assoc x a (⊖⟨ K ⟩ a) (omega arith) ∙ ap (λ (y : S). x ⊕⟨ K ⟩ y) (inverse_right a (omega arith)) ∙ zero_right x (omega arith)

  pub minus_plus : (x a : S) → K.size x + 2 * K.size a ≤ reach → (x ⊕⟨ K ⟩ (⊖⟨ K ⟩ a)) ⊕⟨ K ⟩ a ≡ x
  minus_plus x a h =
      let n : K.size (⊖⟨ K ⟩ a) ≤ K.size a = opposite_size a in
      assoc x (⊖⟨ K ⟩ a) a (omega arith) ∙ ap (λ (y : S). x ⊕⟨ K ⟩ y) (inverse_left a (omega arith)) ∙ zero_right x (omega arith)

  -- x is not above y plus a exactly when x minus a is not above y
  pub take_away : (x y a : S) → K.size x + K.size y + 2 * K.size a ≤ reach → x ≤⟨ K ⟩ (y ⊕⟨ K ⟩ a) → (x ⊕⟨ K ⟩ (⊖⟨ K ⟩ a)) ≤⟨ K ⟩ y
  take_away x y a h l =
      let n : K.size (⊖⟨ K ⟩ a) ≤ K.size a = opposite_size a in
      let m : K.size (y ⊕⟨ K ⟩ a) ≤ K.size y + K.size a = sum_size y a in
      rw (plus_minus y a (omega arith)) at (le_plus x (y ⊕⟨ K ⟩ a) (⊖⟨ K ⟩ a) (omega arith) (omega arith) l)

  pub give_back : (x y a : S) → K.size x + K.size y + 2 * K.size a ≤ reach → (x ⊕⟨ K ⟩ (⊖⟨ K ⟩ a)) ≤⟨ K ⟩ y → x ≤⟨ K ⟩ (y ⊕⟨ K ⟩ a)
  give_back x y a h l =
      let n : K.size (⊖⟨ K ⟩ a) ≤ K.size a = opposite_size a in
      let m : K.size (x ⊕⟨ K ⟩ (⊖⟨ K ⟩ a)) ≤ K.size x + K.size (⊖⟨ K ⟩ a) = sum_size x (⊖⟨ K ⟩ a) in
      rw (minus_plus x a (omega arith)) at (le_plus (x ⊕⟨ K ⟩ (⊖⟨ K ⟩ a)) y a (omega arith) (omega arith) l)
