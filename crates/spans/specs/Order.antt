-- The order of a kind, from its laws. Assumes nothing.
use Rattle.std.specs.Prelude.{◌≡◌, ◌⊎◌, refl}
use Rattle.std.proofs.Common.{sym, subst, inl, inr}
use Rattle.std.proofs.lemmas.Bool.{both_ways, cases_Bool, false_from_ne_true}
use Rattle.spans.specs.Kind.{Kind, Laws, Compared, is_less, is_same, is_greater, ◌<⟨◌⟩◌, ◌≤⟨◌⟩◌}

module _ {S : Type 0} (K : Kind S) where
  pub not_itself : (a : S) → Compared K a a → a <⟨ K ⟩ a → ⊥
  not_itself a (is_less p q r) h = q refl
  not_itself a (is_same p q r) h = both_ways _ p h
  not_itself a (is_greater p q r) h = q refl

  pub less_or_same : (a b : S) → Compared K a b → a ≤⟨ K ⟩ b → (a <⟨ K ⟩ b) ⊎ (a ≡ b)
  less_or_same a b (is_less p q r) h = inl p
  less_or_same a b (is_same p q r) h = inr q
  less_or_same a b (is_greater p q r) h = absurd (both_ways _ h r)

module _ {S : Type 0} {K : Kind S} (laws : Laws S K) where
  pub irrefl : {a : S} → a <⟨ K ⟩ a → ⊥
  irrefl {a} h = not_itself K a (laws.compared a a) h

  pub lt_trans : {a b c : S} → a <⟨ K ⟩ b → b <⟨ K ⟩ c → a <⟨ K ⟩ c
  lt_trans {a} {b} {c} = laws.carries_over a b c

  pub lt_le : {a b : S} → a <⟨ K ⟩ b → a ≤⟨ K ⟩ b
  lt_le {a} {b} h = false_from_ne_true _ (λ k. irrefl (lt_trans {a = a} {b = b} {c = a} h k))

  pub le_refl : {a : S} → a ≤⟨ K ⟩ a
  le_refl {a} = false_from_ne_true _ irrefl

  pub le_of_eq : {a b : S} → a ≡ b → a ≤⟨ K ⟩ b
  le_of_eq {a} e = subst (λ (x : S). a ≤⟨ K ⟩ x) e le_refl

  pub le_cases : {a b : S} → a ≤⟨ K ⟩ b → (a <⟨ K ⟩ b) ⊎ (a ≡ b)
  le_cases {a} {b} h = less_or_same K a b (laws.compared a b) h

  pub le_or_lt : (a b : S) → (a ≤⟨ K ⟩ b) ⊎ (b <⟨ K ⟩ a)
  le_or_lt a b = elim (cases_Bool (K.less b a)) [ inl h ↦ inr h | inr h ↦ inl h ]

  pub le_antisym : {a b : S} → a ≤⟨ K ⟩ b → b ≤⟨ K ⟩ a → a ≡ b
  le_antisym h k = elim (le_cases h) [ inl l ↦ absurd (both_ways _ k l) | inr e ↦ e ]

  pub lt_le_trans : {a b c : S} → a <⟨ K ⟩ b → b ≤⟨ K ⟩ c → a <⟨ K ⟩ c
  lt_le_trans {a} {b} {c} h k =
      elim (le_cases k) [ inl l ↦ laws.carries_over a b c h l | inr e ↦ subst (λ (x : S). a <⟨ K ⟩ x) e h ]

  pub le_lt_trans : {a b c : S} → a ≤⟨ K ⟩ b → b <⟨ K ⟩ c → a <⟨ K ⟩ c
  le_lt_trans {a} {b} {c} h k =
      elim (le_cases h) [ inl l ↦ laws.carries_over a b c l k | inr e ↦ subst (λ (x : S). x <⟨ K ⟩ c) (sym e) k ]

  pub le_trans : {a b c : S} → a ≤⟨ K ⟩ b → b ≤⟨ K ⟩ c → a ≤⟨ K ⟩ c
  le_trans {a} {b} {c} h k =
      elim (le_cases h) [ inl l ↦ lt_le (lt_le_trans l k) | inr e ↦ subst (λ (x : S). x ≤⟨ K ⟩ c) (sym e) k ]
