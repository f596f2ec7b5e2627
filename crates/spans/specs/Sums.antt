-- Sums and opposites as total operations, zero where one is not there. Assumes nothing.
-- For lemmas: no promise is said by these, since a zero would hide what is not there.
use Rattle.std.specs.Prelude.{ℕ, ◌+◌, List, [], ◌∷◌}
use Rattle.std.specs.Option.{unwrap_or}
use Rattle.spans.specs.Kind.{Kind}

infixl 60 ◌⊕⟨◌⟩◌
infix 70 ⊖⟨◌⟩◌
abbrev pub ◌⊕⟨◌⟩◌ : {S : Type 0} → S → Kind S → S → S
a ⊕⟨ K ⟩ b = unwrap_or (K.plus a b) K.zero

abbrev pub ⊖⟨◌⟩◌ : {S : Type 0} → Kind S → S → S
⊖⟨ K ⟩ a = unwrap_or (K.opposite a) K.zero

-- the sum of a list
abbrev pub total : {S : Type 0} → Kind S → List S → S
total K [] = K.zero
total K (x ∷ xs) = x ⊕⟨ K ⟩ total K xs

-- the sizes of a list, together
abbrev pub sizes : {S : Type 0} → Kind S → List S → ℕ
sizes K [] = 0
sizes K (x ∷ xs) = K.size x + sizes K xs
