-- What `reduce` picks, where each call of its closure picks by a function: from the clause `ran` and the list of the chain's items.
-- Assumes nothing.
use Rattle.std.proofs.Common.{◌≡◌, List, [], ◌∷◌, Some, None, Option, refl, ap, subst}
use Rattle.std.specs.Fn.{Called}
use Rattle.std.specs.Iterator.{ReducesItems, FoldTurn}
use Rattle.std.specs.List.{FoldsTo, reduce}
use Rattle.std.proofs.lemmas.Iterator.{YieldsList}
use Rattle.std.proofs.lemmas.Iterator.Consumers.{reduce_from_yields_List}
use denote.Param.Members.{Mut}

module _ {A F : Type 0} (g : Mut F (A × (A × Unit {0})) A) (pick : A → A → A) (f : F)
    (picks : (a x b : A) (q : F) → Called g f (a, (x, tt)) b q → (q ≡ f) × (b ≡ pick a x)) where
  turns : (xs : List A) (p q : F × A) → p.0 ≡ f → FoldsTo {P = F × A} (FoldTurn g) p xs q → FoldsTo (λ a x b. b ≡ pick a x) p.1 xs q.1
  turns [] p q a c = ap (λ (w : F × A). w.1) c
  turns (x ∷ xs) p q a c =
      let m = picks p.1 x c.0.1 c.0.0 (subst (λ w. Called g w (p.1, (x, tt)) c.0.1 c.0.0) a c.1) in
      (c.0.1, m.1, turns xs c.0 q m.0 c.2)

  module _ {S : Type 0} {steps : S → Option A → S → Type 0} {all : List A} (s : S) where
    pub picked_is : (r : Option A) → ReducesItems steps g s f r → YieldsList steps (λ x. x) s all → r ≡ reduce pick all
    picked_is None h e = reduce_from_yields_List pick s None h e
    picked_is (Some y) h e = reduce_from_yields_List pick s (Some y) (h.0, h.1, h.3, turns h.1 (f, h.0) (h.2, y) refl h.4) e
