-- Lists in which no number stands twice, by membership and by places. Assumes nothing.
use Rattle.std.proofs.Common.{◌≡◌, ℕ, zero, suc, ◌<◌, ◌≤◌, Bool, true, false, cond, eqb, ◌⊎◌, List, [], ◌∷◌, ◌++◌, length, get_or, sym, refl, subst, inl, inr, arith}
use Rattle.std.proofs.lemmas.Bool.{eqb-true, eqb-false}
use Rattle.distances.specs.Graph.{Distinct}

abbrev pub Among : ℕ → List ℕ → Type 0
Among v [] = ⊥
Among v (x ∷ xs) = (v ≡ x) ⊎ Among v xs

abbrev pub Apart : List ℕ → Type 0
Apart [] = Unit {0}
Apart (x ∷ xs) = (Among x xs → ⊥) × Apart xs

-- ---- membership
pub among_either : (v : ℕ) (xs ys : List ℕ) → Among v (xs ++ ys) → Among v xs ⊎ Among v ys
among_either v [] ys h = inr h
among_either v (x ∷ xs) ys (inl e) = inl (inl e)
among_either v (x ∷ xs) ys (inr h) = elim (among_either v xs ys h) [ inl p ↦ inl (inr p) | inr p ↦ inr p ]

pub among_front : (v : ℕ) (xs ys : List ℕ) → Among v xs → Among v (xs ++ ys)
among_front v [] ys m = absurd m
among_front v (x ∷ xs) ys (inl e) = inl e
among_front v (x ∷ xs) ys (inr m) = inr (among_front v xs ys m)

pub apart_append : (xs ys : List ℕ) → Apart xs → Apart ys → ((v : ℕ) → Among v xs → Among v ys → ⊥) → Apart (xs ++ ys)
apart_append [] ys p q h = q
apart_append (x ∷ xs) ys (f, p) q h =
    ((λ m. elim (among_either x xs ys m) [ inl u ↦ f u | inr u ↦ h x (inl refl) u ]), apart_append xs ys p q (λ v u. h v (inr u)))

-- one that is not there, at the end
pub apart_last : (xs : List ℕ) (y : ℕ) → Apart xs → (Among y xs → ⊥) → Apart (xs ++ y ∷ [])
apart_last xs y p h =
    apart_append xs (y ∷ []) p ((λ m. m), tt)
    (λ v m o. elim o [ inl e ↦ h (subst (λ (z : ℕ). Among z xs) e m) | inr n ↦ n ])

-- ---- by places
member : (v : ℕ) (xs : List ℕ) → Among v xs → (b : ℕ) × (b < length xs) × (get_or xs b 0 ≡ v)
member v [] h = absurd h
member v (x ∷ xs) (inl e) = (0, omega arith, sym e)
member v (x ∷ xs) (inr h) = let (b, l, e) = member v xs h in (suc b, omega arith, e)

at_place : (xs : List ℕ) (b : ℕ) → b < length xs → Among (get_or xs b 0) xs
at_place [] b l = absurd (omega arith)
at_place (x ∷ xs) zero l = inl refl
at_place (x ∷ xs) (suc b) l = inr (at_place xs b (omega arith))

pub distinct_apart : (xs : List ℕ) → Distinct xs → Apart xs
distinct_apart [] h = tt
distinct_apart (x ∷ xs) h = (
  (λ m. let (b, l, e) = member x xs m in h 0 (suc b) (omega arith) (omega arith) (sym e)),
  distinct_apart xs (λ a b l k e. h (suc a) (suc b) (omega arith) (omega arith) e),
)

pub apart_distinct : (xs : List ℕ) → Apart xs → Distinct xs
apart_distinct [] h a b l k e = absurd (omega arith)
apart_distinct (x ∷ xs) (f, h) zero zero l k e = absurd (omega arith)
apart_distinct (x ∷ xs) (f, h) zero (suc b) l k e = f (subst (λ (o : ℕ). Among o xs) (sym e) (at_place xs b (omega arith)))
apart_distinct (x ∷ xs) (f, h) (suc a) zero l k e = absurd (omega arith)
apart_distinct (x ∷ xs) (f, h) (suc a) (suc b) l k e = apart_distinct xs h a b (omega arith) (omega arith) e

-- ---- distinct numbers below n are at most n
abbrev without : ℕ → List ℕ → List ℕ
without v [] = []
without v (x ∷ xs) = cond (eqb v x) xs (x ∷ without v xs)

length_without : (v : ℕ) (xs : List ℕ) → length xs ≤ suc (length (without v xs))
length_without v [] = omega arith
length_without v (x ∷ xs) = by_test (eqb v x) (length_without v xs)
  where
    by_test : (t : Bool) → length xs ≤ suc (length (without v xs)) → length (x ∷ xs) ≤ suc (length (cond t xs (x ∷ without v xs)))
    by_test true h = omega arith
    by_test false h = omega arith

still_among : (u v : ℕ) (xs : List ℕ) → Among u (without v xs) → Among u xs
still_among u v [] h = h
still_among u v (x ∷ xs) h = by_test (eqb v x) (still_among u v xs) h
  where
    by_test : (t : Bool) → (Among u (without v xs) → Among u xs) → Among u (cond t xs (x ∷ without v xs)) → Among u (x ∷ xs)
    by_test true f m = inr m
    by_test false f (inl m) = inl m
    by_test false f (inr m) = inr (f m)

not_among : (v : ℕ) (xs : List ℕ) → Apart xs → Among v (without v xs) → ⊥
not_among v [] p h = h
not_among v (x ∷ xs) (f, p) h = by_test (eqb v x) refl (not_among v xs p) h
  where
    by_test : (t : Bool) → eqb v x ≡ t → (Among v (without v xs) → ⊥) → Among v (cond t xs (x ∷ without v xs)) → ⊥
    by_test true e ih m = f (subst (λ (y : ℕ). Among y xs) (eqb-true v x e) m)
    by_test false e ih (inl m) = eqb-false v x e m
    by_test false e ih (inr m) = ih m

apart_without : (v : ℕ) (xs : List ℕ) → Apart xs → Apart (without v xs)
apart_without v [] p = p
apart_without v (x ∷ xs) (f, p) = by_test (eqb v x) (apart_without v xs p)
  where
    by_test : (t : Bool) → Apart (without v xs) → Apart (cond t xs (x ∷ without v xs))
    by_test true q = p
    by_test false q = ((λ m. f (still_among x v xs m)), q)

pub apart_few : (n : ℕ) (xs : List ℕ) → Apart xs → ((v : ℕ) → Among v xs → v < n) → length xs ≤ n
apart_few zero [] p h = omega arith
apart_few zero (x ∷ xs) p h = let z : x < 0 = h x (inl refl) in omega arith
apart_few (suc n) xs p h =
    let ih : length (without n xs) ≤ n = apart_few n (without n xs) (apart_without n xs p) (λ v m.
    let l = h v (still_among v n xs m) in
    let ne : v ≡ n → ⊥ = λ e. not_among n xs p (subst (λ (y : ℕ). Among y (without n xs)) e m) in
    omega arith) in
    omega (arith, length_without n xs)
