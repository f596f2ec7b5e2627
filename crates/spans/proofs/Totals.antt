-- Totals of lists, with their sizes. The bound of a part and the number of parts are numbers that a lemma takes. Assumes nothing.
use Rattle.std.proofs.Common.{◌≡◌, ℕ, ◌+◌, ◌*◌, ◌<◌, ◌≤◌, List, [], ◌∷◌, ◌++◌, length, get_or, take, drop, Some, sym, ap, ◌∙◌, suc-mul, arith, take-append-drop}
use Rattle.std.specs.List.{AllByRecursion}
use Rattle.std.proofs.lemmas.List.{take_more}
use Rattle.spans.specs.Kind.{Kind, Laws, reach}
use Rattle.spans.specs.Sums.{◌⊕⟨◌⟩◌, total, sizes}
use Rattle.spans.proofs.Group.{sum_some, sum_size, assoc, zero_left, zero_right}

module _ {S : Type 0} (K : Kind S) where
  pub sizes_append : (xs ys : List S) → sizes K (xs ++ ys) ≡ sizes K xs + sizes K ys
  sizes_append [] ys = omega arith
  sizes_append (x ∷ xs) ys = omega (arith, sizes_append xs ys)

  pub sizes_take : (n : ℕ) (xs : List S) → sizes K (take n xs) ≤ sizes K xs
  sizes_take n xs = omega (arith, sizes_append (take n xs) (drop n xs), ap (sizes K) (take-append-drop n xs))

  -- parts of size n at most
  pub sizes_within : (n : ℕ) (xs : List S) → AllByRecursion (λ x. K.size x ≤ n) xs → sizes K xs ≤ length xs * n
  sizes_within n [] h = omega arith
  sizes_within n (x ∷ xs) h = simp suc-mul (omega (arith, h.0, sizes_within n xs h.1))

module _ {S : Type 0} {K : Kind S} (laws : Laws S K) where
  pub total_size : (xs : List S) → K.size (total K xs) ≤ sizes K xs
  total_size [] = omega (arith, laws.zero_size)
  total_size (x ∷ xs) = omega (arith, sum_size laws x (total K xs), total_size xs)

  -- so that the total is there where their number times n is within reach
  pub total_within : (n : ℕ) (xs : List S) → AllByRecursion (λ x. K.size x ≤ n) xs → K.size (total K xs) ≤ length xs * n
  total_within n xs h = omega (arith, total_size xs, sizes_within K n xs h)

  pub total_append : (xs ys : List S) → sizes K xs + sizes K ys ≤ reach → total K (xs ++ ys) ≡ total K xs ⊕⟨ K ⟩ total K ys
  total_append [] ys h = sym (zero_left laws (total K ys) (omega (arith, total_size ys)))
  total_append (x ∷ xs) ys h =
      ap (λ (t : S). x ⊕⟨ K ⟩ t) (total_append xs ys (omega arith))
      ∙ sym (assoc laws x (total K xs) (total K ys) (omega (arith, total_size xs, total_size ys)))

  -- one part more
  pub total_more : (xs : List S) (i : ℕ) (x : S) → i < length xs → x ≡ get_or xs i x → sizes K xs ≤ reach
      → K.plus (total K (take i xs)) x ≡ Some (total K (take (i + 1) xs))
  total_more xs i x within read h =
      let pushed : take (i + 1) xs ≡ take i xs ++ (x ∷ []) = take_more xs i x within ∙ ap (λ (y : S). take i xs ++ (y ∷ [])) (sym read) in
      let fits : sizes K (take i xs) + (K.size x + 0) ≤ reach = omega (arith, sizes_take K (i + 1) xs, ap (sizes K) pushed, sizes_append K (take i xs) (x ∷ [])) in
      sum_some laws (total K (take i xs)) x (omega (arith, total_size (take i xs)))
      ∙ ap (λ (t : S). Some t) (sym (ap (total K) pushed
      ∙ total_append (take i xs) (x ∷ []) fits
      ∙ ap (λ (t : S). total K (take i xs) ⊕⟨ K ⟩ t) (zero_right laws x (omega arith))))
