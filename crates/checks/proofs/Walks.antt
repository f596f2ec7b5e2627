-- The checks go through a list by its numbers. For a loop that goes from the front: one step, and the end. Assumes nothing.
use Rattle.std.proofs.Common.{◌≡◌, ℕ, suc, ◌+◌, ◌<◌, ◌≤◌, Bool, true, false, cond, ◌&&◌, ltb, List, [], ◌∷◌, length, get_or, drop, filter, sym, refl, ap, ◌∙◌, arith}
use Rattle.std.specs.List.{list_all, range_with_len}
use Rattle.std.proofs.lemmas.List.{at_drop_more, at_drop_all}
use Rattle.std.proofs.lemmas.Bool.{and_left}
use Rattle.spans.specs.Kind.{Kind}
use Rattle.networks.specs.declared.window.Window.{Window}
use Rattle.networks.specs.Network.{Condition, no_condition}
use Rattle.networks.specs.Refusal.{small, in_order, before, choices}

-- ---- a test of each number of a range, where the list tests each element and what comes after it
module _ {X : Type 0} (F : List X → Bool) (P : X → List X → Bool) (end : F [] ≡ true)
    (step : (x : X) (xs : List X) → F (x ∷ xs) ≡ (P x xs && F xs)) (d : X) (test : ℕ → Bool) where
  from_number : (xs : List X) (a : ℕ) → ((i : ℕ) → i < length xs → test (a + i) ≡ P (get_or xs i d) (drop (suc i) xs))
      → list_all test (range_with_len a (length xs)) ≡ F xs
  from_number [] a same = sym end
  from_number (x ∷ xs) a same =
      let here : test a ≡ P x xs = ap test (omega arith) ∙ same 0 (omega arith) in
      let rest = from_number xs (a + 1) (λ i h. ap test (omega arith) ∙ same (suc i) (omega arith)) in
      rw (here, rest) (sym (step x xs))

  pub all_tested : (xs : List X) (n : ℕ) (r : Bool) → r ≡ list_all test (range_with_len 0 n) → n ≡ length xs
      → ((i : ℕ) → i < length xs → test i ≡ P (get_or xs i d) (drop (i + 1) xs)) → r ≡ F xs
  all_tested xs n r e l same =
      e ∙ ap (λ m. list_all test (range_with_len 0 m)) l ∙ from_number xs 0 by_next
    where
      by_next : (i : ℕ) → i < length xs → test (0 + i) ≡ P (get_or xs i d) (drop (suc i) xs)
      by_next i h =
          let zeroth : 0 + i ≡ i = omega arith in
          let next : i + 1 ≡ suc i = omega arith in
          ap test zeroth ∙ same i h ∙ ap (λ m. P (get_or xs i d) (drop m xs)) next

-- ---- a test of each element and of what comes after it, gone through from the front
pub and_true : (a b : Bool) → a ≡ true → (a && b) ≡ b
and_true a b e = rw e

module _ {X : Type 0} (F : List X → Bool) (P : X → List X → Bool) (end : F [] ≡ true)
    (step : (x : X) (xs : List X) → F (x ∷ xs) ≡ (P x xs && F xs))
    (xs : List X) (i : ℕ) (d : X) (so_far : F (drop i xs) ≡ F xs) where
  here : i < length xs → F (drop i xs) ≡ (P (get_or xs i d) (drop (i + 1) xs) && F (drop (i + 1) xs))
  here h = at_drop_more F xs i d h ∙ step _ _

  pub passed : i < length xs → P (get_or xs i d) (drop (i + 1) xs) ≡ true → F (drop (i + 1) xs) ≡ F xs
  passed h t = sym (and_true _ _ t) ∙ sym (here h) ∙ so_far

  pub failed : i < length xs → P (get_or xs i d) (drop (i + 1) xs) ≡ false → false ≡ F xs
  failed h t = sym (and_left _ _ t) ∙ sym (here h) ∙ so_far

  pub all_passed : length xs ≤ i → true ≡ F xs
  all_passed h = sym end ∙ sym (at_drop_all F xs i h) ∙ so_far

-- ---- the tests of a window
module _ {S : Type 0} (K : Kind S) where
  abbrev pub both_small : Window S → List (Window S) → Bool
  both_small w ws = small K w.low && small K w.high

  abbrev pub rises_here : Window S → List (Window S) → Bool
  rises_here w ws = in_order K w.low w.high && before K w ws

-- ---- the choice conditions counted by number
one_more : (t : Bool) (k n : ℕ) (ks : List ℕ) → length ks ≡ n → length (cond t (k ∷ ks) ks) ≡ cond t 1 0 + n
one_more true k n ks e = omega (arith, e)
one_more false k n ks e = omega (arith, e)

module _ {S : Type 0} (test : ℕ → Bool) where
  choices_from : (cs : List (Condition S)) (a : ℕ) → ((i : ℕ) → i < length cs → test (a + i) ≡ ltb 1 (length (get_or cs i no_condition).windows))
      → length (filter test (range_with_len a (length cs))) ≡ choices cs
  choices_from [] a same = refl
  choices_from (c ∷ cs) a same =
      let here : test a ≡ ltb 1 (length c.windows) = ap test (omega arith) ∙ same 0 (omega arith) in
      let rest = choices_from cs (a + 1) (λ i h. ap test (omega arith) ∙ same (suc i) (omega arith)) in
      rw here (one_more _ a _ _ rest)

  pub choices_counted : (cs : List (Condition S)) (n r : ℕ) → r ≡ length (filter test (range_with_len 0 n)) → n ≡ length cs
      → ((i : ℕ) → i < length cs → test i ≡ ltb 1 (length (get_or cs i no_condition).windows)) → r ≡ choices cs
  choices_counted cs n r e l same = e ∙ ap (λ m. length (filter test (range_with_len 0 m))) l ∙ choices_from cs 0 (λ i h. ap test (omega arith) ∙ same i h)
