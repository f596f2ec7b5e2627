-- The conditions that numbers spell, by their numbers. Assumes nothing.
use Rattle.std.proofs.Common.{◌≡◌, ℕ, zero, suc, ◌+◌, ◌-◌, ◌*◌, ◌/◌, ◌<◌, ◌≤◌, cond, List, length, take, drop, get_or, ℤ, pos, Some, None, Option, MatchOption, Bor, inl, inr, subst, sym, refl, ap, ◌∙◌, add-zero, add_assoc, suc-mul, div-mul-le_self, length-drop, length-take-le, arith}
use Rattle.std.specs.Prelude.{int_lt}
use Rattle.std.specs.Slice.{IsGetRangeResult}
use Rattle.std.proofs.lemmas.Nat.{mul-le, div_below, le-div}
use Rattle.std.proofs.lemmas.List.{get_or_past, get_or-take, get_or-drop}
use Rattle.networks.specs.Network.{no_condition}
use Rattle.exports.specs.Spelling.{Spelling, Spells}
use Rattle.exports.specs.Meaning.{firsts, condition_from, condition_numbers, numbers_network, end_at, IsCondition, Absent}

module _ {A : Type 0} where
  pub firsts_length : (f : ℕ → A) (n : ℕ) → length (firsts f n) ≡ n
  firsts_length f zero = refl
  firsts_length f (suc n) = ap suc (firsts_length (λ k. f (suc k)) n)

  pub firsts_at : (f : ℕ → A) (n k : ℕ) (d : A) → k < n → get_or (firsts f n) k d ≡ f k
  firsts_at f zero k d h = absurd (omega arith)
  firsts_at f (suc n) zero d h = refl
  firsts_at f (suc n) (suc k) d h = firsts_at (λ i. f (suc i)) n k d (omega arith)

-- a whole part has room
pub part_room : (k c m : ℕ) → k < m / c → k * c + c ≤ m
part_room k c m h =
    let le : suc k * c ≤ m / c * c = mul-le (suc k) c (m / c) c (omega arith) (omega arith) in
    omega (arith, le, suc-mul k c, div-mul-le_self m c)

pub counted : {S : Type 0} (P : Spelling S) (n : ℕ) (l : List ℤ) → length (numbers_network P n l).conditions ≡ length l / condition_numbers P
counted P n l = firsts_length _ _

-- a condition is read from its own numbers
module _ {S : Type 0} (P : Spelling S) (laws : Spells P) (l : List ℤ) (a : ℕ) where
  own_numbers : List ℤ
  own_numbers = take (condition_numbers P) (drop a l)

  own_number : (p : ℕ) → p < condition_numbers P → get_or own_numbers p (pos 0) ≡ get_or l (a + p) (pos 0)
  unfolding own_numbers
  own_number p h = get_or-take (condition_numbers P) (drop a l) p (pos 0) h ∙ get_or-drop a l p (pos 0)

  own_end : (p : ℕ) → p + 1 + P.width ≤ condition_numbers P → end_at P own_numbers p ≡ end_at P l (a + p)
  unfolding own_numbers
  own_end p h =
      ap (λ (z : ℤ). cond (int_lt (pos 0) z) (Some (P.read own_numbers (p + 1))) None) (own_number p (omega arith))
      ∙ ap (λ (x : S). cond (int_lt (pos 0) (get_or l (a + p) (pos 0))) (Some x) None)
      (laws.own l a (condition_numbers P) (p + 1) (omega arith) ∙ ap (P.read l) (sym (add_assoc a p 1)))

  pub own_condition : condition_from P (take (condition_numbers P) (drop a l)) 0 ≡ condition_from P l a
  unfolding own_numbers
  own_condition =
      rw (
        own_number 0 (omega arith) ∙ ap (λ (i : ℕ). get_or l i (pos 0)) (add-zero a),
        own_number 1 (omega arith),
        own_end 2 (omega arith),
        own_end (3 + P.width) (omega arith) ∙ ap (end_at P l) (sym (add_assoc a 3 P.width)),
      ) refl

module _ {S : Type 0} (P : Spelling S) (n : ℕ) (l : List ℤ) (k : ℕ) where
  pub is_condition : Spells P → k < length l / condition_numbers P
      → IsCondition P n l k (take (condition_numbers P) (drop (k * condition_numbers P) l))
  is_condition laws h = record {
    long = length-take-le (condition_numbers P) (drop (k * condition_numbers P) l)
        (omega (arith, length-drop (k * condition_numbers P) l, part_room k (condition_numbers P) (length l) h));
    meant = firsts_at _ _ k no_condition h ∙ sym (own_condition P laws l (k * condition_numbers P));
  }

  pub absent : length l / condition_numbers P ≤ k → Absent P n l k
  absent h = record { meant = get_or_past (numbers_network P n l).conditions k no_condition (rw firsts_length h) }

  absent_short : length l < k * condition_numbers P + condition_numbers P → Absent P n l k
  absent_short h =
      absent (omega (arith, div_below (length l) (condition_numbers P) (suc k) (omega arith) (omega (arith, h, suc-mul k (condition_numbers P)))))

  -- the numbers do not reach to the end of condition k
  pub absent_past : (size : ℕ) → size ≡ condition_numbers P → length l < k * size + size → Absent P n l k
  absent_past size e h = absent_short (subst (λ (c : ℕ). length l < k * c + c) e h)

  -- what `get` answers from the place of condition k on
  pub looked_up : Spells P → (size at : ℕ) → size ≡ condition_numbers P → at ≡ k * size → (o : Option (Bor (List ℤ)))
      → IsGetRangeResult l at (at + size) o → MatchOption o (Absent P n l k) (λ part. IsCondition P n l k part.now)
  looked_up laws size at e f None (inl bad, there) = absurd (omega arith)
  looked_up laws size at e f None (inr short, there) = absent_past size e (omega (arith, f))
  looked_up laws size at e f (Some part) ((le, fits, is, long), there) =
      let g : at ≡ k * condition_numbers P = f ∙ ap (λ (c : ℕ). k * c) e in
      let m : suc k * condition_numbers P ≤ length l = omega (arith, suc-mul k (condition_numbers P)) in
      let same : part.now ≡ take (condition_numbers P) (drop (k * condition_numbers P) l) =
      is ∙ ap (λ (c : ℕ). take c (drop at l)) (let h : (at + size) - at ≡ condition_numbers P = omega arith in h)
      ∙ ap (λ (i : ℕ). take (condition_numbers P) (drop i l)) g in
      subst (IsCondition P n l k) (sym same)
      (is_condition laws (omega (arith, le-div (suc k) (length l) (condition_numbers P) (omega arith) m)))
