-- Places in a matrix of n rows, writes to them, and the steps of the loops over its rows. Assumes nothing.
use Rattle.std.proofs.Common.{◌≡◌, ℕ, ◌+◌, ◌*◌, ◌/◌, ◌%◌, ◌<◌, ◌≤◌, Bool, true, false, cond, ltb, ◌≢◌, ◌⊎◌, List, ◌++◌, length, get_or, take, drop, set, replicate, Some, None, Option, sym, refl, ap, ◌∙◌, subst, inl, inr, arith, get_or-set_other, get_or-set_same, drop-set-lt, le-ltb, lt-ltb}
use lib.Seq.{length-take-le}
use native.Mathlib.Decide.{dec_lt, ℕ_discrete}
use Rattle.std.proofs.lemmas.Nat.{mul-add-lt, div-mul-add, mod-mul-add}
use Rattle.std.proofs.lemmas.List.{length-replicate, get_or-replicate, get_or_append_left, drop_at}
use Rattle.distances.specs.Matrix.{square, table, Rest, RowUpto, RowsUpto}
use Rattle.distances.specs.Memory.{put_first}

-- ---- places
pub place_below : (n i j : ℕ) → i < n → j < n → i * n + j < n * n
place_below n i j p q = mul-add-lt i n j n p q

pub place_apart : (n i j p q : ℕ) → j < n → q < n → ((p ≡ i) × (q ≡ j) → ⊥) → p * n + q ≢ i * n + j
place_apart n i j p q x y ne e =
    ne (sym (div-mul-add p n q y) ∙ ap (λ z. z / n) e ∙ div-mul-add i n j x, sym (mod-mul-add p n q y) ∙ ap (λ z. z % n) e ∙ mod-mul-add i n j x)

-- ---- reading a list as a table
module _ {A : Type 0} (z : A) (n : ℕ) where
  pub square_inside : (l : List A) (i j : ℕ) → i < n → j < n → square z n l i j ≡ get_or l (i * n + j) z
  square_inside l i j p q = simp (lt-ltb i n p, lt-ltb j n q)

  pub square_outside : (l : List A) (i j : ℕ) → (n ≤ i) ⊎ (n ≤ j) → square z n l i j ≡ z
  square_outside l i j (inl h) = simp (le-ltb i n h)
  square_outside l i j (inr h) = go (ltb i n)
    where
      go : (t : Bool) → cond t (cond (ltb j n) (get_or l (i * n + j) z) z) z ≡ z
      go true = simp (le-ltb j n h)
      go false = refl

  -- what stands at the place of (i, j)
  pub square_read : (l : List A) (i j at : ℕ) → i < n → j < n → at ≡ i * n + j → square z n l i j ≡ get_or l at z
  square_read l i j at p q e = square_inside l i j p q ∙ ap (λ (x : ℕ). get_or l x z) (sym e)

  -- a write at (i, j)
  pub square_here : (l : List A) (i j : ℕ) (v : A) → i < n → j < n → n * n ≤ length l → square z n (set l (i * n + j) v) i j ≡ v
  square_here l i j v p q room =
      let h : i * n + j < length l = omega (arith, place_below n i j p q) in
      square_inside _ i j p q ∙ get_or-set_same l (i * n + j) v z h

  pub square_elsewhere : (l : List A) (i j : ℕ) (v : A) → j < n → (p q : ℕ) → ((p ≡ i) × (q ≡ j) → ⊥)
      → square z n (set l (i * n + j) v) p q ≡ square z n l p q
  square_elsewhere l i j v y p q ne = go (dec_lt p n) (dec_lt q n)
    where
      go : Dec (p < n) → Dec (q < n) → square z n (set l (i * n + j) v) p q ≡ square z n l p q
      go (no h) o = square_outside (set l (i * n + j) v) p q (inl (omega arith)) ∙ sym (square_outside l p q (inl (omega arith)))
      go (yes h) (no o) = square_outside (set l (i * n + j) v) p q (inr (omega arith)) ∙ sym (square_outside l p q (inr (omega arith)))
      go (yes h) (yes o) =
          square_inside (set l (i * n + j) v) p q h o
          ∙ get_or-set_other l (i * n + j) (p * n + q) v z (place_apart n i j p q y o ne)
          ∙ sym (square_inside l p q h o)

  pub rest_set : (l : List A) (i j : ℕ) (v : A) → i < n → j < n → Rest n l (set l (i * n + j) v)
  rest_set l i j v p q = drop-set-lt _ _ _ _ (place_below n i j p q)

  -- ---- memory with n×n equal cells put first
  module _ (v : A) (old : List A) where
    -- all of them, by a fill of the first part
    pub blank_all : {front : List A} → n * n ≤ length old → front ≡ replicate (length (take (n * n) old)) v
        → front ++ drop (n * n) old ≡ put_first (replicate (n * n) v) old
    blank_all room e = rw (length-replicate (n * n) v, e, length-take-le (n * n) old room) refl

    pub blank_square : (i j : ℕ) → square v n (put_first (replicate (n * n) v) old) i j ≡ v
    blank_square i j = go (dec_lt i n) (dec_lt j n)
      where
        go : Dec (i < n) → Dec (j < n) → square v n (put_first (replicate (n * n) v) old) i j ≡ v
        go (no h) k = simp (le-ltb i n (omega arith))
        go (yes h) (no k) = simp (lt-ltb i n h, le-ltb j n (omega arith))
        go (yes h) (yes k) =
            let b : i * n + j < n * n = place_below n i j h k in
            simp (lt-ltb i n h, lt-ltb j n k)
            (get_or_append_left _ _ v (i * n + j) (omega (arith, length-replicate (n * n) v)) ∙ get_or-replicate (n * n) (i * n + j) v v b)

    pub blank_rest : Rest n old (put_first (replicate (n * n) v) old)
    blank_rest = rw (length-replicate (n * n) v) (drop_at (replicate (n * n) v) (drop (n * n) old) (n * n) (length-replicate (n * n) v))

  -- ---- a write at (i, j), or none
  pub record Written (b : Bool) (v : A) (i j : ℕ) (l r : List A) : Type 0 where
    pub row_there : i < n
    pub column_there : j < n
    pub room : n * n ≤ length l
    pub is : r ≡ cond b (set l (i * n + j) v) l

  module _ {b : Bool} {v : A} {i j : ℕ} {l r : List A} (w : Written b v i j l r) where
    pub written_here : square z n r i j ≡ cond b v (square z n l i j)
    written_here = subst (λ (y : List A). square z n y i j ≡ cond b v (square z n l i j)) (sym w.is) (go b)
      where
        go : (t : Bool) → square z n (cond t (set l (i * n + j) v) l) i j ≡ cond t v (square z n l i j)
        go true = square_here l i j v w.row_there w.column_there w.room
        go false = refl

    pub written_elsewhere : (p q : ℕ) → ((p ≡ i) × (q ≡ j) → ⊥) → square z n r p q ≡ square z n l p q
    written_elsewhere p q ne = subst (λ (y : List A). square z n y p q ≡ square z n l p q) (sym w.is) (go b)
      where
        go : (t : Bool) → square z n (cond t (set l (i * n + j) v) l) p q ≡ square z n l p q
        go true = square_elsewhere l i j v w.column_there p q ne
        go false = refl

    pub written_rest : Rest n l r
    written_rest = subst (λ (y : List A). Rest n l y) (sym w.is) (go b)
      where
        go : (t : Bool) → Rest n l (cond t (set l (i * n + j) v) l)
        go true = rest_set l i j v w.row_there w.column_there
        go false = refl

    -- one more entry of row i
    pub row_step : {old goal : ℕ → ℕ → A} → RowUpto old (square z n l) goal i j → cond b v (old i j) ≡ goal i j
        → RowUpto old (square z n r) goal i (j + 1)
    row_step {old} {goal} u e = record {
      done = λ q h. go q h (ℕ_discrete q j);
      ahead = λ q h. written_elsewhere i q (λ o. let s : q ≡ j = o.1 in omega arith) ∙ u.ahead q (omega arith);
      others = λ p q ne. written_elsewhere p q (λ o. ne o.0) ∙ u.others p q ne;
    }
      where
        go : (q : ℕ) → q < j + 1 → Dec (q ≡ j) → square z n r i q ≡ goal i q
        go q h (yes s) = subst (λ (y : ℕ). square z n r i y ≡ goal i y) (sym s) (written_here ∙ ap (cond b v) (u.ahead j (omega arith)) ∙ e)
        go q h (no s) = written_elsewhere i q (λ o. s o.1) ∙ u.done q (omega arith)

-- what is there lies inside
pub table_inside : {S : Type 0} (n : ℕ) (l : List (Option S)) (i j : ℕ) (a : S) → table n l i j ≡ Some a → (i < n) × (j < n)
table_inside n l i j a e = go (dec_lt i n) (dec_lt j n)
  where
    never : None ≡ Some a → (i < n) × (j < n)
    never o = absurd (grind arith)

    go : Dec (i < n) → Dec (j < n) → (i < n) × (j < n)
    go (yes h) (yes k) = (h, k)
    go (no h) k = never (sym (square_outside None n l i j (inl (omega arith))) ∙ e)
    go (yes h) (no k) = never (sym (square_outside None n l i j (inr (omega arith))) ∙ e)

-- ---- rows
module _ {A : Type 0} {old goal : ℕ → ℕ → A} where
  pub row_none : (i : ℕ) → RowUpto old old goal i 0
  row_none i = record { done = λ q h. absurd (omega arith); ahead = λ q h. refl; others = λ p q ne. refl }

module _ {A : Type 0} {old new goal : ℕ → ℕ → A} where
  -- an entry that is there already
  pub row_pass : {i j : ℕ} → RowUpto old new goal i j → old i j ≡ goal i j → RowUpto old new goal i (j + 1)
  row_pass {i} {j} u e = record { done = λ q h. go q h (ℕ_discrete q j); ahead = λ q h. u.ahead q (omega arith); others = u.others }
    where
      go : (q : ℕ) → q < j + 1 → Dec (q ≡ j) → new i q ≡ goal i q
      go q h (yes s) = subst (λ (y : ℕ). new i y ≡ goal i y) (sym s) (u.ahead j (omega arith) ∙ e)
      go q h (no s) = u.done q (omega arith)

  -- a row that is there already
  pub rows_pass : {i : ℕ} → RowsUpto old new goal i → ((q : ℕ) → old i q ≡ goal i q) → RowsUpto old new goal (i + 1)
  rows_pass {i} u e = record { done = λ p q h. go p q h (ℕ_discrete p i); ahead = λ p q h. u.ahead p q (omega arith) }
    where
      go : (p q : ℕ) → p < i + 1 → Dec (p ≡ i) → new p q ≡ goal p q
      go p q h (yes s) = subst (λ (y : ℕ). new y q ≡ goal y q) (sym s) (u.ahead i q (omega arith) ∙ e q)
      go p q h (no s) = u.done p q (omega arith)

  -- one more row
  pub rows_step : {mid there : ℕ → ℕ → A} {i n : ℕ} → RowsUpto old mid goal i → RowUpto mid new there i n
      → ((q : ℕ) → q < n → there i q ≡ goal i q) → ((q : ℕ) → n ≤ q → old i q ≡ goal i q)
      → RowsUpto old new goal (i + 1)
  rows_step {mid} {there} {i} {n} u r inside outside = record {
    done = λ p q h. go p q h (ℕ_discrete p i);
    ahead = λ p q h. r.others p q (λ e. omega arith) ∙ u.ahead p q (omega arith);
  }
    where
      at : (q : ℕ) → Dec (q < n) → new i q ≡ goal i q
      at q (yes h) = r.done q h ∙ inside q h
      at q (no h) = r.ahead q (omega arith) ∙ u.ahead i q (omega arith) ∙ outside q (omega arith)

      go : (p q : ℕ) → p < i + 1 → Dec (p ≡ i) → new p q ≡ goal p q
      go p q h (yes s) = subst (λ (y : ℕ). new y q ≡ goal y q) (sym s) (at q (dec_lt q n))
      go p q h (no s) = r.others p q s ∙ u.done p q (omega arith)

  -- past the last row
  pub rows_all : {i : ℕ} → RowsUpto old new goal i → ((p q : ℕ) → i ≤ p → old p q ≡ goal p q) → (p q : ℕ) → new p q ≡ goal p q
  rows_all {i} u e p q = go (dec_lt p i)
    where
      go : Dec (p < i) → new p q ≡ goal p q
      go (yes h) = u.done p q h
      go (no h) = u.ahead p q (omega arith) ∙ e p q (omega arith)
