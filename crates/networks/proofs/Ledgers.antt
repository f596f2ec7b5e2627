-- What each question finds in rows. Assumes nothing.
use Rattle.std.proofs.Common.{◌≡◌, ℕ, zero, suc, ◌-◌, ◌<◌, ◌≤◌, List, [], ◌∷◌, ◌++◌, map, length, get_or, take, replicate, sym, refl, ap, ◌∙◌, arith, length-append, length-take}
use lib.ListN.{length-replicate}
use Rattle.std.proofs.lemmas.List.{get_or-map, get_or_past, length-map}
use Rattle.networks.specs.declared.window.Window.{Window}
use Rattle.networks.specs.declared.rows.Row.{Row}
use Rattle.networks.specs.Network.{Condition, no_condition, open_window, window_of}
use Rattle.networks.specs.Rows.{room, row_condition, row_of, MadeRow}
use Rattle.networks.specs.Steps.{RowThere, RowAbsent}

-- ---- a list filled up with its default
module _ {X : Type 0} (d : X) where
  all_default : (n i : ℕ) → get_or (replicate n d) i d ≡ d
  all_default zero i = refl
  all_default (suc n) zero = refl
  all_default (suc n) (suc i) = all_default n i

  pub filled_at : (n : ℕ) (xs : List X) (i : ℕ) → i < n → get_or (take n xs ++ replicate (n - length xs) d) i d ≡ get_or xs i d
  filled_at n [] i h = all_empty n
    where
      all_empty : (m : ℕ) → get_or (take m [] ++ replicate (m - 0) d) i d ≡ d
      all_empty zero = all_default (0 - 0) i
      all_empty (suc m) = all_default (suc m - 0) i
  filled_at zero (x ∷ xs) i h = absurd (omega arith)
  filled_at (suc n) (x ∷ xs) zero h = refl
  filled_at (suc n) (x ∷ xs) (suc i) h =
      let e : suc n - suc (length xs) ≡ n - length xs = omega arith in
      ap (λ (m : ℕ). get_or (take n xs ++ replicate m d) i d) e ∙ filled_at n xs i (omega arith)

  pub filled_length : (n : ℕ) (xs : List X) → length (take n xs ++ replicate (n - length xs) d) ≡ n
  filled_length n xs = simp (length-append, length-take, length-replicate) (omega arith)

-- ---- one row
module _ {S : Type 0} (r : Row S) where
  pub row_length : length (row_condition r).windows ≡ r.count
  row_length = filled_length open_window r.count (room r)

  module _ (w : ℕ) where
    pub row_at : (n : ℕ) → w ≡ n → w < r.count → get_or (room r) n open_window ≡ window_of (row_condition r) w
    row_at n e h = ap (λ (i : ℕ). get_or (room r) i open_window) (sym e) ∙ sym (filled_at open_window r.count (room r) w h)

    pub past_room : 4 ≤ w → w < r.count → open_window ≡ window_of (row_condition r) w
    past_room le h = sym (get_or_past (room r) w open_window le) ∙ row_at w refl h

    pub past_row : r.count ≤ w → open_window ≡ window_of (row_condition r) w
    past_row h = sym (get_or_past (row_condition r).windows w open_window (rw row_length h))

-- ---- the rows of a source
module _ {S : Type 0} (n : ℕ) (rows : List (Row S)) (k : ℕ) where
  pub row_there : (d : Row S) → k < length rows → RowThere n rows k (get_or rows k d)
  row_there d h =
      let e = get_or-map row_condition rows k d no_condition h in
      record { within = h; meant = e; counted = ap (λ (c : Condition S). length c.windows) e ∙ row_length (get_or rows k d) }

  pub row_absent : length rows ≤ k → RowAbsent n rows k
  row_absent h = record { past = h; meant = get_or_past (map row_condition rows) k no_condition (rw length-map h) }

-- ---- the row of up to four windows
short_row : {S : Type 0} (from to : ℕ) (ws : List (Window S)) → length ws ≤ 4
    → (row_condition (row_of from to ws)).windows ≡ ws
short_row from to [] h = refl
short_row from to (a ∷ []) h = refl
short_row from to (a ∷ (b ∷ [])) h = refl
short_row from to (a ∷ (b ∷ (c ∷ []))) h = refl
short_row from to (a ∷ (b ∷ (c ∷ (d ∷ [])))) h = refl
short_row from to (a ∷ (b ∷ (c ∷ (d ∷ (e ∷ ws))))) h = absurd (omega arith)

pub row_of_made : {S : Type 0} (from to : ℕ) (ws : List (Window S)) (r : Row S) → r ≡ row_of from to ws → MadeRow from to ws r
row_of_made {S} from to ws r e = record {
  row = e;
  kept = λ h. ap row_condition e ∙ ap (λ (vs : List (Window S)). record { from = from; to = to; windows = vs }) (short_row from to ws h);
}
