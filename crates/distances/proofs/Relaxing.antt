-- One stage of closing, entry by entry and row by row. Assumes nothing.
use Rattle.std.proofs.Common.{◌≡◌, ℕ, ◌+◌, ◌*◌, ◌<◌, ◌≤◌, Bool, true, false, cond, eqb, ◌⊎◌, List, length, get_or, set, Some, None, Option, sym, refl, ◌∙◌, subst, inl, inr, arith, eq-eqb}
use native.Mathlib.Decide.{dec_lt, ℕ_discrete}
use Rattle.std.proofs.lemmas.Bool.{ne_eqb, cond-false}
use Rattle.spans.specs.Kind.{Kind, Laws, reach}
use Rattle.spans.specs.Order.{le_of_eq}
use Rattle.spans.proofs.Group.{zero_left, sum_some}
use Rattle.distances.specs.declared.link.Link.{Link}
use Rattle.distances.specs.declared.link.Link.TheVariants.{Direct, Over}
use Rattle.distances.specs.Table.{Table, Links, joined, beats, shortens, stage, stage_links, Small}
use Rattle.distances.specs.Matrix.{table, linked, Rest, RowUpto, RowsUpto}
use Rattle.distances.proofs.Matrices.{square_read, Written, written_rest, row_step, rows_step, rows_pass}

-- ---- where a stage changes nothing
module _ {S : Type 0} (K : Kind S) (d : Table S) (k : ℕ) where
  pub stage_keeps : (i j : ℕ) → shortens K d k i j ≡ false → stage K d k i j ≡ d i j
  stage_keeps i j e = cond-false _ _ _ e

  pub link_keeps : (m : Links) (i j : ℕ) → shortens K d k i j ≡ false → stage_links K d m k i j ≡ m i j
  link_keeps m i j e = cond-false _ _ _ e

  -- at a point and itself
  pub itself : (i j : ℕ) → i ≡ j → shortens K d k i j ≡ false
  itself i j e = rw (eq-eqb i j e)

  off : (t : Bool) {x : Bool} → x ≡ false → cond t false x ≡ false
  off true e = refl
  off false e = e

  -- without a way to k, or from it
  pub no_way : (i j : ℕ) → (d i k ≡ None) ⊎ (d k j ≡ None) → shortens K d k i j ≡ false
  no_way i j h = off (eqb i j) (go (d i k) (d k j) (d i j) h)
    where
      go : (x y z : Option S) → (x ≡ None) ⊎ (y ≡ None) → beats K (joined K x y) z ≡ false
      go None y z o = refl
      go (Some a) None z o = refl
      go (Some a) (Some b) z (inl o) = absurd (grind arith)
      go (Some a) (Some b) z (inr o) = absurd (grind arith)

  -- from k itself, where every entry is within reach
  pub from_middle : Laws S K → d k k ≡ Some K.zero → Small K d reach → (j : ℕ) → shortens K d k k j ≡ false
  from_middle laws diagonal small j = off (eqb k j) (subst (λ (x : Option S). beats K (joined K x (d k j)) (d k j) ≡ false) (sym diagonal) (go (d k j) (small k j)))
    where
      go : (y : Option S) → ((b : S) → y ≡ Some b → K.size b ≤ reach) → beats K (joined K (Some K.zero) y) y ≡ false
      go None h = refl
      go (Some b) h =
          let s = h b refl in
          rw (sum_some laws K.zero b (omega (arith, laws.zero_size))) (le_of_eq laws (sym (zero_left laws b s)))

-- an entry relaxed at the place of (i, j) keeps what stands behind
pub place_rest : {S : Type 0} (K : Kind S) (n i j at back : ℕ) (front : S) (old new : List (Option S)) → i < n → j < n → n * n ≤ length old → at ≡ i * n + j
    → new ≡ cond (beats K (joined K (Some front) (get_or old back None)) (get_or old at None)) (set old at (joined K (Some front) (get_or old back None))) old
    → Rest n old new
place_rest K n i j at back front old new p q room e is =
    let way = joined K (Some front) (get_or old back None) in
    let better = beats K way (get_or old at None) in
    let w : Written None n better way i j old new = record { row_there = p; column_there = q; room = room; is = subst (λ (x : ℕ). new ≡ cond better (set old x way) old) e is } in
    written_rest None n w

-- ---- one turn of a row
module _ {S : Type 0} (K : Kind S) (n k : ℕ) (d : Table S) where
  pub record Turn (i j : ℕ) (matrix : List (Option S)) (at : ℕ) (front : S) (back : ℕ) : Type 0 where
    pub row_there : i < n
    pub column_there : j < n
    pub middle_there : k < n
    pub apart : i ≡ j → ⊥
    pub room : n * n ≤ length matrix
    pub at_is : at ≡ i * n + j
    pub front_is : d i k ≡ Some front
    pub back_is : back ≡ k * n + j
    pub upto : RowUpto d (table n matrix) (stage K d k) i j

  -- the way that the turn finds, and whether it takes it
  abbrev pub way : List (Option S) → S → ℕ → Option S
  way matrix front back = joined K (Some front) (get_or matrix back None)

  abbrev pub taken : List (Option S) → ℕ → S → ℕ → Bool
  taken matrix at front back = beats K (way matrix front back) (get_or matrix at None)

  module _ {i j : ℕ} {matrix : List (Option S)} {at : ℕ} {front : S} {back : ℕ} (t : Turn i j matrix at front back) where
    reads_at : get_or matrix at None ≡ d i j
    reads_at =
        sym (square_read None n matrix i j at t.row_there t.column_there t.at_is) ∙ t.upto.ahead j (omega arith)

    reads_back : get_or matrix back None ≡ d k j
    reads_back = sym (square_read None n matrix k j back t.middle_there t.column_there t.back_is) ∙ go (ℕ_discrete k i)
      where
        go : Dec (k ≡ i) → table n matrix k j ≡ d k j
        go (yes h) = subst (λ (y : ℕ). table n matrix y j ≡ d y j) (sym h) (t.upto.ahead j (omega arith))
        go (no h) = t.upto.others k j h

    way_is : way matrix front back ≡ joined K (d i k) (d k j)
    way_is = rw (reads_back, t.front_is)

    taken_is : taken matrix at front back ≡ shortens K d k i j
    taken_is = rw (reads_back, reads_at, t.front_is, ne_eqb i j t.apart)

    written_matrix : {new : List (Option S)} → new ≡ cond (taken matrix at front back) (set matrix at (way matrix front back)) matrix
        → Written None n (shortens K d k i j) (joined K (d i k) (d k j)) i j matrix new
    written_matrix e = record {
      row_there = t.row_there;
      column_there = t.column_there;
      room = t.room;
      is = rw (← taken_is, ← way_is, ← t.at_is) e;
    }

    pub turn_matrix : (new : List (Option S)) → new ≡ cond (taken matrix at front back) (set matrix at (way matrix front back)) matrix
        → RowUpto d (table n new) (stage K d k) i (j + 1)
    turn_matrix new e = row_step None n (written_matrix e) t.upto refl

    pub turn_links : (m : Links) (links new : List Link) {link : Link} → n * n ≤ length links → link ≡ Over k
        → RowUpto m (linked n links) (stage_links K d m k) i j
        → new ≡ cond (taken matrix at front back) (set links at link) links
        → RowUpto m (linked n new) (stage_links K d m k) i (j + 1)
    turn_links m links new {link} room link-is u e = row_step (Direct 0) n w u refl
      where
        w : Written (Direct 0) n (shortens K d k i j) (Over k) i j links new
        w = record {
          row_there = t.row_there;
          column_there = t.column_there;
          room = room;
          is = rw (← taken_is, ← t.at_is, ← link-is) e;
        }

-- ---- the next row
module _ {S : Type 0} {K : Kind S} (laws : Laws S K) (n k : ℕ) (d : Table S) where
  pub record Next (i : ℕ) (matrix : List (Option S)) : Type 0 where
    pub diagonal : d k k ≡ Some K.zero
    pub small : Small K d reach
    pub outside : (q : ℕ) → n ≤ q → d k q ≡ None
    pub upto : RowsUpto d (table n matrix) (stage K d k) i

  module _ {i : ℕ} {matrix : List (Option S)} (t : Next i matrix) where
    -- row k is as it was
    next_back : (q : ℕ) → table n matrix k q ≡ d k q
    next_back q = go (dec_lt k i)
      where
        go : Dec (k < i) → table n matrix k q ≡ d k q
        go (yes h) = t.upto.done k q h ∙ stage_keeps K d k k q (from_middle K d k laws t.diagonal t.small q)
        go (no h) = t.upto.ahead k q (omega arith)

    next_here : (q : ℕ) → table n matrix i q ≡ d i q
    next_here q = t.upto.ahead i q (omega arith)

    next_goal : (q : ℕ) → stage K (table n matrix) k i q ≡ stage K d k i q
    next_goal q = simp (next_here k, next_back q, next_here q)

    -- by its entry to k
    pub next_matrix : (new : List (Option S)) → RowUpto (table n matrix) (table n new) (stage K (table n matrix) k) i n
        → RowsUpto d (table n new) (stage K d k) (i + 1)
    next_matrix new r =
        rows_step t.upto r (λ q h. next_goal q) (λ q h. sym (stage_keeps K d k i q (no_way K d k i q (inr (t.outside q h)))))

    pub next_links : (m : Links) (links new : List Link) → RowsUpto m (linked n links) (stage_links K d m k) i
        → RowUpto (linked n links) (linked n new) (stage_links K (table n matrix) (linked n links) k) i n
        → RowsUpto m (linked n new) (stage_links K d m k) (i + 1)
    next_links m links new u r =
        rows_step u r (λ q h. simp (next_here k, next_back q, next_here q, u.ahead i q (omega arith))) (λ q h. sym (link_keeps K d k m i q (no_way K d k i q (inr (t.outside q h)))))

    -- without one
    still : table n matrix i k ≡ None → (q : ℕ) → shortens K d k i q ≡ false
    still e q = no_way K d k i q (inl (sym (next_here k) ∙ e))

    pub pass_matrix : table n matrix i k ≡ None → RowsUpto d (table n matrix) (stage K d k) (i + 1)
    pass_matrix e = rows_pass t.upto (λ q. sym (stage_keeps K d k i q (still e q)))

    pub pass_links : (m : Links) (links : List Link) → table n matrix i k ≡ None → RowsUpto m (linked n links) (stage_links K d m k) i
        → RowsUpto m (linked n links) (stage_links K d m k) (i + 1)
    pass_links m links e u = rows_pass u (λ q. sym (link_keeps K d k m i q (still e q)))

    -- that of k itself
    same : i ≡ k → (q : ℕ) → shortens K d k i q ≡ false
    same e q = subst (λ (p : ℕ). shortens K d k p q ≡ false) (sym e) (from_middle K d k laws t.diagonal t.small q)

    pub same_matrix : i ≡ k → RowsUpto d (table n matrix) (stage K d k) (i + 1)
    same_matrix e = rows_pass t.upto (λ q. sym (stage_keeps K d k i q (same e q)))

    pub same_links : (m : Links) (links : List Link) → i ≡ k → RowsUpto m (linked n links) (stage_links K d m k) i
        → RowsUpto m (linked n links) (stage_links K d m k) (i + 1)
    same_links m links e u = rows_pass u (λ q. sym (link_keeps K d k m i q (same e q)))
