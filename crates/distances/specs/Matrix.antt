-- A matrix of n rows in a list: the entry of (i, j) stands at place i×n + j. Assumes nothing.
--     square z n l         the list read as a table, z outside n×n
use Rattle.std.specs.Prelude.{◌≡◌, ℕ, ◌+◌, ◌*◌, ◌<◌, ◌≤◌, cond, List, drop, Some, None, Option, ◌≢◌, nat_lt, slice_index_or}
use Rattle.spans.specs.Kind.{Kind}
use Rattle.distances.specs.declared.link.Link.{Link}
use Rattle.distances.specs.declared.link.Link.TheVariants.{Direct}
use Rattle.distances.specs.Table.{Table, Links, stage, stage_links}

abbrev pub square : {A : Type 0} → A → ℕ → List A → ℕ → ℕ → A
square z n l i j = cond (nat_lt i n) (cond (nat_lt j n) (slice_index_or l (i * n + j) z) z) z

abbrev pub table : {S : Type 0} → ℕ → List (Option S) → Table S
table n l = square None n l

abbrev pub linked : ℕ → List Link → Links
linked n l = square (Direct 0) n l

-- what stands past n×n is as it was
abbrev pub Rest : {A : Type 0} → ℕ → List A → List A → Type 0
Rest n old new = drop (n * n) new ≡ drop (n * n) old

-- row i has come to `goal` below j, and nothing else has changed
pub record RowUpto {A : Type 0} (old new goal : ℕ → ℕ → A) (i j : ℕ) : Type 0 where
  pub done : (q : ℕ) → q < j → new i q ≡ goal i q
  pub ahead : (q : ℕ) → j ≤ q → new i q ≡ old i q
  pub others : (p q : ℕ) → (p ≢ i) → new p q ≡ old p q

-- the rows below i have come to `goal`, and nothing else has changed
pub record RowsUpto {A : Type 0} (old new goal : ℕ → ℕ → A) (i : ℕ) : Type 0 where
  pub done : (p q : ℕ) → p < i → new p q ≡ goal p q
  pub ahead : (p q : ℕ) → i ≤ p → new p q ≡ old p q

-- Row i goes on from `start` to `end` by the stage over k, from whatever tables it began with an entry `front` to k.
abbrev pub RowTaken : {S : Type 0} → Kind S → ℕ → ℕ → ℕ → S → List (Option S) → List (Option S) → List Link → List Link → ℕ → ℕ → Type 0
RowTaken {S} K n k i front old new links relinked start end =
    (d : Table S) (m : Links) → d i k ≡ Some front
    → RowUpto d (table n old) (stage K d k) i start → RowUpto m (linked n links) (stage_links K d m k) i start
    → RowUpto d (table n new) (stage K d k) i end × RowUpto m (linked n relinked) (stage_links K d m k) i end
