-- How closing ends, from what stands after its stages. Assumes nothing.
use Rattle.std.proofs.Common.{◌≡◌, ℕ, ◌+◌, ◌<◌, ◌≤◌, true, false, ◌⊎◌, List, length, Some, None, Option, sym, refl, ◌∙◌, subst, inl, inr, arith}
use mathlib.Core.Path.{fun_ext}
use native.Mathlib.Decide.{dec_lt}
use Rattle.spans.specs.Kind.{Kind, Laws}
use Rattle.networks.specs.Network.{Network}
use Rattle.networks.specs.Hull.{hulls}
use Rattle.networks.specs.Plan.{Plan}
use Rattle.networks.specs.Legal.{Legal}
use Rattle.distances.specs.Limits.{largest_total}
use Rattle.distances.specs.Graph.{Edge}
use Rattle.distances.specs.Distance.{entry_of, Least, LeastTotals}
use Rattle.distances.specs.DateRule.{ByDateRule}
use Rattle.distances.specs.declared.link.Link.TheVariants.{Direct}
use Rattle.distances.specs.Table.{Table, Links, is_direct, AtMost, stage, stage_links, closes, Done}
use Rattle.distances.specs.Edges.{least_edge}
use Rattle.distances.specs.Begun.{begun}
use Rattle.distances.specs.Matrix.{table}
use Rattle.distances.specs.Closing.{Closes, CannotClose}
use Rattle.distances.proofs.Ways.{a_way}
use Rattle.distances.proofs.Matrices.{square_inside, square_outside}
use Rattle.distances.proofs.OneDating.{rule_same}
use Rattle.distances.proofs.Stages.{Stands, stands_begun, stands_next, closing_edge, stands_done, stands_least}
use Rattle.distances.proofs.Plans.{cycle_no_plan}
use Rattle.distances.proofs.Deciding.{sound, wide, room, ruled_plan, some_dates, one_least, done_table}

module _ {S : Type 0} {K : Kind S} (laws : Laws S K) (N : Network S) (legal : Legal K N) where
  abbrev pub Standing : Table S → Links → ℕ → Type 0
  Standing d links k = Stands K N largest_total d links k

  pub standing_begins : (d : Table S) (links : Links) → ((i j : ℕ) → d i j ≡ begun K N i j)
      → ((i j c : ℕ) (a : S) → least_edge K N (length N.conditions) i j ≡ Some (a, c) → links i j ≡ Direct c)
      → ((i j : ℕ) → is_direct (links i j) ≡ true) → Standing d links 0
  standing_begins d links filled coded straight =
      let same : d ≡ begun K N = fun_ext (λ i. fun_ext (λ j. filled i j)) in
      subst (λ (t : Table S). Standing t links 0) (sym same)
      (stands_begun laws N (sound laws N legal) largest_total (wide laws N legal) (room laws N legal) links coded straight legal.some_point)

  module _ (d : Table S) (links : Links) (k : ℕ) (s : Standing d links k) (below : k < N.points) where
    pub standing_steps : (e : Table S) (m : Links) → ((i : ℕ) → i < k → closes K d links k i ≡ false)
        → ((p q : ℕ) → e p q ≡ stage K d k p q) → ((p q : ℕ) → m p q ≡ stage_links K d links k p q) → Standing e m (k + 1)
    standing_steps e m none = stands_next laws N (sound laws N legal) largest_total (wide laws N legal) (room laws N legal) d links k s below none e m

    pub standing_refuses : (i : ℕ) → i < k → closes K d links k i ≡ true → (code : ℕ) → links i k ≡ Direct code → CannotClose K N links k i code
    standing_refuses i li found code back =
        let c = closing_edge laws N (sound laws N legal) largest_total (wide laws N legal) (room laws N legal) d links k s below i li found code back in
        let (cs, ps, x) = a_way N.points links c.falls k i in
        record { first_there = below; last_there = omega arith; closing = c; no_plan = cycle_no_plan laws N legal _ (c.negative cs ps x) }

  closed_matrix : (matrix : List (Option S)) (links : Links) → Standing (table N.points matrix) links N.points → Closes K N matrix
  closed_matrix matrix links s =
      let d = table N.points matrix in
      let done = stands_done laws N (sound laws N legal) largest_total (wide laws N legal) (room laws N legal) d links s in
      let (dates, rule) = some_dates laws N legal d done s.below in
      record {
        least = λ i j li lj. subst (λ (x : Option S). Least K N i j x) (square_inside None N.points matrix i j li lj)
            (stands_least laws N (sound laws N legal) largest_total (wide laws N legal) (room laws N legal) d links s i j li lj);
        plan = (dates, ruled_plan laws N legal d done s.below dates rule);
      }

  -- of a matrix that is read with n rows, after k stages, where both are the number of points
  pub standing_ends : (n k : ℕ) (matrix : List (Option S)) (links : Links) → n ≡ N.points → k ≡ N.points → Standing (table n matrix) links k → Closes K N matrix
  standing_ends n k matrix links e f s =
      closed_matrix matrix links
      (subst (λ (m : ℕ). Standing (table m matrix) links N.points) e (subst (λ (m : ℕ). Standing (table n matrix) links m) f s))

-- ---- dates of a closed matrix
module _ {S : Type 0} {K : Kind S} (laws : Laws S K) (N : Network S) (legal : Legal K N) (matrix : List (Option S)) (closes-it : Closes K N matrix) where
  abbrev closed : Table S
  closed = table N.points matrix

  -- least totals are unique, so the matrix is the table that the stages give
  same_table : (d : Table S) → Done K N.points largest_total d → LeastTotals K N d → d ≡ closed
  same_table d done least = fun_ext (λ i. fun_ext (λ j. by_points i j (dec_lt i N.points) (dec_lt j N.points)))
    where
      outside : (i j : ℕ) (x : Option S) → d i j ≡ x → (N.points ≤ i) ⊎ (N.points ≤ j) → d i j ≡ closed i j
      outside i j None e far = e ∙ sym (square_outside None N.points matrix i j far)
      outside i j (Some a) e (inl h) = absurd (omega (arith, (done.inside i j a e).0))
      outside i j (Some a) e (inr h) = absurd (omega (arith, (done.inside i j a e).1))

      by_points : (i j : ℕ) → Dec (i < N.points) → Dec (j < N.points) → d i j ≡ closed i j
      by_points i j (yes li) (yes lj) =
          one_least laws N i j (d i j) _ (least i j li lj) (closes-it.least i j li lj) ∙ sym (square_inside None N.points matrix i j li lj)
      by_points i j (no li) lj = outside i j (d i j) refl (inl (omega arith))
      by_points i j (yes li) (no lj) = outside i j (d i j) refl (inr (omega arith))

  matrix_done : Done K N.points largest_total closed × ((c i j : ℕ) (a : S) → Edge K N c i j a → AtMost K (closed i j) a)
  matrix_done =
      let (d, done, least, below) = done_table laws N legal closes-it.plan in
      let same = same_table d done least in (
        subst (λ (t : Table S). Done K N.points largest_total t) same done,
        subst (λ (t : Table S). (c i j : ℕ) (a : S) → Edge K N c i j a → AtMost K (t i j) a) same below,
      )

  dates_of : (dates : List S) → ByDateRule K closed dates N.points → ByDateRule K (entry_of N.points matrix) dates N.points × Plan K (hulls N) dates
  dates_of dates rule = (
    rule_same K closed (entry_of N.points matrix) N.points (square_inside None N.points matrix) dates rule,
    ruled_plan laws N legal closed matrix_done.0 matrix_done.1 dates rule,
  )

  -- in terms of the number n that the code has
  module _ (n : ℕ) (e : n ≡ N.points) where
    pub numbered_done : Done K n largest_total (table n matrix)
    numbered_done = subst (λ (m : ℕ). Done K m largest_total (table m matrix)) (sym e) matrix_done.0

    pub numbered_dates : (dates : List S) → ByDateRule K (table n matrix) dates n → ByDateRule K (entry_of n matrix) dates n × Plan K (hulls N) dates
    numbered_dates dates rule =
        let both = dates_of dates (subst (λ (m : ℕ). ByDateRule K (table m matrix) dates m) e rule) in
        (subst (λ (m : ℕ). ByDateRule K (entry_of m matrix) dates m) (sym e) both.0, both.1)
