-- Filling a matrix with the least edges: one edge more, one zero more, and how it begins and ends. Assumes nothing.
use Rattle.std.proofs.Common.{◌≡◌, ℕ, ◌+◌, ◌*◌, ◌<◌, ◌≤◌, Bool, true, false, cond, eqb, ltb, List, length, get_or, set, replicate, Some, None, Option, sym, refl, ap, ◌∙◌, arith, le-ltb, lt-ltb, eq-eqb}
use native.Mathlib.Decide.{dec_lt, ℕ_discrete}
use Rattle.std.proofs.lemmas.Bool.{ne_eqb}
use Rattle.spans.specs.Kind.{Kind}
use Rattle.networks.specs.Network.{Network}
use Rattle.distances.specs.declared.edges.Edge.{Edge}
use Rattle.distances.specs.declared.edges.Edge.TheVariants.{Forward, Back}
use Rattle.networks.specs.Legal.{Legal}
use Rattle.distances.specs.Begun.{begun, Filled}
use Rattle.distances.specs.Edges.{Coded, coded, weight, only_at, condition_of, leaves, reaches, lesser, least_edge}
use Rattle.distances.specs.Matrix.{table, linked, Rest}
use Rattle.distances.specs.Memory.{put_first}
use Rattle.distances.specs.declared.link.Link.{Link}
use Rattle.distances.specs.declared.link.Link.TheVariants.{Direct}
use Rattle.distances.specs.Table.{Table, is_direct, beats}
use Rattle.distances.proofs.Matrices.{square_read, square_here, square_elsewhere, Written, written_here, written_elsewhere, written_rest, blank_square}

-- ---- an edge of a condition leads between points that are there
pub edge_there : {S : Type 0} {K : Kind S} (N : Network S) (e : Edge) → Legal K N → condition_of e < length N.conditions
    → (leaves N e < N.points) × (reaches N e < N.points)
edge_there N (Forward k) legal l = let c = legal.each_condition k l in (c.from_there, c.to_there)
edge_there N (Back k) legal l = let c = legal.each_condition k l in (c.to_there, c.from_there)

-- ---- one edge beside the least so far
module _ {S : Type 0} (K : Kind S) where
  lesser_none : (e : Coded S) → lesser K e None ≡ e
  lesser_none None = refl
  lesser_none (Some y) = refl

  picked : (e : Coded S) (c : ℕ) (x : Option S) → cond (beats K x (weight e)) x (weight e) ≡ weight (lesser K e (coded c x))
  picked None c None = refl
  picked None c (Some a) = refl
  picked (Some y) c None = refl
  picked (Some y) c (Some a) = go (K.less a y.0)
    where
      go : (t : Bool) → cond t (Some a) (Some y.0) ≡ weight (cond t (Some (a, c)) (Some y))
      go true = refl
      go false = refl

  abbrev code_in : Coded S → ℕ
  code_in None = 0
  code_in (Some y) = y.1

  picked_code : (e : Coded S) (c : ℕ) (x : Option S) (old : Link) (d : ℕ) (a : S) → (e ≡ Some (a, d) → old ≡ Direct d)
      → lesser K e (coded c x) ≡ Some (a, d) → cond (beats K x (weight e)) (Direct c) old ≡ Direct d
  picked_code None c None old d a h e = absurd (grind arith)
  picked_code None c (Some b) old d a h e = ap (λ (y : Coded S). Direct (code_in y)) e
  picked_code (Some y) c None old d a h e = h e
  picked_code (Some y) c (Some b) old d a h e = go (K.less b y.0) e
    where
      go : (t : Bool) → cond t (Some (b, c)) (Some y) ≡ Some (a, d) → cond t (Direct c) old ≡ Direct d
      go true f = ap (λ (y : Coded S). Direct (code_in y)) f
      go false f = h f

  only_here : (p q : ℕ) (x : Coded S) → only_at p q p q x ≡ x
  only_here p q x = simp (eq-eqb p p refl, eq-eqb q q refl)

  only_elsewhere : (p q i j : ℕ) (x : Coded S) → ((i ≡ p) × (j ≡ q) → ⊥) → only_at p q i j x ≡ None
  only_elsewhere p q i j x ne = go (ℕ_discrete p i) (ℕ_discrete q j)
    where
      go : Dec (p ≡ i) → Dec (q ≡ j) → only_at p q i j x ≡ None
      go (no h) o = simp (ne_eqb p i h)
      go (yes h) (no o) = simp (eq-eqb p i h, ne_eqb q j o)
      go (yes h) (yes o) = absurd (ne (sym h, sym o))

  -- the least so far, with the edge from p to q of the code c and the weight x
  abbrev pub with_edge : (ℕ → ℕ → Coded S) → ℕ → ℕ → ℕ → Option S → ℕ → ℕ → Coded S
  with_edge edges p q c x i j = lesser K (edges i j) (only_at p q i j (coded c x))

  module _ (n : ℕ) where
    -- the same edge, told otherwise
    pub same_edge : (edges : ℕ → ℕ → Coded S) {p p' q q' c c' : ℕ} {x x' : Option S} {matrix : List (Option S)} {links : List Link}
        → p ≡ p' → q ≡ q' → c ≡ c' → x ≡ x'
        → Filled n (with_edge edges p q c x) matrix links → Filled n (with_edge edges p' q' c' x') matrix links
    same_edge edges e f h k u = rw (← e, ← f, ← h, ← k) u

    -- the edge from p to q with the code c and the weight x, put into a matrix and its links
    pub record Put (p q c : ℕ) (x : Option S) (matrix new : List (Option S)) (links relinked : List Link) : Type 0 where
      pub at : ℕ
      pub row_there : p < n
      pub column_there : q < n
      pub room : n * n ≤ length matrix
      pub room_beside : n * n ≤ length links
      pub at_is : at ≡ p * n + q
      pub matrix_is : new ≡ cond (beats K x (get_or matrix at None)) (set matrix at x) matrix
      pub links_are : relinked ≡ cond (beats K x (get_or matrix at None)) (set links at (Direct c)) links

    module _ {p q c : ℕ} {x : Option S} {matrix new : List (Option S)} {links relinked : List Link} (t : Put p q c x matrix new links relinked) where
      put_matrix : (b : Bool) → beats K x (get_or matrix t.at None) ≡ b → Written None n b x p q matrix new
      put_matrix b e = record {
        row_there = t.row_there;
        column_there = t.column_there;
        room = t.room;
        is = rw (← e, ← t.at_is) t.matrix_is;
      }

      put_links : (b : Bool) → beats K x (get_or matrix t.at None) ≡ b → Written (Direct 0) n b (Direct c) p q links relinked
      put_links b e = record {
        row_there = t.row_there;
        column_there = t.column_there;
        room = t.room_beside;
        is = rw (← e, ← t.at_is) t.links_are;
      }

      pub put_rest : Rest n matrix new
      put_rest = written_rest None n (put_matrix _ refl)

      module _ (edges : ℕ → ℕ → Coded S) (filled : Filled n edges matrix links) where
        put_test : beats K x (get_or matrix t.at None) ≡ beats K x (weight (edges p q))
        put_test =
            ap (beats K x)
            (sym (square_read None n matrix p q t.at t.row_there t.column_there t.at_is) ∙ filled.weights p q)

        -- elsewhere nothing changes
        edge_else : (i j : ℕ) → ((i ≡ p) × (j ≡ q) → ⊥) → edges i j ≡ with_edge edges p q c x i j
        edge_else i j ne =
            sym (lesser_none (edges i j)) ∙ ap (lesser K (edges i j)) (sym (only_elsewhere p q i j (coded c x) ne))

        edge_here : lesser K (edges p q) (coded c x) ≡ with_edge edges p q c x p q
        edge_here = ap (lesser K (edges p q)) (sym (only_here p q (coded c x)))

        weigh_else : (i j : ℕ) → ((i ≡ p) × (j ≡ q) → ⊥) → table n new i j ≡ weight (with_edge edges p q c x i j)
        weigh_else i j ne = written_elsewhere None n (put_matrix _ refl) i j ne ∙ filled.weights i j ∙ ap weight (edge_else i j ne)

        weigh_here : table n new p q ≡ weight (with_edge edges p q c x p q)
        weigh_here =
            written_here None n (put_matrix _ put_test) ∙ ap (cond (beats K x (weight (edges p q))) x) (filled.weights p q)
            ∙ picked (edges p q) c x ∙ ap weight edge_here

        weigh : (i j : ℕ) → Dec (i ≡ p) → Dec (j ≡ q) → table n new i j ≡ weight (with_edge edges p q c x i j)
        weigh i j (no h) o = weigh_else i j (λ y. h y.0)
        weigh i j (yes h) (no o) = weigh_else i j (λ y. o y.1)
        weigh i j (yes h) (yes o) = rw (h, o) weigh_here

        beside_else : (i j d : ℕ) (a : S) → ((i ≡ p) × (j ≡ q) → ⊥) → with_edge edges p q c x i j ≡ Some (a, d) → linked n relinked i j ≡ Direct d
        beside_else i j d a ne e =
            written_elsewhere (Direct 0) n (put_links _ refl) i j ne ∙ filled.codes_beside i j d a (edge_else i j ne ∙ e)

        beside_here : (d : ℕ) (a : S) → with_edge edges p q c x p q ≡ Some (a, d) → linked n relinked p q ≡ Direct d
        beside_here d a e =
            written_here (Direct 0) n (put_links _ put_test)
            ∙ picked_code (edges p q) c x (linked n links p q) d a (filled.codes_beside p q d a) (edge_here ∙ e)

        beside : (i j d : ℕ) (a : S) → Dec (i ≡ p) → Dec (j ≡ q) → with_edge edges p q c x i j ≡ Some (a, d) → linked n relinked i j ≡ Direct d
        beside i j d a (no h) o = beside_else i j d a (λ y. h y.0)
        beside i j d a (yes h) (no o) = beside_else i j d a (λ y. o y.1)
        beside i j d a (yes h) (yes o) = rw (h, o) (beside_here d a)

        straight_else : (i j : ℕ) → ((i ≡ p) × (j ≡ q) → ⊥) → is_direct (linked n relinked i j) ≡ true
        straight_else i j ne = ap is_direct (written_elsewhere (Direct 0) n (put_links _ refl) i j ne) ∙ filled.straight i j

        straight_here : is_direct (linked n relinked p q) ≡ true
        straight_here = ap is_direct (written_here (Direct 0) n (put_links _ put_test)) ∙ either (beats K x (weight (edges p q)))
          where
            either : (b : Bool) → is_direct (cond b (Direct c) (linked n links p q)) ≡ true
            either true = refl
            either false = filled.straight p q

        straight : (i j : ℕ) → Dec (i ≡ p) → Dec (j ≡ q) → is_direct (linked n relinked i j) ≡ true
        straight i j (no h) o = straight_else i j (λ y. h y.0)
        straight i j (yes h) (no o) = straight_else i j (λ y. o y.1)
        straight i j (yes h) (yes o) = rw (h, o) straight_here

        -- filled with one edge more
        pub put_filled : Filled n (with_edge edges p q c x) new relinked
        put_filled = record {
          weights = λ i j. weigh i j (ℕ_discrete i p) (ℕ_discrete j q);
          codes_beside = λ i j d a. beside i j d a (ℕ_discrete i p) (ℕ_discrete j q);
          straight = λ i j. straight i j (ℕ_discrete i p) (ℕ_discrete j q);
        }

-- ---- before the first edge
pub none_filled : {S : Type 0} (K : Kind S) (N : Network S) (n : ℕ) (old : List (Option S)) (links : List Link)
    → Filled n (least_edge K N 0) (put_first (replicate (n * n) None) old) (put_first (replicate (n * n) (Direct 0)) links)
none_filled K N n old links = record {
  weights = blank_square None n None old;
  codes_beside = λ i j c a e. absurd (grind arith);
  straight = λ i j. ap is_direct (blank_square (Direct 0) n (Direct 0) links i j);
}

-- ---- after the last, with zeros on the diagonal
pub begun_is : {S : Type 0} (K : Kind S) (N : Network S) (n : ℕ) (matrix : List (Option S)) (links : List Link) → n ≡ N.points
    → Filled n (least_edge K N (length N.conditions)) matrix links
    → (i j : ℕ) → cond (eqb i j) (cond (ltb i n) (Some K.zero) None) (table n matrix i j) ≡ begun K N i j
begun_is {S} K N n matrix links e f i j =
    ap (cond (eqb i j) (cond (ltb i n) (Some K.zero) None)) (f.weights i j)
    ∙ ap (λ (m : ℕ). cond (eqb i j) (cond (ltb i m) (Some K.zero) None) (weight (least_edge K N (length N.conditions) i j))) e

-- ---- zeros
module _ {S : Type 0} (n : ℕ) (z : Option S) (d : Table S) where
  -- the diagonal has z below m
  abbrev pub Zeros : List (Option S) → ℕ → Type 0
  Zeros matrix m = (i j : ℕ) → table n matrix i j ≡ cond (eqb i j) (cond (ltb i m) z (d i j)) (d i j)

  below_apart : (i m : ℕ) → (i ≡ m → ⊥) → ltb i m ≡ ltb i (m + 1)
  below_apart i m ne = go (dec_lt i m)
    where
      go : Dec (i < m) → ltb i m ≡ ltb i (m + 1)
      go (yes h) = lt-ltb i m h ∙ sym (lt-ltb i (m + 1) (omega arith))
      go (no h) = le-ltb i m (omega arith) ∙ sym (le-ltb i (m + 1) (omega arith))

  pub zeros_more : (matrix : List (Option S)) (m : ℕ) → m < n → n * n ≤ length matrix → Zeros matrix m → Zeros (set matrix (m * n + m) z) (m + 1)
  zeros_more matrix m lt room u i j = go (ℕ_discrete i m) (ℕ_discrete j m)
    where
      go : Dec (i ≡ m) → Dec (j ≡ m)
          → table n (set matrix (m * n + m) z) i j ≡ cond (eqb i j) (cond (ltb i (m + 1)) z (d i j)) (d i j)
      go (yes h) (yes o) =
          rw (h, o) (square_here None n matrix m m z lt lt room ∙ simp (eq-eqb m m refl, lt-ltb m (m + 1) (omega arith)))
      go (yes h) (no o) =
          let ne : i ≡ j → ⊥ = λ e. o (sym e ∙ h) in
          square_elsewhere None n matrix m m z lt i j (λ y. o y.1) ∙ u i j ∙ simp (ne_eqb i j ne)
      go (no h) o = square_elsewhere None n matrix m m z lt i j (λ y. h y.0) ∙ u i j ∙ simp (below_apart i m h)
