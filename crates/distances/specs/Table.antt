-- Tables of spans that may be missing, with links, and one stage of closing. Assumes nothing.
-- For the steps of tighten and for proofs; what tighten promises is said by routes, without these.
--     Table S               a span, or none, for each two points
--     Links                 for each two points the edge by which the way goes, or the point over which it goes
--     rank l                0 for an edge, and m + 1 over m
--     stage K d k           the table after ways over k were taken where they are shorter
use Rattle.std.specs.Prelude.{◌≡◌, ℕ, suc, ◌<◌, ◌≤◌, Bool, true, false, cond, Some, None, Option, ◌==◌}
use Rattle.spans.specs.Kind.{Kind, ◌≤⟨◌⟩◌}
use Rattle.spans.specs.Sums.{◌⊕⟨◌⟩◌}
use Rattle.distances.specs.declared.link.Link.{Link}
use Rattle.distances.specs.declared.link.Link.TheVariants.{Direct, Over}

abbrev pub Table : Type 0 → Type 0
Table S = ℕ → ℕ → Option S

abbrev pub Links : Type 0
Links = ℕ → ℕ → Link

abbrev pub is_direct : Link → Bool
is_direct (Direct c) = true
is_direct (Over m) = false

abbrev pub rank : Link → ℕ
rank (Direct c) = 0
rank (Over m) = suc m

module _ {S : Type 0} (K : Kind S) where
  -- the sum of two entries that are both there
  abbrev pub joined : Option S → Option S → Option S
  joined None y = None
  joined (Some a) None = None
  joined (Some a) (Some b) = K.plus a b

  -- y is there, and x is missing or greater
  abbrev pub beats : Option S → Option S → Bool
  beats None x = false
  beats (Some b) None = true
  beats (Some b) (Some a) = K.less b a

  -- there, and below zero
  abbrev pub below_zero : Option S → Bool
  below_zero None = false
  below_zero (Some s) = K.less s K.zero

  -- x is there and not above s
  abbrev pub AtMost : Option S → S → Type 0
  AtMost None s = ⊥
  AtMost (Some a) s = a ≤⟨ K ⟩ s

  -- the way over k from i to j is shorter than the entry; never asked of a point and itself
  abbrev pub shortens : Table S → ℕ → ℕ → ℕ → Bool
  shortens d k i j = cond (i == j) false (beats (joined (d i k) (d k j)) (d i j))

  abbrev pub stage : Table S → ℕ → Table S
  stage d k i j = cond (shortens d k i j) (joined (d i k) (d k j)) (d i j)

  abbrev pub stage_links : Table S → Links → ℕ → Links
  stage_links d links k i j = cond (shortens d k i j) (Over k) (links i j)

  -- the edge from i to k closes the way from k to i below zero
  abbrev pub closes : Table S → Links → ℕ → ℕ → Bool
  closes d links k i = cond (is_direct (links i k)) (below_zero (joined (d i k) (d k i))) false

  -- no way over any point is shorter than its entry, where the sums are there
  abbrev pub Closed : Table S → Type 0
  Closed d = (i m j : ℕ) (a c : S) → d i m ≡ Some a → d m j ≡ Some c → AtMost (d i j) (a ⊕⟨ K ⟩ c)

  -- each entry that is there has a size of at most b
  abbrev pub Small : Table S → ℕ → Type 0
  Small d b = (i j : ℕ) (a : S) → d i j ≡ Some a → K.size a ≤ b

  -- a table between n points whose closing is done, with entries of size at most b
  pub record Done (n b : ℕ) (d : Table S) : Type 0 where
    pub inside : (i j : ℕ) (a : S) → d i j ≡ Some a → (i < n) × (j < n)
    pub diagonal : (i : ℕ) → i < n → d i i ≡ Some K.zero
    pub small : Small d b
    pub closed : Closed d
