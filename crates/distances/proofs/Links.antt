-- Links: an edge is not a way over a point, and each has one code or one point. Assumes nothing.
use Rattle.std.proofs.Common.{◌≡◌, ℕ, true, ap, refl, arith}
use Rattle.std.proofs.lemmas.Bool.{both_ways}
use Rattle.distances.specs.declared.link.Link.{Link}
use Rattle.distances.specs.declared.link.Link.TheVariants.{Direct, Over}
use Rattle.distances.specs.Table.{is_direct, rank}

abbrev code : Link → ℕ
code (Direct c) = c
code (Over m) = 0

pub not_over : {l : Link} {c m : ℕ} → l ≡ Direct c → l ≡ Over m → ⊥
not_over p q = both_ways _ (ap is_direct q) (ap is_direct p)

pub same_code : {l : Link} {c e : ℕ} → l ≡ Direct c → l ≡ Direct e → c ≡ e
same_code p q = omega (arith, ap code p, ap code q)

pub same_point : {l : Link} {m n : ℕ} → l ≡ Over m → l ≡ Over n → m ≡ n
same_point p q = omega (arith, ap rank p, ap rank q)

pub direct_rank : (l : Link) → is_direct l ≡ true → rank l ≡ 0
direct_rank (Direct c) e = refl
direct_rank (Over m) e = absurd (both_ways _ refl e)

pub direct_code : (l : Link) → is_direct l ≡ true → (c : ℕ) × (l ≡ Direct c)
direct_code (Direct c) e = (c, refl)
direct_code (Over m) e = absurd (both_ways _ refl e)
