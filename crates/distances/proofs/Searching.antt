-- What `find_map` over the numbers below k answers, where a call leaves its closure as it was. Assumes nothing.
use Rattle.std.proofs.Common.{◌≡◌, ℕ, ◌+◌, ◌<◌, true, Some, None, Option, MatchOption, IfSome, IsSomeAnd, ap, ◌∙◌, subst, arith}
use denote.Param.Members.{Mut, Called}
use Rattle.std.proofs.iter.runs.Sources.{range_runs}
use Rattle.std.proofs.iter.Yields.{nat_range_steps}
use Rattle.std.specs.Option.{option_map}
use Rattle.std.specs.Iterator.Runs.{Run, SomeRun, AllItemsGive, IsFirstToGive, CallKeepsClosure}
use Rattle.std.specs.declared.ops.Range.{Range}

if_there : {A : Type 0} (P : A → Type 0) (o : Option A) (x : A) → IfSome o P → option_map (λ y. y) o ≡ Some x → P x
if_there P None x h e = absurd (grind arith)
if_there P (Some y) x h e = let same : y ≡ x = cc in subst P same h

is_there : {A : Type 0} (P : A → Type 0) (o : Option A) → IsSomeAnd o P → (x : A) × P x
is_there P None h = absurd h
is_there P (Some x) h = (x, h)

module _ {F E : Type 0} (g : Mut F (ℕ × Unit {0}) (Option E)) (f : F) (k : ℕ) (No : ℕ → Type 0) (Hit : E → Type 0)
    (keeps : CallKeepsClosure g f) (miss : (x : ℕ) → Called g f (x, tt) None f → No x) (hit : (x : ℕ) (y : E) → Called g f (x, tt) (Some y) f → Hit y) where
  by_run : (p : Run nat_range_steps) → p.from ≡ record { start = 0; end = k } → (r : Option E)
      → MatchOption r ((p.whole ≡ true) × AllItemsGive p g f None) (λ y. (i : ℕ) × (i < p.len) × (p.len ≡ i + 1) × IsFirstToGive p g f (Some y) None i)
      → MatchOption r ((i : ℕ) → i < k → No i) Hit
  by_run p e None (whole, all) =
      let up = range_runs p p.seen in
      let start : p.from.start ≡ 0 = ap (λ (s : Range ℕ). s.start) e in
      let end : p.from.end ≡ k = ap (λ (s : Range ℕ). s.end) e in
      λ i l. miss i (if_there _ (p.at i) i (all keeps i) (up.3 i (omega (arith, up.1 whole)) ∙ ap (λ (n : ℕ). Some n) (omega arith)))
  by_run p e (Some y) (i, lt, len, first) = let (x, called) = is_there _ (p.at i) ((first keeps).0) in hit x y called

  -- over the numbers below e, where e is k
  pub found : (r : Option E) {e : ℕ}
      → SomeRun nat_range_steps (record { start = 0; end = e }) (λ p. MatchOption r ((p.whole ≡ true) × AllItemsGive p g f None)
      (λ y. (i : ℕ) × (i < p.len) × (p.len ≡ i + 1) × IsFirstToGive p g f (Some y) None i))
      → e ≡ k → MatchOption r ((i : ℕ) → i < k → No i) Hit
  found r (p, from, m) same = by_run p (from ∙ ap (λ (z : ℕ). record { start = 0; end = z }) same) r m
