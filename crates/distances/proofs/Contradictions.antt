-- The cycle that closing found, as it stands in memory; and what tighten answers, by what the checks say. Assumes nothing.
use Rattle.std.proofs.Common.{◌≡◌, ℕ, ◌*◌, ◌≤◌, List, [], ◌∷◌, ◌++◌, drop, replicate, Some, None, Option, Result, sym, ap, ◌∙◌, subst, arith, length-append}
use Rattle.std.proofs.lemmas.Nat.{mul-le}
use Rattle.std.proofs.lemmas.List.{length-replicate}
use Rattle.spans.specs.Kind.{Kind}
use Rattle.networks.specs.declared.fault.Fault.{Fault}
use Rattle.networks.specs.Limits.{most_points}
use Rattle.networks.specs.Network.{Network}
use Rattle.networks.specs.Legal.{Legal}
use Rattle.networks.specs.Refusal.{Refusal}
use Rattle.networks.specs.Faults.{refusal_in}
use Rattle.distances.specs.declared.link.Link.{Link}
use Rattle.distances.specs.Table.{Links}
use Rattle.distances.specs.Matrix.{linked, Rest}
use Rattle.distances.specs.Memory.{blanked}
use Rattle.distances.specs.Unfolding.{CycleWritten}
use Rattle.distances.specs.Closing.{CannotClose}
use Rattle.distances.specs.Tightening.{Contradicted, Ends, AfterChecks}

pub entries_few : (n : ℕ) → n ≤ most_points → n * n ≤ 2304
entries_few n h = mul-le n n 48 48 h h

-- entries blanked after others were written before them
pub blanked_after : {S : Type 0} (n : ℕ) (old mid new : List (Option S)) → Rest n old mid → new ≡ blanked n mid → new ≡ blanked n old
blanked_after n old mid new rest is =
    let count = length-replicate (n * n) None in
    is ∙ ap (λ (l : List _). replicate (n * n) None ++ l)
    (ap (λ (k : ℕ). drop k mid) count ∙ rest ∙ ap (λ (k : ℕ). drop k old) (sym count))

module _ {S : Type 0} (K : Kind S) (N : Network S) (matrix : List (Option S)) (cycle : List ℕ) where
  pub contradicted : (n : ℕ) (links : Links) (first last code r : ℕ) (closed after : List (Option S)) (written : List ℕ) → Legal K N → n ≡ N.points
      → CannotClose K N links first last code → Rest N.points matrix closed → CycleWritten links first last code cycle written r
      → after ≡ blanked n closed → Contradicted K N matrix cycle r after written
  contradicted n links first last code r closed after written legal e never rest c blank = record {
    legal = legal;
    no_plan = never.no_plan;
    codes = c.edges ++ code ∷ [];
    counted = omega (arith, c.counted, length-append c.edges (code ∷ []));
    negative = never.closing.negative c.edges c.points c.way;
    written = c.written;
    blank = blanked_after N.points matrix closed after rest (subst (λ (m : ℕ). after ≡ blanked m closed) e blank);
  }

  -- in terms of the number n that the code has
  pub with_number : (n : ℕ) (links : List Link) (first last code : ℕ) → n ≡ N.points
      → CannotClose K N (linked N.points links) first last code → CannotClose K N (linked n links) first last code
  with_number n links first last code e = subst (λ (m : ℕ). CannotClose K N (linked m links) first last code) (sym e)

  -- ---- by what the checks say
  module _ (x : Option Refusal) (r : Result (Unit {0}) Fault) (matrix' : List (Option S)) (cycle' : List ℕ) where
    pub after_refusal : refusal_in r ≡ x → (q : Refusal) → refusal_in r ≡ Some q → matrix' ≡ matrix → cycle' ≡ cycle → AfterChecks K N matrix cycle x r matrix' cycle'
    after_refusal e q f m c =
        subst (λ (o : Option Refusal). AfterChecks K N matrix cycle o r matrix' cycle') (sym f ∙ e) (record { refusal = f; same_matrix = m; same_cycle = c })

    pub after_passing : None ≡ x → Ends K N matrix cycle r matrix' cycle' → AfterChecks K N matrix cycle x r matrix' cycle'
    after_passing e ends = subst (λ (o : Option Refusal). AfterChecks K N matrix cycle o r matrix' cycle') e ends
