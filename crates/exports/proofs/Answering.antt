-- What an answer of tighten says of the network: it can be granted, or it cannot. Assumes nothing.
use Rattle.std.proofs.Common.{◌≡◌, ℕ, ◌+◌, ◌*◌, ◌≤◌, Bool, true, false, ◌&&◌, List, length, Some, None, Ok, Err, Option, Result, is_ok, sym, refl, ap, subst, arith}
use Rattle.std.specs.Bool.{MatchBool}
use Rattle.std.proofs.lemmas.Bool.{leb-true}
use Rattle.spans.specs.Kind.{Kind}
use Rattle.networks.specs.declared.fault.Fault.{Fault}
use Rattle.networks.specs.Network.{Network}
use Rattle.networks.specs.Hull.{hulls}
use Rattle.networks.specs.Plan.{HasPlan}
use Rattle.networks.specs.Refusal.{Refusal, or_else, refuse_unless}
use Rattle.distances.specs.Tightening.{Tightens, AfterChecks}
use Rattle.exports.specs.Meaning.{Grantable, AllOrNone}

some_none : {A : Type 0} (x : A) → None ≡ Some x → ⊥
some_none x e = absurd (grind arith)

neither : (q r : Option Refusal) → or_else q r ≡ None → (q ≡ None) × (r ≡ None)
neither None r e = (refl, e)
neither (Some q) r e = absurd (grind arith)

held : (b : Bool) (n d : ℕ) → refuse_unless b n d ≡ None → b ≡ true
held true n d e = refl
held false n d e = absurd (grind arith)

both : (a b : Bool) → a && b ≡ true → (a ≡ true) × (b ≡ true)
both true b e = (refl, e)
both false b e = absurd (grind arith)

-- a network that passes the checks has few points, and there is room for its entries
pub granted_room : {S : Type 0} (K : Kind S) (N : Network S) (m c : ℕ) → Grantable K N m c → (N.points ≤ 48) × (N.points * N.points ≤ m)
granted_room K N m c g =
    let two = neither _ _ g.0 in
    let points = both _ _ (held _ 1 0 (neither _ _ two.0).0) in
    let room = both _ _ (held _ 8 0 two.1) in
    (leb-true _ _ points.1, leb-true _ _ room.0)

module _ {S : Type 0} (K : Kind S) (N : Network S) (matrix matrix' : List (Option S)) (cycle cycle' : List ℕ) where
  passed : (x : Unit {0}) (o : Option Refusal) → AfterChecks K N matrix cycle o (Ok x) matrix' cycle' → (o ≡ None) × HasPlan K (hulls N)
  passed x (Some q) a = absurd (some_none q a.refusal)
  passed x None a = (refl, a.plan)

  pub ok_grantable : (x : Unit {0}) → Tightens K N matrix cycle (Ok x) matrix' cycle' → (m c : ℕ) → length matrix ≡ m → length cycle ≡ c → Grantable K N m c
  ok_grantable x t m c e f = subst (λ (y : ℕ). Grantable K N m y) f (subst (λ (y : ℕ). Grantable K N y (length cycle)) e (passed x _ t))

  refused : (f : Fault) (o : Option Refusal) → AfterChecks K N matrix cycle o (Err f) matrix' cycle' → o ≡ None → HasPlan K (hulls N) → ⊥
  refused f (Some q) a e plan = some_none q (sym e)
  refused f None a e plan = a.2.no_plan plan

  pub err_not : (f : Fault) → Tightens K N matrix cycle (Err f) matrix' cycle' → (m c : ℕ) → length matrix ≡ m → length cycle ≡ c → Grantable K N m c → ⊥
  err_not f t m c d e g =
      let h : Grantable K N (length matrix) (length cycle) =
      subst (λ (y : ℕ). Grantable K N (length matrix) y) (sym e) (subst (λ (y : ℕ). Grantable K N y c) (sym d) g) in
      refused f _ t h.0 h.1

  pub answered : (r : Result (Unit {0}) Fault) → Tightens K N matrix cycle r matrix' cycle' → (m c : ℕ) → length matrix ≡ m → length cycle ≡ c
      → MatchBool (is_ok r) (Grantable K N m c) (Grantable K N m c → ⊥)
  answered (Ok x) t = ok_grantable x t
  answered (Err f) t = err_not f t

module _ {S : Type 0} (K : Kind S) (N : Network S) (m c i granted : ℕ) (so_far : AllOrNone K N m c i granted) where
  pub one_more : Grantable K N m c → AllOrNone K N m c (i + 1) (granted + 1)
  one_more can = record { all = λ h. ap (λ (k : ℕ). k + 1) (so_far.all h); none = λ h. absurd (h can) }

  pub no_more : (Grantable K N m c → ⊥) → AllOrNone K N m c (i + 1) granted
  no_more cannot = record { all = λ h. absurd (cannot h); none = λ h. so_far.none h }
