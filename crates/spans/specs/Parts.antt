-- Values that are there under a test, and an order by its three cases. Assumes nothing.
use Rattle.std.specs.Prelude.{◌≡◌, Bool, true, false, cond, ◌⊎◌, is_some, Some, None, Option, ◌≢◌, refl}
use Rattle.std.proofs.Common.{inl, inr, arith}
use Rattle.std.proofs.lemmas.Bool.{false_from_ne_true}
use Rattle.spans.specs.Kind.{Kind, Compared, is_less, is_same, is_greater}

-- ---- a value under a test
pub guard_value : {X : Type 0} (b : Bool) (o : Option X) (x : X) → cond b o None ≡ Some x → o ≡ Some x
guard_value true o x e = e
guard_value false o x e = absurd (grind arith)

pub guard_there : {X : Type 0} (b : Bool) (o : Option X) → b ≡ true → is_some o ≡ true → is_some (cond b o None) ≡ true
guard_there true o e h = h
guard_there false o e h = e

pub guard_test : {X : Type 0} (b : Bool) (o : Option X) → is_some (cond b o None) ≡ true → b ≡ true
guard_test true o e = refl
guard_test false o e = e

-- ---- exactly one of three, from an order that is irreflexive and carries over
module _ {S : Type 0} (K : Kind S)
    (never_itself : (a : S) → K.less a a ≢ true)
    (over : (a b c : S) → K.less a b ≡ true → K.less b c ≡ true → K.less a c ≡ true) where
  pub one_of_three : (a b : S) → (K.less a b ≡ true) ⊎ ((a ≡ b) ⊎ (K.less b a ≡ true)) → Compared K a b
  one_of_three a b (inl h) =
      is_less h (λ e. never_itself b (rw e at h)) (false_from_ne_true _ (λ k. never_itself a (over a b a h k)))
  one_of_three a b (inr (inl e)) =
      is_same (false_from_ne_true _ (λ h. never_itself b (rw e at h))) e (false_from_ne_true _ (λ h. never_itself b (rw e at h)))
  one_of_three a b (inr (inr k)) =
      is_greater (false_from_ne_true _ (λ h. never_itself a (over a b a h k))) (λ e. never_itself b (rw e at k)) k
