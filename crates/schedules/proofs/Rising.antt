-- A plan of the conditions is a plan of their hulls, since the windows of a legal condition rise. Assumes nothing.
use Rattle.std.proofs.Common.{◌≡◌, ℕ, zero, suc, ◌-◌, ◌<◌, ◌≤◌, List, length, Some, None, Option, unwrap_or, sym, refl, ap, ◌∙◌, subst, arith}
use native.Mathlib.Decide.{ℕ_discrete}
use Rattle.std.proofs.lemmas.List.{length-map}
use Rattle.spans.specs.Kind.{Kind, Laws, ◌≤⟨◌⟩◌}
use Rattle.spans.specs.Sums.{◌⊕⟨◌⟩◌}
use Rattle.spans.specs.Order.{lt_le, le_trans}
use Rattle.spans.proofs.Group.{sum_some, le_plus_left}
use Rattle.networks.specs.Limits.{largest_end, largest_date}
use Rattle.networks.specs.Network.{Condition, Network, condition_at, window_of}
use Rattle.networks.specs.Hull.{hull, hulls}
use Rattle.networks.specs.Plan.{date, LowKept, HighKept, Fits, Meets, Plan, HasPlan}
use Rattle.networks.specs.Legal.{Legal, LegalCondition}
use Rattle.layers.proofs.Hulls.{hull_one, hull_low_lem, hull_high_lem, hull_points}

-- ---- a plan of another network with the same points
module _ {S : Type 0} {K : Kind S} (M N : Network S) (dates : List S) where
  pub plan_with : M.points ≡ N.points → Plan K N dates → ((k : ℕ) → k < length M.conditions → Meets K dates (condition_at M k)) → Plan K M dates
  plan_with same plan meets = record {
    one_each = plan.one_each ∙ sym same;
    starts_at_zero = plan.starts_at_zero;
    in_reach = λ p l. plan.in_reach p (omega arith);
    meets = meets;
  }

-- ---- a lesser low end and a greater high end are kept too
module _ {S : Type 0} {K : Kind S} (laws : Laws S K) (x y : S) (near : K.size x ≤ largest_date) where
  sum_is : (a s : S) → K.plus x a ≡ Some s → x ⊕⟨ K ⟩ a ≡ s
  sum_is a s e = ap (λ (o : Option S). unwrap_or o K.zero) e

  lesser_low : (o : Option S) (b : S) → K.size b ≤ largest_end → ((a : S) → o ≡ Some a → (K.size a ≤ largest_end) × (a ≤⟨ K ⟩ b))
      → LowKept K (Some b) x y → LowKept K o x y
  lesser_low None b zb below kept = tt
  lesser_low (Some a) b zb below (s, e, kept) =
      let (za, le) = below a refl in
      let sums : (x ⊕⟨ K ⟩ a) ≤⟨ K ⟩ s = subst (λ (z : S). (x ⊕⟨ K ⟩ a) ≤⟨ K ⟩ z) (sum_is b s e) (le_plus_left laws a b x (omega arith) (omega arith) le) in
      (x ⊕⟨ K ⟩ a, sum_some laws x a (omega arith), le_trans laws sums kept)

  greater_high : (o : Option S) (a : S) → K.size a ≤ largest_end → ((b : S) → o ≡ Some b → (K.size b ≤ largest_end) × (a ≤⟨ K ⟩ b))
      → HighKept K (Some a) x y → HighKept K o x y
  greater_high None a za above kept = tt
  greater_high (Some b) a za above (s, e, kept) =
      let (zb, le) = above b refl in
      let sums : s ≤⟨ K ⟩ (x ⊕⟨ K ⟩ b) = subst (λ (z : S). z ≤⟨ K ⟩ (x ⊕⟨ K ⟩ b)) (sum_is a s e) (le_plus_left laws a b x (omega arith) (omega arith) le) in
      (x ⊕⟨ K ⟩ b, sum_some laws x b (omega arith), le_trans laws kept sums)

-- ---- the windows of a legal condition, by their numbers
module _ {S : Type 0} {K : Kind S} (laws : Laws S K) (n : ℕ) (c : Condition S) (legal : LegalCondition K n c) where
  -- the first low end is not above any high end
  pub first_below : (w : ℕ) (a b : S) → w < length c.windows → (window_of c 0).low ≡ Some a → (window_of c w).high ≡ Some b → a ≤⟨ K ⟩ b
  first_below zero a b l e f = legal.ordered 0 a b e f
  first_below (suc w) a b l e f =
      let (high, low, eh, el, gap) = legal.apart w l in
      le_trans laws (first_below w a high (omega arith) e eh) (le_trans laws (lt_le laws gap) (legal.ordered (suc w) low b el f))

  module _ (x y : S) (near : K.size x ≤ largest_date) where
    first_kept : (w : ℕ) → w < length c.windows → LowKept K (window_of c w).low x y → LowKept K (window_of c 0).low x y
    first_kept zero l kept = kept
    first_kept (suc w) l kept =
        let (high, low, eh, el, gap) = legal.apart w l in
        first_kept w (omega arith)
        (lesser_low laws x y near (window_of c w).low low (legal.low_small (suc w) low el)
        (λ a e. (legal.low_small w a e, le_trans laws (legal.ordered w a high e eh) (lt_le laws gap)))
        (subst (λ (o : Option S). LowKept K o x y) el kept))

    later_kept : (w v : ℕ) → w ≤ v → v < length c.windows → HighKept K (window_of c w).high x y → HighKept K (window_of c v).high x y
    later_kept w zero le l kept = subst (λ (u : ℕ). HighKept K (window_of c u).high x y) (omega arith) kept
    later_kept w (suc v) le l kept = elim (ℕ_discrete w (suc v)) [
      | yes e ↦ subst (λ (u : ℕ). HighKept K (window_of c u).high x y) e kept
      | no e ↦
          let (high, low, eh, el, gap) = legal.apart v l in
          greater_high laws x y near (window_of c (suc v)).high high (legal.high_small v high eh)
          (λ b f. (legal.high_small (suc v) b f, le_trans laws (lt_le laws gap) (legal.ordered (suc v) low b el f)))
          (subst (λ (o : Option S). HighKept K o x y) eh (later_kept w v (omega arith) (omega arith) kept))
    ]

module _ {S : Type 0} {K : Kind S} (laws : Laws S K) (N : Network S) (legal : Legal K N) (dates : List S) (plan : Plan K N dates) where
  hull_meets : (k : ℕ) → k < length N.conditions → Meets K dates (condition_at (hulls N) k)
  hull_meets k l =
      let c = condition_at N k in
      let right = legal.each_condition k l in
      let (w, there, (low, high)) = plan.meets k l in
      let x = date K dates c.from in
      let y = date K dates c.to in
      let near = plan.in_reach c.from right.from_there in
      let some = right.some_window in
      let one = hull_one N k (λ e. omega arith) in
      let joins = hull_points N k in
      let fits : Fits K (window_of (condition_at (hulls N) k) 0) x y = (
        subst (λ (o : Option S). LowKept K o x y) (hull_low_lem N k 0 refl) (first_kept laws N.points c right x y near w there low),
        subst (λ (o : Option S). HighKept K o x y) (hull_high_lem N k 0 (length c.windows) refl refl some)
            (later_kept laws N.points c right x y near w (length c.windows - 1) (omega arith) (omega arith) high),
      ) in
      (0, omega arith, rw (joins.same_from, joins.same_to) fits)

  -- a window that fits lies within the hull
  pub plan_of_hulls : Plan K (hulls N) dates
  plan_of_hulls = plan_with (hulls N) N dates refl plan (λ k l. hull_meets k (omega (arith, length-map N.conditions hull)))

module _ {S : Type 0} {K : Kind S} (laws : Laws S K) (N : Network S) (legal : Legal K N) where
  pub hulls_have_plan : HasPlan K N → HasPlan K (hulls N)
  hulls_have_plan (dates, plan) = (dates, plan_of_hulls laws N legal dates plan)
