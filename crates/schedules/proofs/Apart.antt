-- The distance between two points of some dates. Assumes nothing.
use Rattle.std.proofs.Common.{◌≡◌, ℕ, suc, ◌+◌, ◌≤◌, List, Some, Option, unwrap_or, sym, ap, ◌∙◌, subst, arith}
use Rattle.spans.specs.Kind.{Kind, Laws, ◌≤⟨◌⟩◌}
use Rattle.spans.specs.Sums.{◌⊕⟨◌⟩◌, ⊖⟨◌⟩◌}
use Rattle.spans.specs.Order.{le_antisym}
use Rattle.spans.proofs.Group.{sum_some, sum_size, comm, opposite_some, opposite_size, opposite_opposite, plus_minus, minus_plus, le_plus, le_plus_left, take_away}
use Rattle.networks.specs.Limits.{largest_date, largest_distance}
use Rattle.networks.specs.Plan.{date}
use Rattle.schedules.specs.Range.{ApartBy}

-- one step further than a range tells
abbrev pub furthest : ℕ
furthest = suc largest_distance

-- j comes s after i: neither later nor earlier
pub comes_after : {S : Type 0} {K : Kind S} (laws : Laws S K) (x y s : S) → K.size x ≤ largest_date → K.size y ≤ largest_date → K.size s ≤ furthest
    → y ≤⟨ K ⟩ (x ⊕⟨ K ⟩ s) → x ≤⟨ K ⟩ (y ⊕⟨ K ⟩ (⊖⟨ K ⟩ s)) → y ≡ x ⊕⟨ K ⟩ s
comes_after {K} laws x y s zx zy zs high low =
    let zo = opposite_size laws s in
    le_antisym laws high
    (rw (opposite_opposite laws s (omega arith)) at (take_away laws x y (⊖⟨ K ⟩ s) (omega arith) low))

module _ {S : Type 0} {K : Kind S} (laws : Laws S K) (dates : List S) (i j : ℕ) where
  abbrev pub gap : S
  gap = date K dates j ⊕⟨ K ⟩ (⊖⟨ K ⟩ (date K dates i))

  -- there is no other distance
  pub apart_is : (s : S) → ApartBy K dates i j s → gap ≡ s
  apart_is s (a, e, f) =
      ap (λ (o : Option S). date K dates j ⊕⟨ K ⟩ unwrap_or o K.zero) e ∙ ap (λ (o : Option S). unwrap_or o K.zero) f

  module _ (zi : K.size (date K dates i) ≤ largest_date) where
    -- between dates within reach there is one
    pub apart_there : K.size (date K dates j) ≤ largest_date → ApartBy K dates i j gap
    apart_there zj =
        let zo = opposite_size laws (date K dates i) in
        (⊖⟨ K ⟩ (date K dates i), opposite_some laws (date K dates i) (omega arith), sum_some laws (date K dates j) (⊖⟨ K ⟩ (date K dates i)) (omega arith))

    -- it is what j comes after i
    pub apart_by : (s : S) → K.size s ≤ furthest → date K dates j ≡ date K dates i ⊕⟨ K ⟩ s → ApartBy K dates i j s
    apart_by s zs e =
        let x = date K dates i in
        let zo = opposite_size laws x in
        let zj : K.size (date K dates j) ≤ K.size x + K.size s = omega (arith, ap K.size e, sum_size laws x s) in (
          ⊖⟨ K ⟩ x,
          opposite_some laws x (omega arith),
          sum_some laws (date K dates j) (⊖⟨ K ⟩ x) (omega arith)
              ∙ ap (λ (o : S). Some (o ⊕⟨ K ⟩ (⊖⟨ K ⟩ x))) (e ∙ comm laws x s (omega arith))
              ∙ ap (λ (o : S). Some o) (plus_minus laws s x (omega arith)),
        )

    module _ (zj : K.size (date K dates j) ≤ largest_date) (t : S) (apart : ApartBy K dates i j t) where
      pub after_is : date K dates j ≡ date K dates i ⊕⟨ K ⟩ t
      after_is =
          let x = date K dates i in
          let zo = opposite_size laws x in
          let zt = sum_size laws (date K dates j) (⊖⟨ K ⟩ x) in
          sym (minus_plus laws (date K dates j) x (omega arith)) ∙ comm laws gap x (omega arith) ∙ ap (λ (o : S). x ⊕⟨ K ⟩ o) (apart_is t apart)

      -- where j comes at most a after i, the distance is at most a
      pub apart_at_most : (a : S) → K.size a ≤ furthest → date K dates j ≤⟨ K ⟩ (date K dates i ⊕⟨ K ⟩ a) → t ≤⟨ K ⟩ a
      apart_at_most a za h =
          rw (apart_is t apart) at
          (take_away laws (date K dates j) a (date K dates i) (omega arith) (rw (comm laws a (date K dates i) (omega arith)) h))

      -- where it comes at least a after i, the distance is at least a
      pub apart_at_least : (a : S) → K.size a ≤ furthest → (date K dates i ⊕⟨ K ⟩ a) ≤⟨ K ⟩ date K dates j → a ≤⟨ K ⟩ t
      apart_at_least a za h =
          let x = date K dates i in
          let zo = opposite_size laws x in
          let zax = sum_size laws a x in
          rw (plus_minus laws a x (omega arith), apart_is t apart) at
          (le_plus laws (a ⊕⟨ K ⟩ x) (date K dates j) (⊖⟨ K ⟩ x) (omega arith) (omega arith) (rw (comm laws a x (omega arith)) h))

      apart_size : K.size t ≤ K.size (date K dates j) + K.size (date K dates i)
      apart_size = omega (arith, ap K.size (apart_is t apart), sum_size laws (date K dates j) (⊖⟨ K ⟩ (date K dates i)), opposite_size laws (date K dates i))

      -- the other way round: j comes at most s after i where the distance is at most s, and at least s where it is at least s
      pub comes_by : (s : S) → K.size s ≤ furthest → t ≤⟨ K ⟩ s → date K dates j ≤⟨ K ⟩ (date K dates i ⊕⟨ K ⟩ s)
      comes_by s zs h =
          subst (λ (y : S). y ≤⟨ K ⟩ (date K dates i ⊕⟨ K ⟩ s)) (sym after_is)
          (le_plus_left laws t s (date K dates i) (omega (arith, apart_size)) (omega arith) h)

      pub comes_from : (s : S) → K.size s ≤ furthest → s ≤⟨ K ⟩ t → (date K dates i ⊕⟨ K ⟩ s) ≤⟨ K ⟩ date K dates j
      comes_from s zs h =
          subst (λ (y : S). (date K dates i ⊕⟨ K ⟩ s) ≤⟨ K ⟩ y) (sym after_is)
          (le_plus_left laws s t (date K dates i) (omega arith) (omega (arith, apart_size)) h)
