-- The ends of the distance between two points over the plans of the hulls: the entry ahead, and the opposite of the entry back. Assumes nothing.
use Rattle.std.proofs.Common.{◌≡◌, ℕ, suc, ◌<◌, ◌≤◌, List, Some, None, Option, sym, refl, ◌∙◌, subst, inl, inr, arith}
use Rattle.spans.specs.Kind.{Kind, Laws, ◌≤⟨◌⟩◌}
use Rattle.spans.specs.Sums.{◌⊕⟨◌⟩◌}
use Rattle.spans.specs.Order.{lt_le, le_refl, le_trans, le_or_lt}
use Rattle.spans.proofs.Group.{sum_some}
use Rattle.networks.specs.Limits.{largest_distance}
use Rattle.networks.specs.Network.{Network}
use Rattle.networks.specs.Hull.{hulls}
use Rattle.networks.specs.Plan.{date, Plan, HasPlan}
use Rattle.networks.specs.Legal.{Legal}
use Rattle.distances.specs.Closing.{Closes}
use Rattle.distances.specs.Distance.{entry_of, LeastTotals}
use Rattle.distances.specs.Table.{Table}
use Rattle.distances.specs.Edges.{opposite_end}
use Rattle.distances.proofs.Tables.{none_some}
use Rattle.schedules.specs.Range.{ApartBy, LowEnd, HighEnd}
use Rattle.schedules.specs.Sweeping.{entry_ends, Swept}
use Rattle.schedules.proofs.Apart.{furthest, gap, apart_there, comes_by, comes_from}
use Rattle.schedules.proofs.Between.{total_small, not_above, not_below, between}

module _ {S : Type 0} {K : Kind S} (laws : Laws S K) (N : Network S) (legal : Legal K N) (entry : Table S) (least : LeastTotals K N entry)
    (has : HasPlan K (hulls N)) (i j : ℕ) (li : i < N.points) (lj : j < N.points) where
  -- the ends are small
  pub low_small : (a : S) → opposite_end K (entry j i) ≡ Some a → suc (K.size a) ≤ largest_distance
  low_small a e = by_entry (entry j i) refl e
    where
      by_entry : (x : Option S) → entry j i ≡ x → opposite_end K x ≡ Some a → suc (K.size a) ≤ largest_distance
      by_entry None e o = none_some o
      by_entry (Some c) e o = omega (arith, total_small laws N legal entry least j i lj li c e, laws.opposite_size c a o)

  pub high_small : (a : S) → entry i j ≡ Some a → suc (K.size a) ≤ largest_distance
  high_small = total_small laws N legal entry least i j li lj

  -- and the low one is not above the high one
  ends_rise : (a b : S) → opposite_end K (entry j i) ≡ Some a → entry i j ≡ Some b → a ≤⟨ K ⟩ b
  ends_rise a b e f =
      let (dates, plan) = has in
      let apart = apart_there laws dates i j (plan.in_reach i li) (plan.in_reach j lj) in
      le_trans laws (not_below laws N legal entry least i j li lj dates plan (gap laws dates i j) apart a e)
      (not_above laws N legal entry least i j li lj dates plan (gap laws dates i j) apart b f)

  -- plans with a distance of at most s, and plans with one of at least s
  abbrev pub Within : S → Type 0
  Within s = (dates : List S) × (t : S) × Plan K (hulls N) dates × ApartBy K dates i j t × (t ≤⟨ K ⟩ s)

  abbrev pub Beyond : S → Type 0
  Beyond s = (dates : List S) × (t : S) × Plan K (hulls N) dates × ApartBy K dates i j t × (s ≤⟨ K ⟩ t)

  occurs : (s : S) → K.size s ≤ furthest → ((a : S) → opposite_end K (entry j i) ≡ Some a → a ≤⟨ K ⟩ s) → ((b : S) → entry i j ≡ Some b → s ≤⟨ K ⟩ b)
      → (dates : List S) × Plan K (hulls N) dates × ApartBy K dates i j s
  occurs = between laws N legal entry least i j li lj has

  pub down_to : (s : S) → K.size s ≤ furthest → ((a : S) → opposite_end K (entry j i) ≡ Some a → a ≤⟨ K ⟩ s) → Within s
  down_to s zs low = by_entry (entry i j) refl
    where
      right_at : ((b : S) → entry i j ≡ Some b → s ≤⟨ K ⟩ b) → Within s
      right_at high = let (dates, plan, apart) = occurs s zs low high in (dates, s, plan, apart, le_refl laws)

      by_entry : (x : Option S) → entry i j ≡ x → Within s
      by_entry None e = right_at (λ b f. none_some (sym e ∙ f))
      by_entry (Some b) e = elim (le_or_lt laws s b) [
        | inl h ↦ right_at (λ c f. let same : b ≡ c = cc in subst (λ (o : S). s ≤⟨ K ⟩ o) same h)
        | inr h ↦
            let (dates, plan, apart) = occurs b (omega (arith, high_small b e)) (λ a f. ends_rise a b f e)
            (λ c f. let same : b ≡ c = cc in subst (λ (o : S). b ≤⟨ K ⟩ o) same (le_refl laws)) in
            (dates, b, plan, apart, lt_le laws h)
      ]

  pub up_to : (s : S) → K.size s ≤ furthest → ((b : S) → entry i j ≡ Some b → s ≤⟨ K ⟩ b) → Beyond s
  up_to s zs high = by_entry (opposite_end K (entry j i)) refl
    where
      right_at : ((a : S) → opposite_end K (entry j i) ≡ Some a → a ≤⟨ K ⟩ s) → Beyond s
      right_at low = let (dates, plan, apart) = occurs s zs low high in (dates, s, plan, apart, le_refl laws)

      by_entry : (x : Option S) → opposite_end K (entry j i) ≡ x → Beyond s
      by_entry None e = right_at (λ a f. none_some (sym e ∙ f))
      by_entry (Some a) e = elim (le_or_lt laws a s) [
        | inl h ↦ right_at (λ c f. let same : a ≡ c = cc in subst (λ (o : S). o ≤⟨ K ⟩ s) same h)
        | inr h ↦
            let (dates, plan, apart) = occurs a (omega (arith, low_small a e))
            (λ c f. let same : a ≡ c = cc in subst (λ (o : S). o ≤⟨ K ⟩ a) same (le_refl laws))
            (λ b f. ends_rise a b e f) in
            (dates, a, plan, apart, lt_le laws h)
      ]

  pub low_end : LowEnd K (hulls N) i j (opposite_end K (entry j i))
  low_end = by_end (opposite_end K (entry j i)) refl
    where
      by_end : (x : Option S) → opposite_end K (entry j i) ≡ x → LowEnd K (hulls N) i j x
      by_end (Some a) e = (
        omega (arith, low_small a e),
        occurs a (omega (arith, low_small a e)) (λ c f. let same : a ≡ c = cc in subst (λ (o : S). o ≤⟨ K ⟩ a) same (le_refl laws))
            (λ b f. ends_rise a b e f),
        λ dates t plan apart. not_below laws N legal entry least i j li lj dates plan t apart a e,
      )
      by_end None e = λ s zs.
          let (dates, t, plan, apart, low) = down_to s (omega arith) (λ a f. none_some (sym e ∙ f)) in
          let zi = plan.in_reach i li in
          (dates, date K dates i ⊕⟨ K ⟩ s, plan, sum_some laws (date K dates i) s (omega arith), comes_by laws dates i j zi (plan.in_reach j lj) t apart s (omega arith) low)

  pub high_end : HighEnd K (hulls N) i j (entry i j)
  high_end = by_end (entry i j) refl
    where
      by_end : (x : Option S) → entry i j ≡ x → HighEnd K (hulls N) i j x
      by_end (Some b) e = (
        omega (arith, high_small b e),
        occurs b (omega (arith, high_small b e)) (λ a f. ends_rise a b f e)
            (λ c f. let same : b ≡ c = cc in subst (λ (o : S). b ≤⟨ K ⟩ o) same (le_refl laws)),
        λ dates t plan apart. not_above laws N legal entry least i j li lj dates plan t apart b e,
      )
      by_end None e = λ s zs.
          let (dates, t, plan, apart, high) = up_to s (omega arith) (λ b f. none_some (sym e ∙ f)) in
          let zi = plan.in_reach i li in
          (dates, date K dates i ⊕⟨ K ⟩ s, plan, sum_some laws (date K dates i) s (omega arith), comes_from laws dates i j zi (plan.in_reach j lj) t apart s (omega arith) high)

-- ---- the entries of a closed matrix
module _ {S : Type 0} {K : Kind S} (laws : Laws S K) (N : Network S) (legal : Legal K N) (i j : ℕ) (li : i < N.points) (lj : j < N.points) where
  pub closed_ends : (matrix : List (Option S)) → Closes K N matrix → Swept K (Plan K (hulls N)) i j (Some (entry_ends K N.points i j matrix))
  closed_ends matrix closes = (
    low_end laws N legal (entry_of N.points matrix) closes.least closes.plan i j li lj,
    high_end laws N legal (entry_of N.points matrix) closes.least closes.plan i j li lj,
  )
