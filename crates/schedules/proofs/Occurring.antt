-- What the ends of a range mean: with single windows just the distances within them occur; and a network has one range. Assumes nothing.
use Rattle.std.proofs.Common.{◌≡◌, ℕ, ◌<◌, ◌≤◌, List, Some, None, Option, sym, refl, ◌∙◌, subst, arith, ap₂}
use Rattle.spans.specs.Kind.{Kind, Laws, ◌≤⟨◌⟩◌}
use Rattle.networks.specs.Limits.{largest_distance}
use Rattle.networks.specs.Network.{Network}
use Rattle.networks.specs.Hull.{hulls}
use Rattle.networks.specs.Plan.{Plan, HasPlan}
use Rattle.networks.specs.Legal.{Legal}
use Rattle.distances.specs.Edges.{opposite_end}
use Rattle.distances.proofs.Deciding.{done_table}
use Rattle.schedules.specs.Range.{ApartBy, LowEnd, HighEnd}
use Rattle.schedules.specs.Sweeping.{Swept}
use Rattle.schedules.proofs.Between.{between}
use Rattle.schedules.proofs.Reaching.{low_end, high_end}
use Rattle.schedules.proofs.OneEnd.{one_low, one_high}
use Rattle.schedules.proofs.Joining.{low_dates}

module _ {S : Type 0} {K : Kind S} (laws : Laws S K) (N : Network S) (legal : Legal K N) (i j : ℕ) (li : i < N.points) (lj : j < N.points) where
  -- no distance is outside the ends
  pub range_within : (x y : Option S) → LowEnd K N i j x → HighEnd K N i j y → (dates : List S) (t : S) → Plan K N dates → ApartBy K dates i j t
      → ((a : S) → x ≡ Some a → a ≤⟨ K ⟩ t) × ((b : S) → y ≡ Some b → t ≤⟨ K ⟩ b)
  range_within x y low high dates t plan apart = (
    λ a e. (subst (LowEnd K N i j) e low).2 dates t plan apart,
    λ b e. (subst (HighEnd K N i j) e high).2 dates t plan apart,
  )

  -- and every distance within them occurs, where the network is its own hulls
  pub range_occurs : hulls N ≡ N → HasPlan K N → (x y : Option S) → LowEnd K N i j x → HighEnd K N i j y → (s : S) → K.size s ≤ largest_distance
      → ((a : S) → x ≡ Some a → a ≤⟨ K ⟩ s) → ((b : S) → y ≡ Some b → s ≤⟨ K ⟩ b)
      → (dates : List S) × Plan K N dates × ApartBy K dates i j s
  range_occurs own has x y low high s small above below =
      let own_has : HasPlan K (hulls N) = subst (HasPlan K) (sym own) has in
      let (entry, done, least, edges) = done_table laws N legal own_has in
      let least_low = opposite_end K (entry j i) in
      let same_low = one_low laws N legal i j li lj least_low x
      (subst (λ (M : Network S). LowEnd K M i j least_low) own (low_end laws N legal entry least own_has i j li lj)) low in
      let same_high = one_high laws N legal i j li lj (entry i j) y
      (subst (λ (M : Network S). HighEnd K M i j (entry i j)) own (high_end laws N legal entry least own_has i j li lj)) high in
      let (dates, plan, apart) = between laws N legal entry least i j li lj own_has s (omega arith)
      (λ a e. above a (sym same_low ∙ e)) (λ b e. below b (sym same_high ∙ e)) in
      (dates, subst (λ (M : Network S). Plan K M dates) own plan, apart)

  -- both ends, or that there is no plan: one answer
  pub one_range : (r s : Option (Option S × Option S)) → Swept K (Plan K N) i j r → Swept K (Plan K N) i j s → r ≡ s
  one_range None None p q = refl
  one_range None (Some y) none (low, high) = let (dates, plan) = low_dates laws (Plan K N) i j y.0 low in absurd (none dates plan)
  one_range (Some x) None (low, high) none = let (dates, plan) = low_dates laws (Plan K N) i j x.0 low in absurd (none dates plan)
  one_range (Some x) (Some y) (low, high) (lower, higher) =
      ap₂ (λ (a b : Option S). Some (a, b)) (one_low laws N legal i j li lj x.0 y.0 low lower) (one_high laws N legal i j li lj x.1 y.1 high higher)
