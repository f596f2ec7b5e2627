-- The ends over two sets of dates are those of each, joined. Assumes nothing.
use Rattle.std.proofs.Common.{◌≡◌, ℕ, Bool, true, false, cond, ◌⊎◌, List, Some, None, Option, refl, inl, inr, arith}
use Rattle.spans.specs.Kind.{Kind, Laws}
use Rattle.spans.specs.Order.{lt_le, le_trans}
use Rattle.schedules.specs.Range.{LowOver, HighOver}
use Rattle.schedules.specs.Sweeping.{lower_end, higher_end, joined_ends, Swept}

module _ {S : Type 0} (K : Kind S) (P Q : List S → Type 0) (i j : ℕ) where
  -- the same dates, said otherwise
  pub low_same : ((dates : List S) → P dates → Q dates) → ((dates : List S) → Q dates → P dates) → (x : Option S) → LowOver K P i j x → LowOver K Q i j x
  low_same to back None p = λ s zs. let (dates, x, h, e, low) = p s zs in (dates, x, to dates h, e, low)
  low_same to back (Some a) (za, (dates, h, apart), low) = (za, (dates, to dates h, apart), λ again t q. low again t (back again q))

  pub high_same : ((dates : List S) → P dates → Q dates) → ((dates : List S) → Q dates → P dates) → (x : Option S) → HighOver K P i j x → HighOver K Q i j x
  high_same to back None p = λ s zs. let (dates, x, h, e, high) = p s zs in (dates, x, to dates h, e, high)
  high_same to back (Some a) (za, (dates, h, apart), high) = (za, (dates, to dates h, apart), λ again t q. high again t (back again q))

  pub swept_same : ((dates : List S) → P dates → Q dates) → ((dates : List S) → Q dates → P dates) → (r : Option (Option S × Option S)) → Swept K P i j r → Swept K Q i j r
  swept_same to back None none = λ dates q. none dates (back dates q)
  swept_same to back (Some x) (low, high) = (low_same to back x.0 low, high_same to back x.1 high)

module _ {S : Type 0} {K : Kind S} (laws : Laws S K) (P : List S → Type 0) (i j : ℕ) where
  -- where there is an end there are dates
  pub low_dates : (x : Option S) → LowOver K P i j x → (dates : List S) × P dates
  low_dates (Some a) (za, (dates, h, apart), low) = (dates, h)
  low_dates None none = let (dates, x, h, e, low) = none K.zero (omega (arith, laws.zero_size)) in (dates, h)

module _ {S : Type 0} {K : Kind S} (laws : Laws S K) (P Q : List S → Type 0) (i j : ℕ) where
  abbrev pub Either : List S → Type 0
  Either dates = P dates ⊎ Q dates

  pub low_join : (x y : Option S) → LowOver K P i j x → LowOver K Q i j y → LowOver K Either i j (lower_end K x y)
  low_join None y p q = λ s zs. let (dates, x, h, e, low) = p s zs in (dates, x, inl h, e, low)
  low_join (Some a) None p q = λ s zs. let (dates, x, h, e, low) = q s zs in (dates, x, inr h, e, low)
  low_join (Some a) (Some b) (za, (da, ha, ma), la) (zb, (db, hb, mb), lb) = by_test (K.less b a) refl
    where
      by_test : (t : Bool) → K.less b a ≡ t → LowOver K Either i j (cond t (Some b) (Some a))
      by_test true e = (zb, (db, inr hb, mb), λ dates t. elim [ inl h ↦ λ m. le_trans laws (lt_le laws e) (la dates t h m) | inr h ↦ lb dates t h ])
      by_test false e = (za, (da, inl ha, ma), λ dates t. elim [ inl h ↦ la dates t h | inr h ↦ λ m. le_trans laws e (lb dates t h m) ])

  pub high_join : (x y : Option S) → HighOver K P i j x → HighOver K Q i j y → HighOver K Either i j (higher_end K x y)
  high_join None y p q = λ s zs. let (dates, x, h, e, high) = p s zs in (dates, x, inl h, e, high)
  high_join (Some a) None p q = λ s zs. let (dates, x, h, e, high) = q s zs in (dates, x, inr h, e, high)
  high_join (Some a) (Some b) (za, (da, ha, ma), la) (zb, (db, hb, mb), lb) = by_test (K.less a b) refl
    where
      by_test : (t : Bool) → K.less a b ≡ t → HighOver K Either i j (cond t (Some b) (Some a))
      by_test true e = (zb, (db, inr hb, mb), λ dates t. elim [ inl h ↦ λ m. le_trans laws (la dates t h m) (lt_le laws e) | inr h ↦ lb dates t h ])
      by_test false e = (za, (da, inl ha, ma), λ dates t. elim [ inl h ↦ la dates t h | inr h ↦ λ m. le_trans laws (lb dates t h m) e ])

  pub swept_join : (r s : Option (Option S × Option S)) → Swept K P i j r → Swept K Q i j s → Swept K Either i j (joined_ends K r s)
  swept_join None s none q = swept_same K Q Either i j (λ dates h. inr h) (λ dates. elim [ inl h ↦ absurd (none dates h) | inr h ↦ h ]) s q
  swept_join (Some x) None p none = swept_same K P Either i j (λ dates h. inl h) (λ dates. elim [ inl h ↦ h | inr h ↦ absurd (none dates h) ]) (Some x) p
  swept_join (Some x) (Some y) (low, high) (lower, higher) = (low_join x.0 y.0 low lower, high_join x.1 y.1 high higher)
