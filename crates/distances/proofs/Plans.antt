-- Plans of the hulls are the dates that keep every edge, and a cycle below zero leaves none. Assumes nothing.
use Rattle.std.proofs.Common.{◌≡◌, ℕ, suc, ◌+◌, ◌*◌, ◌<◌, ◌≤◌, List, [], ◌∷◌, map, length, get_or, Some, None, Option, unwrap_or, sym, refl, ap, ◌∙◌, subst, arith}
use native.Mathlib.Decide.{dec_lt}
use Rattle.std.proofs.lemmas.List.{get_or_past, length-map}
use Rattle.std.proofs.lemmas.Bool.{both_ways}
use Rattle.spans.specs.Kind.{Kind, Laws, ◌<⟨◌⟩◌, ◌≤⟨◌⟩◌}
use Rattle.spans.specs.Sums.{◌⊕⟨◌⟩◌, ⊖⟨◌⟩◌}
use Rattle.spans.specs.Order.{le_refl, le_trans}
use Rattle.spans.proofs.Group.{sum_some, sum_size, comm, assoc, zero_left, zero_right, opposite_some, opposite_size, lt_plus, le_plus, plus_minus, minus_plus}
use Rattle.networks.specs.declared.window.Window.{Window}
use Rattle.networks.specs.Limits.{largest_end, largest_date, most_points}
use Rattle.networks.specs.Network.{Network, open_window, condition_at, window_of}
use Rattle.networks.specs.Hull.{last_high, hull_windows_lem, hull, hulls}
use Rattle.networks.specs.Plan.{date, LowKept, HighKept, Fits, Meets, Plan, HasPlan}
use Rattle.networks.specs.Legal.{Legal}
use Rattle.layers.proofs.Hulls.{hull_at}
use Rattle.distances.specs.Graph.{Edge, forward, backward, hull_of, Chain, stay, go, NegativeCycle}
use Rattle.distances.proofs.Tables.{none_some}
use Rattle.distances.proofs.Chains.{Sound, chain_size, chain_begins, cycle_few}

-- ---- the hull of a legal condition
module _ {S : Type 0} where
  last_of : (w : Window S) (ws : List (Window S)) (b : S) → last_high w ws ≡ Some b → (v : ℕ) × ((get_or (w ∷ ws) v open_window).high ≡ Some b)
  last_of w [] b e = (0, e)
  last_of w (v ∷ ws) b e = let (k, f) = last_of v ws b e in (suc k, f)

  first_low : (ws : List (Window S)) (a : S) → (get_or (hull_windows_lem ws) 0 open_window).low ≡ Some a → (get_or ws 0 open_window).low ≡ Some a
  first_low [] a e = none_some e
  first_low (w ∷ ws) a e = e

  some_high : (ws : List (Window S)) (b : S) → (get_or (hull_windows_lem ws) 0 open_window).high ≡ Some b → (v : ℕ) × ((get_or ws v open_window).high ≡ Some b)
  some_high [] b e = none_some e
  some_high (w ∷ ws) b e = last_of w ws b e

  one_hull : (ws : List (Window S)) → 0 < length ws → 0 < length (hull_windows_lem ws)
  one_hull [] l = l
  one_hull (w ∷ ws) l = omega arith

  hull_alone : (ws : List (Window S)) (o : ℕ) → o < length (hull_windows_lem ws) → o ≡ 0
  hull_alone [] o l = absurd (omega arith)
  hull_alone (w ∷ ws) o l = omega arith

module _ {S : Type 0} {K : Kind S} (laws : Laws S K) (N : Network S) (legal : Legal K N) where
  low_small : (k : ℕ) (a : S) → k < length N.conditions → (hull_of K N k).low ≡ Some a → K.size a ≤ largest_end
  low_small k a l e = (legal.each_condition k l).low_small 0 a (first_low (condition_at N k).windows a e)

  high_small : (k : ℕ) (b : S) → k < length N.conditions → (hull_of K N k).high ≡ Some b → K.size b ≤ largest_end
  high_small k b l e = let (v, f) = some_high (condition_at N k).windows b e in (legal.each_condition k l).high_small v b f

  pub legal_sound : Sound K N
  legal_sound = record {
    inside = λ c i j a e. inside c i j a e;
    light = λ c i j a e. light c i j a e;
    off = λ c i j a e. off c i j a e;
  }
    where
      inside : (c i j : ℕ) (a : S) → Edge K N c i j a → (i < N.points) × (j < N.points)
      inside c i j a (forward {k} l e) = ((legal.each_condition k l).from_there, (legal.each_condition k l).to_there)
      inside c i j a (backward {k} l e f) = ((legal.each_condition k l).to_there, (legal.each_condition k l).from_there)

      light : (c i j : ℕ) (a : S) → Edge K N c i j a → K.size a ≤ largest_end
      light c i j a (forward {k} {w} l e) = high_small k w l e
      light c i j a (backward {k} {a = b} {w} l e f) = omega (arith, low_small k b l e, laws.opposite_size b w f)

      off : (c i j : ℕ) (a : S) → Edge K N c i j a → i ≡ j → ⊥
      off c i j a (forward {k} l e) = (legal.each_condition k l).two_points
      off c i j a (backward {k} l e f) = λ o. (legal.each_condition k l).two_points (sym o)

  -- ---- dates that keep the edges
  abbrev pub KeepsEdges : (ℕ → S) → Type 0
  KeepsEdges f = (c i j : ℕ) (a : S) → Edge K N c i j a → f j ≤⟨ K ⟩ (f i ⊕⟨ K ⟩ a)

  low_fits : (x : Option S) (u v : S) → K.size u ≤ largest_date → K.size v ≤ largest_date → ((a : S) → x ≡ Some a → K.size a ≤ largest_end)
      → ((a : S) → x ≡ Some a → u ≤⟨ K ⟩ (v ⊕⟨ K ⟩ (⊖⟨ K ⟩ a))) → LowKept K x u v
  low_fits None u v zu zv small h = tt
  low_fits (Some a) u v zu zv small h =
      let za = small a refl in
      let zo = opposite_size laws a in
      let zva = sum_size laws v (⊖⟨ K ⟩ a) in
      let zua = sum_size laws u a in
      let kept : (u ⊕⟨ K ⟩ a) ≤⟨ K ⟩ v =
      rw (minus_plus laws v a (omega arith)) at (le_plus laws u (v ⊕⟨ K ⟩ (⊖⟨ K ⟩ a)) a (omega arith) (omega arith) (h a refl)) in
      (u ⊕⟨ K ⟩ a, sum_some laws u a (omega arith), kept)

  high_fits : (x : Option S) (u v : S) → K.size u ≤ largest_date → ((b : S) → x ≡ Some b → K.size b ≤ largest_end)
      → ((b : S) → x ≡ Some b → v ≤⟨ K ⟩ (u ⊕⟨ K ⟩ b)) → HighKept K x u v
  high_fits None u v zu small h = tt
  high_fits (Some b) u v zu small h = (u ⊕⟨ K ⟩ b, sum_some laws u b (omega (arith, small b refl)), h b refl)

  pub keeping_plan : (dates : List S) → length dates ≡ N.points → date K dates 0 ≡ K.zero
      → ((p : ℕ) → p < N.points → K.size (date K dates p) ≤ largest_date) → KeepsEdges (date K dates) → Plan K (hulls N) dates
  keeping_plan dates long start near keeps = record { one_each = long; starts_at_zero = start; in_reach = near; meets = meets }
    where
      meets : (k : ℕ) → k < length (map hull N.conditions) → Meets K dates (condition_at (hulls N) k)
      meets k lk =
          let l : k < length N.conditions = omega (arith, length-map N.conditions hull) in
          let c = legal.each_condition k l in
          let u = (condition_at N k).from in
          let v = (condition_at N k).to in
          let zu = near u c.from_there in
          let zv = near v c.to_there in
          subst (Meets K dates) (sym (hull_at N k)) (
            0,
            one_hull (condition_at N k).windows c.some_window,
            (
              low_fits (hull_of K N k).low (date K dates u) (date K dates v) zu zv (λ a e. low_small k a l e)
                  (λ a e. keeps (2 * k + 1) v u (⊖⟨ K ⟩ a) (backward {k = k} {a = a} {w = ⊖⟨ K ⟩ a} l e (opposite_some laws a (omega (arith, low_small k a l e))))),
              high_fits (hull_of K N k).high (date K dates u) (date K dates v) zu (λ a e. high_small k a l e)
                  (λ b e. keeps (2 * k) u v b (forward {k = k} {w = b} l e)),
            ),
          )

  low_keeps : (x : Option S) (u v a : S) → K.size u ≤ largest_date → K.size v ≤ largest_date → K.size a ≤ largest_end → LowKept K x u v → x ≡ Some a
      → u ≤⟨ K ⟩ (v ⊕⟨ K ⟩ (⊖⟨ K ⟩ a))
  low_keeps None u v a zu zv za h e = none_some e
  low_keeps (Some c) u v a zu zv za (s, p, h) e =
      let same : c ≡ a = cc in
      let zo = opposite_size laws a in
      let zua = sum_size laws u a in
      let is : u ⊕⟨ K ⟩ a ≡ s = ap (λ (o : S). u ⊕⟨ K ⟩ o) (sym same) ∙ ap (λ (o : Option S). unwrap_or o K.zero) p in
      rw (plus_minus laws u a (omega arith)) at
      (le_plus laws (u ⊕⟨ K ⟩ a) v (⊖⟨ K ⟩ a) (omega arith) (omega arith) (subst (λ (o : S). o ≤⟨ K ⟩ v) (sym is) h))

  high_keeps : (x : Option S) (u v b : S) → HighKept K x u v → x ≡ Some b → v ≤⟨ K ⟩ (u ⊕⟨ K ⟩ b)
  high_keeps None u v b h e = none_some e
  high_keeps (Some c) u v b (s, p, h) e =
      let same : c ≡ b = cc in
      let is : u ⊕⟨ K ⟩ b ≡ s = ap (λ (o : S). u ⊕⟨ K ⟩ o) (sym same) ∙ ap (λ (o : Option S). unwrap_or o K.zero) p in
      subst (λ (o : S). v ≤⟨ K ⟩ o) (sym is) h

  -- a date that is not there counts as zero
  pub plan_near : (dates : List S) → Plan K (hulls N) dates → (q : ℕ) → K.size (date K dates q) ≤ largest_date
  plan_near dates p q = elim (dec_lt q N.points) [
    | yes l ↦ p.in_reach q l
    | no l ↦ omega (arith, ap K.size (get_or_past dates q K.zero (omega (arith, p.one_each))), laws.zero_size)
  ]

  pub plan_keeps : (dates : List S) → Plan K (hulls N) dates → KeepsEdges (date K dates)
  plan_keeps dates p c i j a e = by_edge c i j a e
    where
      fits : (k : ℕ) → k < length N.conditions → Fits K (hull_of K N k) (date K dates (condition_at N k).from) (date K dates (condition_at N k).to)
      fits k l =
          let (o, lo, f) = subst (Meets K dates) (hull_at N k) (p.meets k (omega (arith, length-map N.conditions hull))) in
          subst (λ (x : ℕ). Fits K (window_of (hull (condition_at N k)) x) (date K dates (condition_at N k).from) (date K dates (condition_at N k).to))
          (hull_alone (condition_at N k).windows o lo) f

      by_edge : (c i j : ℕ) (a : S) → Edge K N c i j a → date K dates j ≤⟨ K ⟩ (date K dates i ⊕⟨ K ⟩ a)
      by_edge c i j a (forward {k} {w} l e) = high_keeps (hull_of K N k).high _ _ w (fits k l).1 e
      by_edge c i j a (backward {k} {a = b} {w} l e f) =
          let is : ⊖⟨ K ⟩ b ≡ w = ap (λ (o : Option S). unwrap_or o K.zero) f in
          subst (λ (o : S). date K dates (condition_at N k).from ≤⟨ K ⟩ (date K dates (condition_at N k).to ⊕⟨ K ⟩ o)) is
          (low_keeps (hull_of K N k).low _ _ b (plan_near dates p _) (plan_near dates p _) (low_small k b l e) (fits k l).0 e)

  -- ---- dates that keep the edges keep the chains
  pub chain_kept : (f : ℕ → S) → ((q : ℕ) → q < N.points → K.size (f q) ≤ largest_date) → KeepsEdges f
      → {i j : ℕ} {cs ps : List ℕ} {t : S} → j < N.points → length cs ≤ most_points → Chain K N i j cs ps t → f j ≤⟨ K ⟩ (f i ⊕⟨ K ⟩ t)
  chain_kept f near keeps {i} lj h stay = rw (zero_right laws (f i) (omega (arith, near i lj))) (le_refl laws)
  chain_kept f near keeps {i} {j} lj h (go {c = c} {m = m} {w = w} {t = u} {u = t} e x s) =
      let (li, lm) = legal_sound.inside c i m w e in
      let zi = near i li in
      let zm = near m lm in
      let zw = legal_sound.light c i m w e in
      let zu = chain_size laws N legal_sound x in
      let ziw = sum_size laws (f i) w in
      let sum : w ⊕⟨ K ⟩ u ≡ t = ap (λ (o : Option S). unwrap_or o K.zero) s in
      let rest = chain_kept f near keeps lj (omega arith) x in
      let first : (f m ⊕⟨ K ⟩ u) ≤⟨ K ⟩ ((f i ⊕⟨ K ⟩ w) ⊕⟨ K ⟩ u) = le_plus laws (f m) (f i ⊕⟨ K ⟩ w) u (omega arith) (omega arith) (keeps c i m w e) in
      subst (λ (o : S). f j ≤⟨ K ⟩ o) (assoc laws (f i) w u (omega arith) ∙ ap (λ (o : S). f i ⊕⟨ K ⟩ o) sum) (le_trans laws rest first)

  -- round a cycle below zero a date would be below itself
  pub cycle_no_plan : (cs : List ℕ) → NegativeCycle K N cs → HasPlan K (hulls N) → ⊥
  cycle_no_plan cs (t, (i, ps, x, distinct, some), below) (dates, p) =
      let li = chain_begins laws N legal_sound some x in
      let few = cycle_few laws N legal_sound li x distinct in
      let most = legal.few_points in
      let zt = chain_size laws N legal_sound x in
      let zi = p.in_reach i li in
      let d = date K dates i in
      let kept : d ≤⟨ K ⟩ (d ⊕⟨ K ⟩ t) = chain_kept (date K dates) p.in_reach (plan_keeps dates p) li (omega arith) x in
      let less : (t ⊕⟨ K ⟩ d) <⟨ K ⟩ (K.zero ⊕⟨ K ⟩ d) = lt_plus laws t K.zero d (omega arith) (omega (arith, laws.zero_size)) below in
      both_ways _ kept (rw (comm laws t d (omega arith), zero_left laws d (omega arith)) at less)
