-- The checks 1 to 7 let pass exactly the networks that are legal. Assumes nothing.
use Rattle.std.proofs.Common.{◌≡◌, ℕ, zero, suc, ◌+◌, ◌<◌, ◌≤◌, min, Bool, true, false, ◌&&◌, ltb, List, [], ◌∷◌, length, get_or, is_ok, Some, None, Ok, Err, Option, Result, sym, refl, ◌∙◌, arith}
use Rattle.std.proofs.lemmas.Bool.{and_parts, and_from, leb-true, le-leb, lt-ltb, ltb-true, eqb-false, ne_eqb, not-true, not_from_false}
use Rattle.spans.specs.Kind.{Kind}
use Rattle.networks.specs.declared.fault.Fault.{Fault}
use Rattle.networks.specs.Faults.{refusal_in}
use Rattle.networks.specs.declared.window.Window.{Window}
use Rattle.networks.specs.Limits.{most_points, most_conditions, most_choices, most_windows, largest_end}
use Rattle.networks.specs.Network.{Condition, Network, no_condition, open_window}
use Rattle.networks.specs.Refusal.{Refusal, or_else, refuse_unless, points_refusal, room_refusal, joins_two, one_to_four, choices, small, all_small, in_order, leaves_gap, before, rises, condition_refusal, conditions_refusal, network_refusal}
use Rattle.networks.specs.Legal.{Apart, LegalCondition, Legal, Checked}

-- ---- granted, and refused with nothing
pub granted_none : {R : Type 0} (r : Result R Fault) → is_ok r ≡ true → refusal_in r ≡ None
granted_none (Ok x) h = refl
granted_none (Err f) h = absurd (grind arith)

pub none_granted : {R : Type 0} (r : Result R Fault) → refusal_in r ≡ None → is_ok r ≡ true
none_granted (Ok x) e = refl
none_granted (Err f) e = absurd (grind arith)

-- ---- refusals that are not there
neither : (q r : Option Refusal) → or_else q r ≡ None → (q ≡ None) × (r ≡ None)
neither None r e = (refl, e)
neither (Some q) r e = absurd (grind arith)

both_none : (q r : Option Refusal) → q ≡ None → r ≡ None → or_else q r ≡ None
both_none None r e f = f
both_none (Some q) r e f = e

held : (b : Bool) (n d : ℕ) → refuse_unless b n d ≡ None → b ≡ true
held true n d e = refl
held false n d e = absurd (grind arith)

holds : (b : Bool) (n d : ℕ) → b ≡ true → refuse_unless b n d ≡ None
holds true n d e = refl
holds false n d e = absurd (grind arith)

module _ {S : Type 0} (K : Kind S) where
  -- ---- sizes
  small_end : (o : Option S) (a : S) → small K o ≡ true → o ≡ Some a → K.size a ≤ largest_end
  small_end None a h e = absurd (grind arith)
  small_end (Some b) a h e = let s : b ≡ a = cc in rw s at (leb-true (K.size b) largest_end h)

  end_small : (o : Option S) → ((a : S) → o ≡ Some a → K.size a ≤ largest_end) → small K o ≡ true
  end_small None h = refl
  end_small (Some a) h = le-leb (K.size a) largest_end (h a refl)

  -- of either end, by what tells it from both
  ends_small : (end : Window S → Option S) → end open_window ≡ None
      → ((v : Window S) → (small K v.low && small K v.high) ≡ true → small K (end v) ≡ true)
      → (ws : List (Window S)) → all_small K ws ≡ true → (w : ℕ) (a : S) → end (get_or ws w open_window) ≡ Some a → K.size a ≤ largest_end
  ends_small end none tell [] h w a e = absurd (let z : None ≡ Some a = sym none ∙ e in grind arith)
  ends_small end none tell (v ∷ ws) h zero a e = small_end (end v) a (tell v (and_parts _ (all_small K ws) h).0) e
  ends_small end none tell (v ∷ ws) h (suc w) a e = ends_small end none tell ws (and_parts _ _ h).1 w a e

  small_from : (ws : List (Window S))
      → ((w : ℕ) (a : S) → (get_or ws w open_window).low ≡ Some a → K.size a ≤ largest_end)
      → ((w : ℕ) (b : S) → (get_or ws w open_window).high ≡ Some b → K.size b ≤ largest_end)
      → all_small K ws ≡ true
  small_from [] l h = refl
  small_from (v ∷ ws) l h =
      and_from _ _ (and_from _ _ (end_small v.low (l 0)) (end_small v.high (h 0)))
      (small_from ws (λ w. l (suc w)) (λ w. h (suc w)))

  -- ---- order
  order_kept : (o p : Option S) (a b : S) → in_order K o p ≡ true → o ≡ Some a → p ≡ Some b → K.less b a ≡ false
  order_kept None p a b h e f = absurd (grind arith)
  order_kept (Some x) None a b h e f = absurd (grind arith)
  order_kept (Some x) (Some y) a b h e f =
      let s : x ≡ a = cc in let t : y ≡ b = cc in rw (s, t) at (not-true (K.less y x) h)

  kept_order : (o p : Option S) → ((a b : S) → o ≡ Some a → p ≡ Some b → K.less b a ≡ false) → in_order K o p ≡ true
  kept_order None p h = refl
  kept_order (Some a) None h = refl
  kept_order (Some a) (Some b) h = not_from_false (K.less b a) (h a b refl refl)

  below_apart : (o p : Option S) → leaves_gap K o p ≡ true → Apart K o p
  below_apart None p h = absurd (grind arith)
  below_apart (Some b) None h = absurd (grind arith)
  below_apart (Some b) (Some a) h = (b, a, refl, refl, h)

  apart_below : (o p : Option S) → Apart K o p → leaves_gap K o p ≡ true
  apart_below None p h = let e = h.2 in absurd (grind arith)
  apart_below (Some b) None h = let e = h.3 in absurd (grind arith)
  apart_below (Some b) (Some a) h =
      let e = h.2 in let f = h.3 in
      let s : h.0 ≡ b = cc in let t : h.1 ≡ a = cc in rw (s, t) at h.4

  rises_ordered : (ws : List (Window S)) → rises K ws ≡ true
      → (w : ℕ) (a b : S) → (get_or ws w open_window).low ≡ Some a → (get_or ws w open_window).high ≡ Some b → K.less b a ≡ false
  rises_ordered [] h w a b e f = absurd (grind arith)
  rises_ordered (v ∷ ws) h zero a b e f =
      order_kept v.low v.high a b (and_parts _ _ (and_parts _ (rises K ws) h).0).0 e f
  rises_ordered (v ∷ ws) h (suc w) a b e f = rises_ordered ws (and_parts _ _ h).1 w a b e f

  rises_apart : (ws : List (Window S)) → rises K ws ≡ true
      → (w : ℕ) → suc w < length ws → Apart K (get_or ws w open_window).high (get_or ws (suc w) open_window).low
  rises_apart [] h w l = absurd (omega arith)
  rises_apart (v ∷ []) h w l = absurd (omega arith)
  rises_apart (v ∷ (u ∷ ws)) h zero l =
      below_apart v.high u.low (and_parts _ _ (and_parts _ (rises K (u ∷ ws)) h).0).1
  rises_apart (v ∷ (u ∷ ws)) h (suc w) l =
      rises_apart (u ∷ ws) (and_parts _ (rises K (u ∷ ws)) h).1 w (omega arith)

  rises_from : (ws : List (Window S))
      → ((w : ℕ) (a b : S) → (get_or ws w open_window).low ≡ Some a → (get_or ws w open_window).high ≡ Some b → K.less b a ≡ false)
      → ((w : ℕ) → suc w < length ws → Apart K (get_or ws w open_window).high (get_or ws (suc w) open_window).low)
      → rises K ws ≡ true
  rises_from [] o s = refl
  rises_from (v ∷ ws) o s =
      and_from _ _ (and_from _ _ (kept_order v.low v.high (o 0)) (next ws (s 0)))
      (rises_from ws (λ w. o (suc w)) (λ w l. s (suc w) (omega arith)))
    where
      next : (us : List (Window S)) → (1 < length (v ∷ us) → Apart K v.high (get_or us 0 open_window).low) → before K v us ≡ true
      next [] h = refl
      next (u ∷ us) h = apart_below v.high u.low (h (omega arith))

  -- ---- one condition
  module _ (n k : ℕ) (c : Condition S) where
    pub condition_legal : condition_refusal K n k c ≡ None → LegalCondition K n c
    condition_legal e =
        let p = neither (refuse_unless (joins_two n c) 2 k) _ e in
        let q = neither (refuse_unless (one_to_four c) 3 k) _ p.1 in
        let r = neither (refuse_unless (all_small K c.windows) 4 k) _ q.1 in
        let two = and_parts _ _ (held _ 2 k p.0) in
        let there = and_parts (ltb c.from n) (ltb c.to n) two.0 in
        let four = and_parts (ltb 0 (length c.windows)) _ (held _ 3 k q.0) in
        let light = held (all_small K c.windows) 4 k r.0 in
        let rising = held (rises K c.windows) 5 k r.1 in
        record {
          from_there = ltb-true c.from n there.0;
          to_there = ltb-true c.to n there.1;
          two_points = eqb-false c.from c.to (not-true _ two.1);
          some_window = ltb-true 0 (length c.windows) four.0;
          few_windows = leb-true (length c.windows) most_windows four.1;
          low_small = ends_small (λ v. v.low) refl (λ v t. (and_parts _ _ t).0) c.windows light;
          high_small = ends_small (λ v. v.high) refl (λ v t. (and_parts _ _ t).1) c.windows light;
          ordered = rises_ordered c.windows rising;
          apart = rises_apart c.windows rising;
        }

    pub legal_condition : LegalCondition K n c → condition_refusal K n k c ≡ None
    legal_condition l =
        both_none _ _ (holds (joins_two n c) 2 k (and_from _ _ (and_from _ _ (lt-ltb c.from n l.from_there) (lt-ltb c.to n l.to_there)) (not_from_false _ (ne_eqb c.from c.to l.two_points))))
        (both_none _ _ (holds (one_to_four c) 3 k (and_from _ _ (lt-ltb 0 (length c.windows) l.some_window) (le-leb (length c.windows) most_windows l.few_windows)))
        (both_none _ _ (holds (all_small K c.windows) 4 k (small_from c.windows l.low_small l.high_small))
        (holds (rises K c.windows) 5 k (rises_from c.windows l.ordered l.apart))))

  -- ---- all conditions
  conditions_legal : (n k : ℕ) (cs : List (Condition S)) → conditions_refusal K n k cs ≡ None
      → (m : ℕ) → m < length cs → LegalCondition K n (get_or cs m no_condition)
  conditions_legal n k [] e m h = absurd (omega arith)
  conditions_legal n k (c ∷ cs) e zero h = condition_legal n k c (neither (condition_refusal K n k c) _ e).0
  conditions_legal n k (c ∷ cs) e (suc m) h =
      conditions_legal n (k + 1) cs (neither (condition_refusal K n k c) _ e).1 m (omega arith)

  legal_conditions : (n k : ℕ) (cs : List (Condition S)) → ((m : ℕ) → m < length cs → LegalCondition K n (get_or cs m no_condition))
      → conditions_refusal K n k cs ≡ None
  legal_conditions n k [] h = refl
  legal_conditions n k (c ∷ cs) h =
      both_none _ _ (legal_condition n k c (h 0 (omega arith))) (legal_conditions n (k + 1) cs (λ m l. h (suc m) (omega arith)))

  -- ---- the network
  module _ (N : Network S) (room : ℕ) where
    pub network_legal : network_refusal K N room ≡ None → Legal K N
    network_legal e =
        let p = neither (points_refusal N.points) _ e in
        let q = neither (conditions_refusal K N.points 0 N.conditions) _ p.1 in
        let r = neither (room_refusal (length N.conditions) room) _ q.1 in
        let points = and_parts (ltb 0 N.points) _ (held _ 1 0 p.0) in
        let few = leb-true (length N.conditions) (min most_conditions room) (held _ 6 0 r.0) in
        record {
          some_point = ltb-true 0 N.points points.0;
          few_points = leb-true N.points most_points points.1;
          each_condition = conditions_legal N.points 0 N.conditions q.0;
          few_conditions = omega arith;
          few_choices = leb-true (choices N.conditions) most_choices (held _ 7 0 r.1);
        }

    pub legal_passing : Legal K N → length N.conditions ≤ room → network_refusal K N room ≡ None
    legal_passing l h =
        let few = l.few_conditions in
        both_none _ _ (holds _ 1 0 (and_from _ _ (lt-ltb 0 N.points l.some_point) (le-leb N.points most_points l.few_points)))
        (both_none _ _ (legal_conditions N.points 0 N.conditions l.each_condition)
        (both_none _ _ (holds _ 6 0 (le-leb (length N.conditions) (min most_conditions room) (omega arith)))
        (holds _ 7 0 (le-leb (choices N.conditions) most_choices l.few_choices))))

    pub checked : (r : Result (Unit {0}) Fault) → refusal_in r ≡ network_refusal K N room → Checked K N room r
    checked r e = record {
      refusal = e;
      legal = λ h. network_legal (sym e ∙ granted_none r h);
      passes = λ l h. none_granted r (e ∙ legal_passing l h);
    }
