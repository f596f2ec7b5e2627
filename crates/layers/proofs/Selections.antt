-- What each question finds under the layers of a selection, whole or in part. Assumes nothing.
use Rattle.std.proofs.Common.{◌≡◌, ℕ, ◌<◌, ◌≤◌, List, length, get_or, Some, None, Option, Bool, false, ltb, MatchOption, sym, ap, ◌∙◌, inl, inr, arith}
use Rattle.std.proofs.lemmas.List.{get_or_past}
use mir.Val.{bool_byte}
use Rattle.std.proofs.lemmas.Bool.{lt-ltb, le-ltb, cases_lt, cond-true, cond-false}
use Rattle.networks.specs.Network.{Network, open_window, condition_at, window_of}
use Rattle.networks.specs.Steps.{number_at}
use Rattle.networks.specs.Selection.{selected}
pub use Rattle.layers.specs.Alike.{selected_length, selected_in, selected_past, selected_points, chosen_below, chosen_above, chosen_points}

-- ---- the number for a condition
pub numbered : (ws : List ℕ) (k n : ℕ) → Some n ≡ number_at ws k → (k < length ws) × (n ≡ get_or ws k 0)
numbered ws k n e =
    elim (cases_lt k (length ws)) [
      | inl h ↦ (h, let f : Some n ≡ Some (get_or ws k 0) = e ∙ cond-true _ (Some (get_or ws k 0)) None (lt-ltb k (length ws) h) in cc)
      | inr h ↦ absurd (let f : Some n ≡ None = e ∙ cond-false _ (Some (get_or ws k 0)) None (le-ltb k (length ws) h) in grind arith)
    ]

pub not_numbered : (ws : List ℕ) (k : ℕ) → None ≡ number_at ws k → length ws ≤ k
not_numbered ws k e =
    elim (cases_lt k (length ws)) [
      | inl h ↦ absurd (let f : None ≡ Some (get_or ws k 0) = e ∙ cond-true _ (Some (get_or ws k 0)) None (lt-ltb k (length ws) h) in grind arith)
      | inr h ↦ h
    ]

module _ {S : Type 0} (N : Network S) (ws : List ℕ) (k : ℕ) where
  -- ---- asked for window w
  pub selected_one : k < length ws → get_or ws k 0 < length (condition_at N k).windows → 1 ≡ length (condition_at (selected N ws) k).windows
  selected_one h l = rw (selected_in N ws k h, lt-ltb (get_or ws k 0) (length (condition_at N k).windows) l)

  pub selected_none : k < length ws → length (condition_at N k).windows ≤ get_or ws k 0 → 0 ≡ length (condition_at (selected N ws) k).windows
  selected_none h l = rw (selected_in N ws k h, le-ltb (get_or ws k 0) (length (condition_at N k).windows) l)

  pub selected_outside : length ws ≤ k → 0 ≡ length (condition_at (selected N ws) k).windows
  selected_outside h = rw (selected_past N ws k h)

  -- one where the number that is there is that of a window
  pub selected_count : (o : Option ℕ) (b : Bool) {Q : ℕ → Type 0} → o ≡ number_at ws k → MatchOption o (b ≡ false) Q
      → ((n : ℕ) → Q n → b ≡ ltb n (length (condition_at N k).windows)) → bool_byte b ≡ length (condition_at (selected N ws) k).windows
  selected_count None b e f test = rw f (selected_outside (not_numbered ws k e))
  selected_count (Some n) b e q test =
      let m = numbered ws k n e in
      elim (cases_lt (get_or ws k 0) (length (condition_at N k).windows)) [
        | inl l ↦ rw (test n q, m.1, lt-ltb (get_or ws k 0) (length (condition_at N k).windows) l) (selected_one m.0 l)
        | inr l ↦ rw (test n q, m.1, le-ltb (get_or ws k 0) (length (condition_at N k).windows) l) (selected_none m.0 l)
      ]

  module _ (w : ℕ) where
    -- no window of that number
    past : length (condition_at (selected N ws) k).windows ≤ w → open_window ≡ window_of (condition_at (selected N ws) k) w
    past h = sym (get_or_past (condition_at (selected N ws) k).windows w open_window h)

    pub outside : length ws ≤ k → open_window ≡ window_of (condition_at (selected N ws) k) w
    outside h = let e = selected_outside h in past (omega arith)

    pub second : k < length ws → (w ≡ 0 → ⊥) → open_window ≡ window_of (condition_at (selected N ws) k) w
    second h ne =
        elim (cases_lt (get_or ws k 0) (length (condition_at N k).windows)) [
          | inl l ↦ let e = selected_one h l in past (omega arith)
          | inr l ↦ let e = selected_none h l in past (omega arith)
        ]

    pub past_first : 0 < w → open_window ≡ window_of (condition_at (selected N ws) k) w
    past_first h =
        elim (cases_lt k (length ws)) [ inl l ↦ second l (omega arith) | inr l ↦ outside l ]

    pub selected_window : k < length ws → w ≡ 0 → window_of (condition_at N k) (get_or ws k 0) ≡ window_of (condition_at (selected N ws) k) w
    selected_window h e =
        elim (cases_lt (get_or ws k 0) (length (condition_at N k).windows)) [
          | inl l ↦ rw (e, selected_in N ws k h, lt-ltb (get_or ws k 0) (length (condition_at N k).windows) l)
          | inr l ↦
              let z = selected_none h l in
              get_or_past (condition_at N k).windows (get_or ws k 0) open_window l ∙ past (omega arith)
        ]

    -- by the number that is kept for window w
    pub kept_none : (w ≡ 0 → None ≡ number_at ws k) → open_window ≡ window_of (condition_at (selected N ws) k) w
    kept_none f =
        elim (cases_lt 0 w) [
          | inl h ↦ past_first h
          | inr h ↦ outside (not_numbered ws k (f (omega arith)))
        ]

    pub kept_some : (n : ℕ) → (w ≡ 0 → Some n ≡ number_at ws k) → (0 < w → Some n ≡ None)
        → window_of (condition_at N k) n ≡ window_of (condition_at (selected N ws) k) w
    kept_some n f l =
        elim (cases_lt 0 w) [
          | inl h ↦ absurd (let e = l h in grind arith)
          | inr h ↦
              let z : w ≡ 0 = omega arith in
              let m = numbered ws k n (f z) in
              ap (window_of (condition_at N k)) m.1 ∙ selected_window m.0 z
        ]
