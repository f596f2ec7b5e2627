-- What each question finds under the hull layer. Assumes nothing.
use Rattle.std.proofs.Common.{◌≡◌, ℕ, ◌+◌, ◌-◌, ◌<◌, ◌≤◌, List, [], ◌∷◌, length, get_or, sym, refl, ap, ◌∙◌, arith}
use Rattle.std.proofs.lemmas.List.{get_or_past}
use Rattle.networks.specs.declared.window.Window.{Window}
use Rattle.networks.specs.Network.{Condition, Network, open_window, condition_at, window_of}
use Rattle.networks.specs.Hull.{last_high, hull_windows_lem, hull, hulls}
pub use Rattle.layers.specs.Alike.{hull_at, hull_points}

-- ---- the windows of one hull
module _ {S : Type 0} where
  none : (ws : List (Window S)) → length ws ≡ 0 → 0 ≡ length (hull_windows_lem ws)
  none [] e = refl
  none (w ∷ ws) e = absurd (omega arith)

  one : (ws : List (Window S)) → (length ws ≡ 0 → ⊥) → 1 ≡ length (hull_windows_lem ws)
  one [] ne = absurd (ne refl)
  one (w ∷ ws) ne = refl

  at_most_one : (ws : List (Window S)) → length (hull_windows_lem ws) ≤ 1
  at_most_one [] = omega arith
  at_most_one (w ∷ ws) = omega arith

  first_low : (ws : List (Window S)) → (get_or ws 0 open_window).low ≡ (get_or (hull_windows_lem ws) 0 open_window).low
  first_low [] = refl
  first_low (w ∷ ws) = refl

  last_is : (w : Window S) (ws : List (Window S)) → (get_or (w ∷ ws) (length ws) open_window).high ≡ last_high w ws
  last_is w [] = refl
  last_is w (v ∷ ws) = last_is v ws

  last_of : (ws : List (Window S)) (m : ℕ) → m + 1 ≡ length ws
      → (get_or ws m open_window).high ≡ (get_or (hull_windows_lem ws) 0 open_window).high
  last_of [] m e = refl
  last_of (w ∷ ws) m e =
      let h : m ≡ length ws = omega arith in
      ap (λ (i : ℕ). (get_or (w ∷ ws) i open_window).high) h ∙ last_is w ws

-- ---- condition k under the layer
module _ {S : Type 0} (N : Network S) (k : ℕ) where
  pub hull_none : length (condition_at N k).windows ≡ 0 → 0 ≡ length (condition_at (hulls N) k).windows
  hull_none e = none _ e ∙ ap (λ (c : Condition S). length c.windows) (sym (hull_at N k))

  pub hull_one : (length (condition_at N k).windows ≡ 0 → ⊥) → 1 ≡ length (condition_at (hulls N) k).windows
  hull_one ne = one _ ne ∙ ap (λ (c : Condition S). length c.windows) (sym (hull_at N k))

  module _ (w : ℕ) where
    pub hull_low_lem : w ≡ 0 → (window_of (condition_at N k) 0).low ≡ (window_of (condition_at (hulls N) k) w).low
    hull_low_lem e =
        first_low (condition_at N k).windows
        ∙ ap (λ (v : ℕ). (window_of (hull (condition_at N k)) v).low) (sym e)
        ∙ ap (λ (c : Condition S). (window_of c w).low) (sym (hull_at N k))

    pub hull_high_lem : (n : ℕ) → w ≡ 0 → n ≡ length (condition_at N k).windows → 0 < n
        → (window_of (condition_at N k) (n - 1)).high ≡ (window_of (condition_at (hulls N) k) w).high
    hull_high_lem n e l h =
        last_of (condition_at N k).windows (n - 1) (omega arith)
        ∙ ap (λ (v : ℕ). (window_of (hull (condition_at N k)) v).high) (sym e)
        ∙ ap (λ (c : Condition S). (window_of c w).high) (sym (hull_at N k))

    -- no window of that number
    pub hull_past : length (condition_at (hulls N) k).windows ≤ w → open_window ≡ window_of (condition_at (hulls N) k) w
    hull_past h = sym (get_or_past (condition_at (hulls N) k).windows w open_window h)

    pub hull_second : (w ≡ 0 → ⊥) → open_window ≡ window_of (condition_at (hulls N) k) w
    hull_second ne =
        let s = at_most_one (condition_at N k).windows in
        let e : length (condition_at (hulls N) k).windows ≡ length (hull_windows_lem (condition_at N k).windows) = ap (λ (c : Condition S). length c.windows) (hull_at N k) in
        hull_past (omega arith)
