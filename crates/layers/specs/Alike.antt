-- Each rule of a layer leaves what the conditions join: lemmas by which the rules show their laws. Assumes nothing.
use Rattle.std.specs.Prelude.{◌≡◌, ℕ, zero, suc, ◌<◌, ◌≤◌, List, [], ◌∷◌, ◌++◌, length, take, drop, refl}
use Rattle.std.proofs.Common.{get_or, sym, ap, ◌∙◌, inl, inr, arith, length-append, length-drop, length-take}
use Rattle.std.proofs.Math.ListN.{get_or-map}
use Rattle.std.proofs.lemmas.List.{length-map}
use Rattle.std.proofs.lemmas.Bool.{le-ltb, cases_lt}
use Rattle.networks.specs.Network.{Condition, Network, no_condition, condition_at}
use Rattle.networks.specs.Steps.{JoinsAlike}
use Rattle.networks.specs.Hull.{hull, hulls}
use Rattle.networks.specs.Selection.{only, without_windows, selected_conditions, selected, chosen}

-- ---- condition k under the hull layer
module _ {S : Type 0} (N : Network S) (k : ℕ) where
  pub hull_at : condition_at (hulls N) k ≡ hull (condition_at N k)
  hull_at = get_or-map hull N.conditions k no_condition

  pub hull_points : JoinsAlike (hulls N) N k
  hull_points = record {
    same_count = length-map N.conditions hull;
    same_from = ap (λ (c : Condition S). c.from) hull_at;
    same_to = ap (λ (c : Condition S). c.to) hull_at;
  }

-- ---- the selected conditions
module _ {S : Type 0} where
  pub selected_length : (cs : List (Condition S)) (ws : List ℕ) → length (selected_conditions cs ws) ≡ length cs
  selected_length [] ws = refl
  selected_length (c ∷ cs) [] = ap suc (selected_length cs [])
  selected_length (c ∷ cs) (w ∷ ws) = ap suc (selected_length cs ws)

  only_absent : (w : ℕ) → no_condition {S = S} ≡ only no_condition w
  only_absent w = let h : 0 ≤ w = omega arith in rw (le-ltb w 0 h)

  in_numbers : (cs : List (Condition S)) (ws : List ℕ) (k : ℕ) → k < length ws
      → get_or (selected_conditions cs ws) k no_condition ≡ only (get_or cs k no_condition) (get_or ws k 0)
  in_numbers [] ws k h = only_absent (get_or ws k 0)
  in_numbers (c ∷ cs) [] k h = absurd (omega arith)
  in_numbers (c ∷ cs) (w ∷ ws) zero h = refl
  in_numbers (c ∷ cs) (w ∷ ws) (suc k) h = in_numbers cs ws k (omega arith)

  past_numbers : (cs : List (Condition S)) (ws : List ℕ) (k : ℕ) → length ws ≤ k
      → get_or (selected_conditions cs ws) k no_condition ≡ without_windows (get_or cs k no_condition)
  past_numbers [] ws k h = refl
  past_numbers (c ∷ cs) [] zero h = refl
  past_numbers (c ∷ cs) [] (suc k) h = past_numbers cs [] k (omega arith)
  past_numbers (c ∷ cs) (w ∷ ws) zero h = absurd (omega arith)
  past_numbers (c ∷ cs) (w ∷ ws) (suc k) h = past_numbers cs ws k (omega arith)

module _ {S : Type 0} (N : Network S) (ws : List ℕ) (k : ℕ) where
  pub selected_in : k < length ws → condition_at (selected N ws) k ≡ only (condition_at N k) (get_or ws k 0)
  selected_in = in_numbers N.conditions ws k

  pub selected_past : length ws ≤ k → condition_at (selected N ws) k ≡ without_windows (condition_at N k)
  selected_past = past_numbers N.conditions ws k

  selected_from : (condition_at N k).from ≡ (condition_at (selected N ws) k).from
  selected_from =
      elim (cases_lt k (length ws)) [
        | inl h ↦ ap (λ (c : Condition S). c.from) (sym (selected_in h))
        | inr h ↦ ap (λ (c : Condition S). c.from) (sym (selected_past h))
      ]

  selected_to : (condition_at N k).to ≡ (condition_at (selected N ws) k).to
  selected_to =
      elim (cases_lt k (length ws)) [
        | inl h ↦ ap (λ (c : Condition S). c.to) (sym (selected_in h))
        | inr h ↦ ap (λ (c : Condition S). c.to) (sym (selected_past h))
      ]

  pub selected_points : JoinsAlike (selected N ws) N k
  selected_points = record {
    same_count = selected_length N.conditions ws;
    same_from = sym selected_from;
    same_to = sym selected_to;
  }

-- ---- a list up to a place, another from there on
module _ {X : Type 0} (d : X) where
  pub before_place : (xs ys : List X) (p k : ℕ) → length xs ≡ length ys → k < p → get_or (take p xs ++ drop p ys) k d ≡ get_or xs k d
  before_place xs ys zero k e h = absurd (omega arith)
  before_place [] [] (suc p) k e h = refl
  before_place [] (y ∷ ys) (suc p) k e h = absurd (omega arith)
  before_place (x ∷ xs) [] (suc p) k e h = absurd (omega arith)
  before_place (x ∷ xs) (y ∷ ys) (suc p) zero e h = refl
  before_place (x ∷ xs) (y ∷ ys) (suc p) (suc k) e h = before_place xs ys p k (omega arith) (omega arith)

  pub from_place : (xs ys : List X) (p k : ℕ) → length xs ≡ length ys → p ≤ k → get_or (take p xs ++ drop p ys) k d ≡ get_or ys k d
  from_place xs ys zero k e h = refl
  from_place [] [] (suc p) k e h = refl
  from_place [] (y ∷ ys) (suc p) k e h = absurd (omega arith)
  from_place (x ∷ xs) [] (suc p) k e h = absurd (omega arith)
  from_place (x ∷ xs) (y ∷ ys) (suc p) zero e h = absurd (omega arith)
  from_place (x ∷ xs) (y ∷ ys) (suc p) (suc k) e h = from_place xs ys p k (omega arith) (omega arith)

-- ---- condition k under the layer of a selection in part
module _ {S : Type 0} (N : Network S) (ws : List ℕ) (place : ℕ) where
  same_length : length (selected N ws).conditions ≡ length (hulls N).conditions
  same_length = selected_length N.conditions ws ∙ sym (length-map N.conditions hull)

  chosen_length : length (chosen N ws place).conditions ≡ length N.conditions
  chosen_length =
      let e = selected_length N.conditions ws in
      let f = length-map N.conditions hull in
      simp (length-append, length-take, length-drop) (omega arith)

  module _ (k : ℕ) where
    pub chosen_below : k < place → condition_at (chosen N ws place) k ≡ condition_at (selected N ws) k
    chosen_below h = before_place no_condition (selected N ws).conditions (hulls N).conditions place k same_length h

    pub chosen_above : place ≤ k → condition_at (chosen N ws place) k ≡ condition_at (hulls N) k
    chosen_above h = from_place no_condition (selected N ws).conditions (hulls N).conditions place k same_length h

    pub chosen_points : JoinsAlike (chosen N ws place) N k
    chosen_points = record {
      same_count = chosen_length;
      same_from = elim (cases_lt k place) [
        | inl h ↦ ap (λ (c : Condition S). c.from) (chosen_below h) ∙ sym (selected_from N ws k)
        | inr h ↦ ap (λ (c : Condition S). c.from) (chosen_above h ∙ hull_at N k)
      ];
      same_to = elim (cases_lt k place) [
        | inl h ↦ ap (λ (c : Condition S). c.to) (chosen_below h) ∙ sym (selected_to N ws k)
        | inr h ↦ ap (λ (c : Condition S). c.to) (chosen_above h ∙ hull_at N k)
      ];
    }
