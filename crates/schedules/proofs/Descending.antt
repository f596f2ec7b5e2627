-- One window more is chosen, at place l of the choice conditions: that goes on, or is ruled out. Assumes nothing.
use Rattle.std.proofs.Common.{◌≡◌, ℕ, suc, ◌+◌, ◌<◌, ◌≤◌, List, length, get_or, set, Some, None, Option, unwrap_or, sym, ap, refl, ◌∙◌, subst, arith, length-set, get_or-set_other, get_or-set_same}
use Rattle.spans.specs.Kind.{Kind, Laws}
use Rattle.networks.specs.Network.{Network, condition_at}
use Rattle.networks.specs.Hull.{hulls}
use Rattle.networks.specs.Plan.{HasPlan}
use Rattle.networks.specs.Selection.{chosen}
use Rattle.networks.specs.Legal.{Legal}
use Rattle.distances.specs.Closing.{Closes}
use Rattle.schedules.specs.Choosing.{place_of, Places, ChoicePlaces, Turns, ChosenUpto, Lone, NumbersThere, RuledOut, GoesOn}
use Rattle.schedules.proofs.Selecting.{chosen_skips, legal_chosen}
use Rattle.schedules.proofs.Firsts.{agrees_set, agrees_more, numbers_there_set, numbers_there_skips, none_with_pruned}

-- ---- the numbers with window w at a place
module _ {S : Type 0} (N : Network S) (ws : List ℕ) (place w : ℕ) (upto : ChosenUpto N ws place)
    (turn : (r : ℕ) → Turns N place r → w < r) (here : place < length N.conditions) where
  -- there is such a window
  pub window_there : w < length (condition_at N place).windows
  window_there = turn (length (condition_at N place).windows) (record { of_condition = λ h. refl; past = λ h. absurd (omega arith) })

  with_there : NumbersThere N (set ws place w) (place + 1)
  with_there = numbers_there_set N ws place upto.there w (omega (arith, upto.long)) window_there

  with_long : length N.conditions ≤ length (set ws place w)
  with_long = omega (arith, upto.long, length-set ws place w)

  with_number : get_or (set ws place w) place 0 ≡ w
  with_number = get_or-set_same ws place w 0 (omega (arith, upto.long))

  with_zeros : (k : ℕ) → place < k → get_or (set ws place w) k 0 ≡ 0
  with_zeros k h = get_or-set_other ws place k w 0 (λ e. omega arith) ∙ upto.zeros k (omega arith)

  module _ {K : Kind S} (laws : Laws S K) (legal : Legal K N) where
    pub legal_with : Legal K (chosen N (set ws place w) (place + 1))
    legal_with = legal_chosen laws N legal (set ws place w) (place + 1) (omega (arith, with_long)) with_there

    -- what goes on from ws with window w agrees with these numbers up to the place
    pub ruled_out : (HasPlan K (hulls (chosen N (set ws place w) (place + 1))) → ⊥) → RuledOut K N ws place w
    ruled_out none vs s agrees e =
        none_with_pruned laws N legal (set ws place w) (place + 1) (omega (arith, with_long)) none vs s
        (agrees_more vs (set ws place w) place (λ k h. agrees k h ∙ sym (agrees_set ws place w k h)) (e ∙ sym with_number))

-- ---- on to the next place
module _ {S : Type 0} {K : Kind S} (N : Network S) (places : ℕ → ℕ) (right : Places N places) (l : ℕ) (early : l < 6)
    (ws : List ℕ) (w : ℕ) (upto : ChosenUpto N ws (places l)) (turn : (r : ℕ) → Turns N (places l) r → w < r)
    (matrix : List (Option S)) where
  -- past the last choice condition all stays
  pub stays : (w ≡ 0 → Closes K (chosen N ws (places l)) matrix) → length N.conditions ≤ places l
      → GoesOn K N ws (places l) w ws (places (suc l)) matrix
  stays closed past =
      let place = places l in
      let next = places (suc l) in
      let none : w < 1 = turn 1 (record { of_condition = λ h. absurd (omega arith); past = λ h. refl }) in
      let end : place ≡ length N.conditions = omega (arith, right.within l (omega arith)) in
      let same : place ≡ next = end ∙ sym (right.stay l early end) in
      record {
        agrees = λ k h. refl;
        number = omega (arith, upto.zeros place (omega arith));
        upto = subst (ChosenUpto N ws) same upto;
        closes = subst (λ (end : ℕ). Closes K (chosen N ws end) matrix) same (closed (omega arith));
      }

  -- up to the next place there is nothing to choose
  pub goes_on : places l < length N.conditions → Closes K (chosen N (set ws (places l) w) (places l + 1)) matrix
      → GoesOn K N ws (places l) w (set ws (places l) w) (places (suc l)) matrix
  goes_on here closes =
      let place = places l in
      let next = places (suc l) in
      let us = set ws place w in
      let long = with_long N ws place w upto turn here in
      let rise : place < next = right.rise l early here in
      let within : next ≤ length N.conditions = right.within (suc l) (omega arith) in
      let zeros = with_zeros N ws place w upto turn here in
      let lone : Lone N us (place + 1) next = λ k h lk. (right.lone l k early (omega arith) lk, zeros k (omega arith)) in
      let same = chosen_skips N us (place + 1) next (omega arith) within (omega arith) lone in
      record {
        agrees = agrees_set ws place w;
        number = with_number N ws place w upto turn here;
        upto = record {
          long = long;
          there = numbers_there_skips N us (place + 1) (with_there N ws place w upto turn here) next lone;
          zeros = λ k h. zeros k (omega arith);
        };
        closes = subst (λ (M : Network S). Closes K M matrix) (sym same) closes;
      }

-- choice condition l, where it is there: its place, which is that of a condition
module _ {S : Type 0} (N : Network S) (places : List (Option ℕ)) (known : ChoicePlaces N places) (l p : ℕ) (is : get_or places l None ≡ Some p) where
  pub place_is : place_of N places l ≡ p
  place_is = ap (λ (o : Option ℕ). unwrap_or o (length N.conditions)) is

  pub place_there : place_of N places l < length N.conditions
  place_there = omega (arith, place_is, known.there l p is)
