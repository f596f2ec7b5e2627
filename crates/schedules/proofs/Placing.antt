-- The places of the choice conditions, each the next after the one before. Assumes nothing.
use Rattle.std.proofs.Common.{◌≡◌, ℕ, zero, suc, ◌+◌, ◌<◌, ◌≤◌, List, [], ◌∷◌, length, get_or, drop, Some, None, Option, unwrap_or, IfSome, refl, sym, ◌∙◌, subst, inl, inr, arith}
use Rattle.std.proofs.lemmas.List.{get_or_past}
use Rattle.std.proofs.lemmas.Bool.{lt-ltb, cases_lt}
use Rattle.spans.specs.Kind.{Kind}
use Rattle.networks.specs.Network.{Condition, Network, no_condition, condition_at}
use Rattle.networks.specs.Refusal.{choices}
use Rattle.networks.specs.Legal.{Legal}
use Rattle.schedules.specs.Choosing.{NextChoice, Places, ChoicePlaces, place_of}

-- ---- six of something
by_six : (P : ℕ → Type 0) → P 0 → P 1 → P 2 → P 3 → P 4 → P 5 → (l : ℕ) → l < 6 → P l
by_six P a b c d e f zero l = a
by_six P a b c d e f (suc zero) l = b
by_six P a b c d e f (suc (suc zero)) l = c
by_six P a b c d e f (suc (suc (suc zero))) l = d
by_six P a b c d e f (suc (suc (suc (suc zero)))) l = e
by_six P a b c d e f (suc (suc (suc (suc (suc zero))))) l = f
by_six P a b c d e f (suc (suc (suc (suc (suc (suc l)))))) h = absurd (omega arith)

-- ---- counting
module _ {S : Type 0} where
  -- the choice condition at p counts among those from number `from` on
  choices_found : (cs : List (Condition S)) (from p : ℕ) → from ≤ p → p < length cs → 1 < length (get_or cs p no_condition).windows
      → 1 + choices (drop (suc p) cs) ≤ choices (drop from cs)
  choices_found [] from p le l h = absurd (omega arith)
  choices_found (c ∷ cs) zero zero le l h = rw (lt-ltb 1 (length c.windows) h) (omega arith)
  choices_found (c ∷ cs) zero (suc p) le l h = omega (arith, choices_found cs zero p (omega arith) (omega arith) h)
  choices_found (c ∷ cs) (suc from) zero le l h = absurd (omega arith)
  choices_found (c ∷ cs) (suc from) (suc p) le l h = choices_found cs from p (omega arith) (omega arith) h

-- ---- the places
module _ {S : Type 0} {K : Kind S} (N : Network S) (legal : Legal K N) where
  -- a condition that is no choice has a single window
  lone_here : (k : ℕ) → k < length N.conditions → length (condition_at N k).windows ≤ 1 → length (condition_at N k).windows ≡ 1
  lone_here k l h = omega (arith, (legal.each_condition k l).some_window)

  -- from one place to the next
  record Step (a b : ℕ) : Type 0 where
    within : a ≤ length N.conditions
    rise : a < length N.conditions → a < b
    stay : a ≡ length N.conditions → b ≡ length N.conditions
    lone : (k : ℕ) → a < k → k < b → length (condition_at N k).windows ≡ 1

  step : (a b : ℕ) → a ≤ length N.conditions → NextChoice N (a + 1) b → Step a b
  step a b h next = record {
    within = h;
    rise = λ l. elim (cases_lt b (length N.conditions)) [ inl lb ↦ omega (arith, (next.is_choice lb).0) | inr lb ↦ omega arith ];
    stay = λ e. elim (cases_lt b (length N.conditions)) [
      | inl lb ↦ absurd (omega (arith, (next.is_choice lb).0))
      | inr lb ↦ omega (arith, next.within)
    ];
    lone = λ k la lb. lone_here k (omega (arith, next.within)) (next.none_before k (omega arith) lb);
  }

  module _ (places : ℕ → ℕ) (first : NextChoice N 0 (places 0)) (second : NextChoice N (places 0 + 1) (places 1))
      (third : NextChoice N (places 1 + 1) (places 2)) (fourth : NextChoice N (places 2 + 1) (places 3))
      (fifth : NextChoice N (places 3 + 1) (places 4)) (sixth : NextChoice N (places 4 + 1) (places 5))
      (all : places 6 ≡ length N.conditions) where
    -- a choice condition behind the sixth would be a seventh
    none_behind : (k : ℕ) → places 5 < k → k < length N.conditions → 1 < length (condition_at N k).windows → ⊥
    none_behind k lf lk choice =
        let cs = N.conditions in
        let (l6, h6) = sixth.is_choice (omega arith) in
        let (l5, h5) = fifth.is_choice (omega arith) in
        let (l4, h4) = fourth.is_choice (omega arith) in
        let (l3, h3) = third.is_choice (omega arith) in
        let (l2, h2) = second.is_choice (omega arith) in
        let (l1, h1) = first.is_choice (omega arith) in
        let n1 = choices_found cs 0 (places 0) (omega arith) (omega arith) h1 in
        let n2 = choices_found cs (suc (places 0)) (places 1) (omega arith) (omega arith) h2 in
        let n3 = choices_found cs (suc (places 1)) (places 2) (omega arith) (omega arith) h3 in
        let n4 = choices_found cs (suc (places 2)) (places 3) (omega arith) (omega arith) h4 in
        let n5 = choices_found cs (suc (places 3)) (places 4) (omega arith) (omega arith) h5 in
        let n6 = choices_found cs (suc (places 4)) (places 5) (omega arith) (omega arith) h6 in
        let n7 = choices_found cs (suc (places 5)) k (omega arith) lk choice in
        omega (arith, legal.few_choices)

    last_step : Step (places 5) (places 6)
    last_step = record {
      within = sixth.within;
      rise = λ l. omega arith;
      stay = λ e. all;
      lone = λ k lf lk. lone_here k (omega arith)
          (elim (cases_lt 1 (length (condition_at N k).windows)) [
            | inl choice ↦ absurd (none_behind k lf (omega arith) choice)
            | inr few ↦ few
          ]);
    }

    in_order : Places N places
    in_order = record {
      within = λ l h. elim (cases_lt l 6) [
        | inl l6 ↦ (steps l l6).within
        | inr l6 ↦ let is : 6 ≡ l = omega arith in subst (λ (i : ℕ). places i ≤ length N.conditions) is (omega arith)
      ];
      last = all;
      rise = λ l h. (steps l h).rise;
      stay = λ l h. (steps l h).stay;
      lone_first = λ k l. lone_here k (omega (arith, first.within)) (first.none_before k (omega arith) l);
      lone = λ l k h. (steps l h).lone k;
    }
      where
        steps : (l : ℕ) → l < 6 → Step (places l) (places (suc l))
        steps = by_six (λ l. Step (places l) (places (suc l))) (step (places 0) (places 1) first.within second)
            (step (places 1) (places 2) second.within third) (step (places 2) (places 3) third.within fourth)
            (step (places 3) (places 4) fourth.within fifth) (step (places 4) (places 5) fifth.within sixth) last_step

  -- six next choices, of which some may be missing
  module _ (a b c d e f : Option ℕ) where
    abbrev number : Option ℕ → ℕ
    number o = unwrap_or o (length N.conditions)

    abbrev Below : Option ℕ → Type 0
    Below o = IfSome o (λ k. k < length N.conditions)

    below : (o : Option ℕ) → Below o → (k : ℕ) → o ≡ Some k → k < length N.conditions
    below None h k e = absurd (grind arith)
    below (Some p) h k e = let same : p ≡ k = grind arith in omega arith

    pub places_found : Below a → Below b → Below c → Below d → Below e → Below f
        → NextChoice N 0 (number a) → NextChoice N (number a + 1) (number b) → NextChoice N (number b + 1) (number c)
        → NextChoice N (number c + 1) (number d) → NextChoice N (number d + 1) (number e) → NextChoice N (number e + 1) (number f)
        → ChoicePlaces N (a ∷ b ∷ c ∷ d ∷ e ∷ f ∷ [])
    places_found ta tb tc td te tf first second third fourth fifth sixth = record {
      there = there;
      in_order = in_order (place_of N (a ∷ b ∷ c ∷ d ∷ e ∷ f ∷ [])) first second third fourth fifth sixth refl;
    }
      where
        there : (l k : ℕ) → get_or (a ∷ b ∷ c ∷ d ∷ e ∷ f ∷ []) l None ≡ Some k → k < length N.conditions
        there l k is = elim (cases_lt l 6) [
          | inl low ↦ by_six (λ i. (k : ℕ) → get_or (a ∷ b ∷ c ∷ d ∷ e ∷ f ∷ []) i None ≡ Some k → k < length N.conditions)
              (below a ta) (below b tb) (below c tc) (below d td) (below e te) (below f tf) l low k is
          | inr high ↦ below None tt k (sym (get_or_past (a ∷ b ∷ c ∷ d ∷ e ∷ f ∷ []) l None high) ∙ is)
        ]
