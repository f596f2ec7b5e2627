-- Every state of the machine can be completed, so the place where it gets stuck is the first byte with which nothing can go on. Assumes nothing.
use Rattle.std.proofs.Common.{◌≡◌, ℕ, suc, ◌+◌, ◌<◌, ◌≤◌, Bool, true, false, List, [], ◌∷◌, ◌++◌, length, take, Some, None, Option, refl, suc-le-suc, zero-le, arith}
use Rattle.list_text.specs.declared.token.Mark.{Mark}
use Rattle.list_text.specs.declared.token.Mark.TheVariants.{Open, Close, ListOpen, ListClose, Comma, Semicolon}
use Rattle.list_text.specs.Grammar.{byte, Listing}
use Rattle.list_text.specs.Machine.{State, finished, expects, number, after_dash, in_digits, at_end, after_I, after_In, windows_start, windows_more, rows_more, mark_after, step, reads, stuck, at_the_end, run}

-- from the state the text is read to its end, as l
pub record Accepts (s : State) (t : List ℕ) (l : Listing) : Type 0 where
  pub runs : (p : ℕ) → run p s t ≡ reads l

-- ---- one byte
pub steps : {s k : State} {c : ℕ} {t : List ℕ} {l : Listing} → step s c ≡ Some k → Accepts k t l → Accepts s (c ∷ t) l
steps e a = record { runs = λ p. rw (e, run) (a.runs (p + 1)) }

end_anywhere : (s : State) (p q : ℕ) (l : Listing) → at_the_end p s ≡ reads l → at_the_end q s ≡ reads l
end_anywhere (finished x) p q l e = e
end_anywhere (expects m k) p q l e = cc
end_anywhere (number sign k) p q l e = cc
end_anywhere (after_dash k) p q l e = cc
end_anywhere (in_digits sign left negative n k) p q l e = cc
end_anywhere (at_end k) p q l e = cc
end_anywhere (after_I k) p q l e = cc
end_anywhere (after_In k) p q l e = cc
end_anywhere (windows_start k) p q l e = cc
end_anywhere (windows_more ws k) p q l e = cc
end_anywhere (rows_more n m cs) p q l e = cc

-- what is read does not hang on the place
anywhere : (t : List ℕ) (s : State) (p q : ℕ) (l : Listing) → run p s t ≡ reads l → run q s t ≡ reads l
anywhere [] s p q l e = end_anywhere s p q l e
anywhere (c ∷ cs) s p q l e = go (step s c) e (λ k. anywhere cs k (p + 1) (q + 1) l)
  where
    go : (o : Option State) → elim o [ None ↦ stuck p | Some k ↦ run (p + 1) k cs ] ≡ reads l
        → ((k : State) → run (p + 1) k cs ≡ reads l → run (q + 1) k cs ≡ reads l)
        → elim o [ None ↦ stuck q | Some k ↦ run (q + 1) k cs ] ≡ reads l
    go None e on = cc
    go (Some k) e on = on k e

pub accepts : {s : State} {t : List ℕ} {l : Listing} (p : ℕ) → run p s t ≡ reads l → Accepts s t l
accepts {s} {t} {l} p e = record { runs = λ q. anywhere t s p q l e }

pub back : {s k : State} {c : ℕ} {t : List ℕ} {l : Listing} → step s c ≡ Some k → Accepts s (c ∷ t) l → Accepts k t l
back e a = accepts 1 (rw (e, run) at (a.runs 0))

pub never : {s : State} {c : ℕ} {t : List ℕ} {l : Listing} → step s c ≡ None → Accepts s (c ∷ t) l → ⊥
never {s} {c} {t} {l} e a =
    let h : stuck 0 ≡ reads l = rw (e, run) at (a.runs 0) in
    let z : ◌≡◌ {A = ℕ} 0 1 = cc in omega arith

pub takes_mark : (m : Mark) (k : State) → step (expects m k) (byte m) ≡ Some k
takes_mark Open k = refl
takes_mark Close k = refl
takes_mark ListOpen k = refl
takes_mark ListClose k = refl
takes_mark Comma k = refl
takes_mark Semicolon k = refl

pub ends_digits : (sign : Bool) (left : ℕ) (negative : Bool) (n : ℕ) (k : Bool → ℕ → State)
    → step (in_digits sign left negative n k) (byte (mark_after sign)) ≡ Some (k negative n)
ends_digits true left negative n k = refl
ends_digits false left negative n k = refl

-- ---- a completion of each state
abbrev completion : State → List ℕ
completion (finished l) = []
completion (expects m k) = byte m ∷ completion k
completion (number sign k) = 48 ∷ byte (mark_after sign) ∷ completion (k false 0)
completion (after_dash k) = 48 ∷ 41 ∷ completion (k true 0)
completion (in_digits sign left negative n k) = byte (mark_after sign) ∷ completion (k negative n)
completion (at_end k) = 73 ∷ 110 ∷ 102 ∷ completion (k None)
completion (after_I k) = 110 ∷ 102 ∷ completion k
completion (after_In k) = 102 ∷ completion k
completion (windows_start k) = 93 ∷ completion (k [])
completion (windows_more ws k) = 93 ∷ completion (k ws)
completion (rows_more n m cs) = 93 ∷ []

completes : (s : State) → (l : Listing) × Accepts s (completion s) l
completes (finished l) = (l, record { runs = λ p. refl })
completes (expects m k) = let h = completes k in (h.0, steps (takes_mark m k) h.1)
completes (number sign k) = let h = completes (k false 0) in (h.0, steps refl (steps (ends_digits sign 11 false 0 k) h.1))
completes (after_dash k) = let h = completes (k true 0) in (h.0, steps refl (steps (ends_digits true 11 true 0 k) h.1))
completes (in_digits sign left negative n k) = let h = completes (k negative n) in (h.0, steps (ends_digits sign left negative n k) h.1)
completes (at_end k) = let h = completes (k None) in (h.0, steps refl (steps refl (steps refl h.1)))
completes (after_I k) = let h = completes k in (h.0, steps refl (steps refl h.1))
completes (after_In k) = let h = completes k in (h.0, steps refl h.1)
completes (windows_start k) = let h = completes (k []) in (h.0, steps refl h.1)
completes (windows_more ws k) = let h = completes (k ws) in (h.0, steps refl h.1)
completes (rows_more n m cs) = (record { first = n; second = m; conditions = cs }, steps refl (record { runs = λ p. refl }))

completed : (s : State) → (v : List ℕ) × (l : Listing) × Accepts s v l
completed s = let h = completes s in (completion s, h.0, h.1)

-- ---- where the machine gets stuck, k bytes on
pub record Stuck (s : State) (t : List ℕ) (k : ℕ) : Type 0 where
  pub within : k ≤ length t
  pub before : (v : List ℕ) × (l : Listing) × Accepts s (take k t ++ v) l
  pub here : k < length t → (v : List ℕ) (l : Listing) → Accepts s (take (suc k) t ++ v) l → ⊥

end_stuck : (s : State) (p q : ℕ) → at_the_end p s ≡ stuck q → p ≡ q
end_stuck (finished l) p q e = cc
end_stuck (expects m k) p q e = cc
end_stuck (number sign k) p q e = cc
end_stuck (after_dash k) p q e = cc
end_stuck (in_digits sign left negative n k) p q e = cc
end_stuck (at_end k) p q e = cc
end_stuck (after_I k) p q e = cc
end_stuck (after_In k) p q e = cc
end_stuck (windows_start k) p q e = cc
end_stuck (windows_more ws k) p q e = cc
end_stuck (rows_more n m cs) p q e = cc

pub gets_stuck : (t : List ℕ) (s : State) (p q : ℕ) → run p s t ≡ stuck q → (k : ℕ) × (q ≡ p + k) × Stuck s t k
gets_stuck [] s p q e =
    (0, omega (arith, end_stuck s p q e), record { within = zero-le; before = completed s; here = λ lt. absurd (omega arith) })
gets_stuck (c ∷ cs) s p q e = go (step s c) refl e (λ k. gets_stuck cs k (p + 1) q)
  where
    go : (o : Option State) → step s c ≡ o → elim o [ None ↦ stuck p | Some k ↦ run (p + 1) k cs ] ≡ stuck q
        → ((k : State) → run (p + 1) k cs ≡ stuck q → (i : ℕ) × (q ≡ (p + 1) + i) × Stuck k cs i)
        → (k : ℕ) × (q ≡ p + k) × Stuck s (c ∷ cs) k
    go None is e on =
        (0, (let h : p ≡ q = cc in omega arith), record { within = zero-le; before = completed s; here = λ lt v l a. never is a })
    go (Some k) is e on =
        let h = on k e in (
          suc h.0,
          omega arith,
          record {
            within = suc-le-suc h.2.within;
            before = (h.2.before.0, h.2.before.1, steps is h.2.before.2);
            here = λ lt v l a. h.2.here (omega arith) v l (back is a);
          },
        )
