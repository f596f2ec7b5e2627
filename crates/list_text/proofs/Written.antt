-- Whatever the grammar writes, the machine reads, as what it says. Assumes nothing.
use Rattle.std.proofs.Common.{◌≡◌, ℕ, zero, suc, ◌+◌, ◌-◌, ◌*◌, ◌≤◌, Bool, true, false, List, [], ◌∷◌, ◌++◌, length, ℤ, Some, None, Option, sym, refl, ◌∙◌, subst, append_assoc, append-nil, arith}
use Rattle.std.proofs.lemmas.Bool.{cond-true, cond-false}
use Rattle.std.proofs.lemmas.Bool.Decides.{nat_tests}
use Rattle.spans.specs.declared.minutes.Minutes.{Minutes}
use Rattle.spans.specs.MinuteKind.{minutes}
use Rattle.networks.specs.declared.window.Window.{Window}
use Rattle.networks.specs.Network.{Condition}
use Rattle.list_text.specs.declared.token.Mark.{Mark}
use Rattle.list_text.specs.declared.token.Mark.TheVariants.{Open, Close, ListClose, Comma}
use Rattle.list_text.specs.Grammar.{◌⨾◌, Part, none, more, Blanks, blank, digit, AllOf, Numeral, written, with_sign, dash, free, Token, One, Natural, Integer, End, MoreWindows, Windows, OneRow, AllRows, Listing, Says}
use Rattle.list_text.specs.Machine.{State, finished, expects, number, after_dash, in_digits, at_end, windows_start, windows_more, rows_more, mark_after, in_window, in_row, step, start}
use Rattle.list_text.proofs.Completions.{Accepts, steps, takes_mark, ends_digits}

-- ---- blanks change nothing in a state that waits for a token
pub record Waits (s : State) : Type 0 where
  pub stays : (c : ℕ) → blank c ≡ true → step s c ≡ Some s

pub expects_waits : {m : Mark} {k : State} → Waits (expects m k)
expects_waits = record { stays = λ c e. cond-true (blank c) _ _ e }

pub finished_waits : {l : Listing} → Waits (finished l)
finished_waits = record { stays = λ c e. cond-true (blank c) _ _ e }

pub number_waits : {sign : Bool} {k : Bool → ℕ → State} → Waits (number sign k)
number_waits = record { stays = λ c e. cond-true (blank c) _ _ e }

pub end_waits : {k : Option Minutes → State} → Waits (at_end k)
end_waits = record { stays = λ c e. cond-true (blank c) _ _ e }

pub windows_start_waits : {k : List (Window Minutes) → State} → Waits (windows_start k)
windows_start_waits = record { stays = λ c e. cond-true (blank c) _ _ e }

pub windows_more_waits : {ws : List (Window Minutes)} {k : List (Window Minutes) → State} → Waits (windows_more ws k)
windows_more_waits = record { stays = λ c e. cond-true (blank c) _ _ e }

pub rows_wait : {n m : ℕ} {cs : List (Condition Minutes)} → Waits (rows_more n m cs)
rows_wait = record { stays = λ c e. cond-true (blank c) _ _ e }

pub past_gap : {s : State} {u v : List ℕ} {l : Listing} → Waits s → Blanks u v → Accepts s v l → Accepts s u l
past_gap i none a = a
past_gap i (more c e b) a = steps (i.stays c e) (past_gap i b a)

pub past_mark : {m : Mark} {k : State} {u v : List ℕ} {l : Listing} → One free m u v → Accepts k v l → Accepts (expects m k) u l
past_mark {m} {k} b a = past_gap expects_waits b (steps (takes_mark m k) a)

-- ---- numbers
pub blank_no_digit : (c : ℕ) → blank c ≡ true → digit c ≡ false
blank_no_digit c e = grind (arith, nat_tests)

digit_no_blank : (c : ℕ) → digit c ≡ true → blank c ≡ false
digit_no_blank c e = grind (arith, nat_tests)

-- after the digits: blanks and the mark
past_number_mark : {sign : Bool} {left : ℕ} {negative : Bool} {n : ℕ} {k : Bool → ℕ → State} {v w : List ℕ} {l : Listing}
    → One free (mark_after sign) v w → Accepts (k negative n) w l → Accepts (in_digits sign left negative n k) v l
past_number_mark {sign} {left} {negative} {n} {k} none a = steps (ends_digits sign left negative n k) a
past_number_mark {sign} {left} {negative} {n} {k} (more c e b) a =
    steps (cond-false (digit c) _ _ (blank_no_digit c e) ∙ cond-true (blank c) _ _ e) (past_mark b a)

past_digits : (sign negative : Bool) (k : Bool → ℕ → State) (v : List ℕ) (l : Listing) (ds : List ℕ) (left n : ℕ)
    → AllOf digit ds → length ds ≤ left → ((i : ℕ) → Accepts (in_digits sign i negative (written n ds) k) v l)
    → Accepts (in_digits sign left negative n k) (ds ++ v) l
past_digits sign negative k v l [] left n all few a = a left
past_digits sign negative k v l (c ∷ cs) zero n all few a = absurd (omega arith)
past_digits sign negative k v l (c ∷ cs) (suc left) n all few a =
    steps (cond-true (digit c) _ _ all.0) (past_digits sign negative k v l cs left (n * 10 + (c - 48)) all.1 (omega arith) a)

past_numeral : (sign : Bool) (k : Bool → ℕ → State) (v w : List ℕ) (l : Listing) (ds : List ℕ) (n : ℕ)
    → Numeral n ds → One free (mark_after sign) v w → Accepts (k false n) w l → Accepts (number sign k) (ds ++ v) l
past_numeral sign k v w l [] n h b a = absurd (omega (arith, h.some))
past_numeral sign k v w l (c ∷ cs) n h b a =
    steps (cond-false (blank c) _ _ (digit_no_blank c h.digits.0) ∙ cond-true (digit c) _ _ h.digits.0)
    (past_digits sign false k v l cs 11 (0 * 10 + (c - 48)) h.digits.1 (omega (arith, h.few))
    (λ i. past_number_mark b (subst (λ x. Accepts (k false x) w l) (sym h.writes) a)))

past_negative : (k : Bool → ℕ → State) (v w : List ℕ) (l : Listing) (ds : List ℕ) (n : ℕ)
    → Numeral n ds → One free Close v w → Accepts (k true n) w l → Accepts (after_dash k) (ds ++ v) l
past_negative k v w l [] n h b a = absurd (omega (arith, h.some))
past_negative k v w l (c ∷ cs) n h b a =
    steps (cond-true (digit c) _ _ h.digits.0)
    (past_digits true true k v l cs 11 (0 * 10 + (c - 48)) h.digits.1 (omega (arith, h.few))
    (λ i. past_number_mark b (subst (λ x. Accepts (k true x) w l) (sym h.writes) a)))

pub past_natural : {n : ℕ} {k : Bool → ℕ → State} {u v w : List ℕ} {l : Listing}
    → Natural free n u v → One free Comma v w → Accepts (k false n) w l → Accepts (number false k) u l
past_natural {n} {k} {u} {v} {w} {l} (ds, h, b) o a = past_gap number_waits b (past_numeral false k v w l ds n h o a)

past_integer : (k : Minutes → State) {u v w : List ℕ} {l : Listing} (z : ℤ)
    → Integer free z u v → One free Close v w → Accepts (k (minutes z)) w l
    → Accepts (number true (λ negative n. k (minutes (with_sign negative n)))) u l
past_integer k {u} {v} {w} {l} z (bs, (negative, n, ds, h, is, spelt), b) o a =
    go negative is (subst (λ y. Token free y u v) spelt b)
  where
    go : (neg : Bool) → with_sign neg n ≡ z → Token free (dash neg ++ ds) u v → Accepts (number true (λ g m. k (minutes (with_sign g m)))) u l
    go false is b = past_gap number_waits b (past_numeral true _ v w l ds n h o (subst (λ x. Accepts (k (minutes x)) w l) (sym is) a))
    go true is b = past_gap number_waits b (steps refl (past_negative _ v w l ds n h o (subst (λ x. Accepts (k (minutes x)) w l) (sym is) a)))

-- ---- ends and windows
past_end : (k : Option Minutes → State) {u v : List ℕ} {l : Listing} (o : Option Minutes) → End free o u v → Accepts (k o) v l → Accepts (at_end k) u l
past_end k (Some m) (u1, b1, (u2, b2, (u3, i, b3))) a =
    past_gap end_waits b1 (steps refl (past_mark b2 (past_integer (λ x. k (Some x)) m.count i b3 a)))
past_end k None b a = past_gap end_waits b (steps refl (steps refl (steps refl a)))

-- a window without its first bracket
abbrev Inside : Window Minutes → Part
Inside w = End free w.low ⨾ One free Comma ⨾ End free w.high ⨾ One free Close

past_window : (ws : List (Window Minutes)) (k : List (Window Minutes) → State) {u v : List ℕ} {l : Listing} (w : Window Minutes)
    → Inside w u v → Accepts (windows_more (ws ++ (w ∷ [])) k) v l → Accepts (in_window ws k) u l
past_window ws k w (u2, e2, (u3, b3, (u4, e4, b5))) a = past_end _ w.low e2 (past_mark b3 (past_end _ w.high e4 (past_mark b5 a)))

past_more_windows : (k : List (Window Minutes) → State) (ws : List (Window Minutes)) {u v x : List ℕ} {l : Listing} (vs : List (Window Minutes))
    → MoreWindows free vs u v → One free ListClose v x → Accepts (k (ws ++ vs)) x l → Accepts (windows_more ws k) u l
past_more_windows k ws {u} {v} {x} {l} [] e o a =
    past_gap windows_more_waits (subst (λ y. One free ListClose y x) (sym e) o) (steps refl (subst (λ y. Accepts (k y) x l) (append-nil ws) a))
past_more_windows k ws {u} {v} {x} {l} (w ∷ vs) (u1, b1, (u2, (u3, b3, i), t)) o a =
    past_gap windows_more_waits b1 (steps refl (past_mark b3 (past_window ws k w i
    (past_more_windows k (ws ++ (w ∷ [])) vs t o (subst (λ y. Accepts (k y) x l) (sym (append_assoc ws (w ∷ []) vs)) a)))))

past_windows : (k : List (Window Minutes) → State) {u v x : List ℕ} {l : Listing} (ws : List (Window Minutes))
    → Windows free ws u v → One free ListClose v x → Accepts (k ws) x l → Accepts (windows_start k) u l
past_windows k {u} {v} {x} {l} [] e o a = past_gap windows_start_waits (subst (λ y. One free ListClose y x) (sym e) o) (steps refl a)
past_windows k (w ∷ ws) (u1, (u2, b2, i), t) o a =
    past_gap windows_start_waits b2 (steps refl (past_window [] k w i (past_more_windows k (w ∷ []) ws t o a)))

-- ---- rows and the text
past_row : (k : Condition Minutes → State) {u v : List ℕ} {l : Listing} (c : Condition Minutes)
    → OneRow free c u v → Accepts (k c) v l → Accepts (expects Open (in_row k)) u l
past_row k c (u1, b1, (u2, n2, (u3, b3, (u4, n4, (u5, b5, (u6, b6, (u7, w7, (u8, b8, b9)))))))) a =
    past_mark b1 (past_natural n2 b3 (past_natural n4 b5 (past_mark b6 (past_windows _ c.windows w7 b8 (past_mark b9 a)))))

past_rows : (n m : ℕ) (cs : List (Condition Minutes)) {u v x : List ℕ} {l : Listing} (ds : List (Condition Minutes))
    → AllRows free ds u v → One free ListClose v x → Accepts (finished (record { first = n; second = m; conditions = cs ++ ds })) x l
    → Accepts (rows_more n m cs) u l
past_rows n m cs {u} {v} {x} {l} [] e o a =
    past_gap rows_wait (subst (λ y. One free ListClose y x) (sym e) o)
    (steps refl (subst (λ y. Accepts (finished (record { first = n; second = m; conditions = y })) x l) (append-nil cs) a))
past_rows n m cs {u} {v} {x} {l} (c ∷ ds) (u1, b1, (u2, r2, t)) o a =
    past_gap rows_wait b1 (steps refl (past_row (λ y. rows_more n m (cs ++ (y ∷ []))) c r2 (past_rows n m (cs ++ (c ∷ [])) ds t o
    (subst (λ y. Accepts (finished (record { first = n; second = m; conditions = y })) x l) (sym (append_assoc cs (c ∷ []) ds)) a))))

pub written_read : {t : List ℕ} {l : Listing} → Says t l → Accepts start t l
written_read {t} {l} (u1, b1, (u2, (v1, o1, (v2, n2, (v3, o3, (v4, n4, (v5, o5, (v6, o6, (v7, o7, o8))))))), (u3, rs, (u4, b4, e)))) =
    past_mark b1 (past_mark o1 (past_natural n2 o3 (past_natural n4 o5 (past_mark o6 (past_mark o7 (past_mark o8
    (past_rows l.first l.second [] l.conditions rs b4 (past_gap finished_waits e (record { runs = λ p. refl })))))))))
