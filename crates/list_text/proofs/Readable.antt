-- Whatever the machine reads, the grammar writes. Assumes nothing.
use Rattle.std.proofs.Common.{◌≡◌, ℕ, zero, suc, ◌+◌, ◌-◌, ◌*◌, ◌≤◌, Bool, true, false, cond, eqb, List, [], ◌∷◌, ◌++◌, length, Some, None, Option, sym, refl, ap, ◌∙◌, subst, append_assoc, append-nil, suc-le-suc, zero-le, arith}
use Rattle.std.proofs.lemmas.Bool.{eqb-true}
use Rattle.spans.specs.declared.minutes.Minutes.{Minutes}
use Rattle.spans.specs.MinuteKind.{minutes}
use Rattle.networks.specs.declared.window.Window.{Window}
use Rattle.networks.specs.Network.{Condition}
use Rattle.list_text.specs.declared.token.Mark.{Mark}
use Rattle.list_text.specs.declared.token.Mark.TheVariants.{Open, Close, ListClose, Comma}
use Rattle.list_text.specs.Grammar.{◌⨾◌, Part, none, more, Blanks, byte, blank, digit, AllOf, Numeral, written, with_sign, dash, free, Token, One, Natural, Integer, End, OneWindow, MoreWindows, Windows, OneRow, AllRows, Listing, Says}
use Rattle.list_text.specs.Machine.{State, finished, expects, number, after_dash, in_digits, at_end, after_I, after_In, windows_start, windows_more, rows_more, mark_after, in_window, in_row, one_digit, step, start, reads, stuck, at_the_end}
use Rattle.list_text.proofs.Completions.{Accepts, back, never}

-- ---- what is still to come in a state, by the grammar
-- a minus only where a sign may stand
abbrev pub SignAllowed : Bool → Bool → Type 0
SignAllowed sign false = Unit {0}
SignAllowed true true = Unit {0}
SignAllowed false true = ⊥

abbrev pub Number : Bool → Bool → ℕ → Part
Number sign negative n u v = (ds : List ℕ) × Numeral n ds × SignAllowed sign negative × Token free (dash negative ++ ds) u v

abbrev pub Rest : State → List ℕ → Listing → Type 0
Rest (finished x) u l = Blanks u [] × (x ≡ l)
Rest (expects m k) u l = (v : List ℕ) × One free m u v × Rest k v l
Rest (number sign k) u l =
    (negative : Bool) × (n : ℕ) × (v : List ℕ) × (w : List ℕ) × Number sign negative n u v × One free (mark_after sign) v w × Rest (k negative n) w l
Rest (after_dash k) u l =
    (n : ℕ) × (ds : List ℕ) × (v : List ℕ) × (w : List ℕ) × Numeral n ds × (u ≡ ds ++ v) × One free Close v w × Rest (k true n) w l
Rest (in_digits sign left negative n k) u l =
    (ds : List ℕ) × (v : List ℕ) × (w : List ℕ) × AllOf digit ds × (length ds ≤ left) × (u ≡ ds ++ v)
    × One free (mark_after sign) v w × Rest (k negative (written n ds)) w l
Rest (at_end k) u l = (o : Option Minutes) × (v : List ℕ) × End free o u v × Rest (k o) v l
Rest (after_I k) u l = (v : List ℕ) × (u ≡ 110 ∷ 102 ∷ v) × Rest k v l
Rest (after_In k) u l = (v : List ℕ) × (u ≡ 102 ∷ v) × Rest k v l
Rest (windows_start k) u l =
    (ws : List (Window Minutes)) × (v : List ℕ) × (x : List ℕ) × Windows free ws u v × One free ListClose v x × Rest (k ws) x l
Rest (windows_more ws k) u l =
    (vs : List (Window Minutes)) × (v : List ℕ) × (x : List ℕ) × MoreWindows free vs u v × One free ListClose v x × Rest (k (ws ++ vs)) x l
Rest (rows_more n m cs) u l =
    (ds : List (Condition Minutes)) × (v : List ℕ) × (x : List ℕ) × AllRows free ds u v × One free ListClose v x × Blanks x []
    × (record { first = n; second = m; conditions = cs ++ ds } ≡ l)

-- ---- one byte before it
-- one test of a step, and what is left of it
test : (P : Type 0) (R : State → Type 0) (b : Bool) (s k : State) (r : Option State) → cond b (Some s) r ≡ Some k → R k
    → (b ≡ true → R s → P) → (b ≡ false → r ≡ Some k → P) → P
test P R true s k r e x y n = y refl (let h : k ≡ s = cc in subst R h x)
test P R false s k r e x y n = n refl e

no_step : (P : Type 0) (k : State) → None ≡ Some k → P
no_step P k e = let z : ◌≡◌ {A = ℕ} 0 1 = cc in absurd (omega arith)

at_once : (c b : ℕ) (u : List ℕ) → eqb c b ≡ true → Blanks (c ∷ u) (b ∷ u)
at_once c b u e = subst (λ x. Blanks (c ∷ u) (x ∷ u)) (eqb-true c b e) none

-- a blank before a part whose first token is not yet begun
blank_end : (c : ℕ) (o : Option Minutes) (u v : List ℕ) → blank c ≡ true → End free o u v → End free o (c ∷ u) v
blank_end c (Some a) u v e (w, b, t) = (w, more c e b, t)
blank_end c None u v e b = more c e b

blank_window : (c : ℕ) (w : Window Minutes) (u v : List ℕ) → blank c ≡ true → OneWindow free w u v → OneWindow free w (c ∷ u) v
blank_window c w u v e (x, b, t) = (x, more c e b, t)

from_finished : (x : Listing) (c : ℕ) (k : State) (u : List ℕ) (l : Listing) → step (finished x) c ≡ Some k → Rest k u l → Rest (finished x) (c ∷ u) l
from_finished x c k u l e r = test _ (λ s. Rest s u l) (blank c) _ k _ e r (λ b h. (more c b h.0, h.1)) (λ b n. no_step _ k n)

from_expects : (m : Mark) (j : State) (c : ℕ) (k : State) (u : List ℕ) (l : Listing) → step (expects m j) c ≡ Some k → Rest k u l → Rest (expects m j) (c ∷ u) l
from_expects m j c k u l e r =
    test _ (λ s. Rest s u l) (blank c) _ k _ e r (λ b h. (h.0, more c b h.1, h.2))
    (λ b n. test _ (λ s. Rest s u l) (eqb c (byte m)) _ k _ n r (λ t h. (u, at_once c (byte m) u t, h)) (λ b n. no_step _ k n))

one_more : (c : ℕ) (ds : List ℕ) → digit c ≡ true → AllOf digit ds → length ds ≤ 11 → Numeral (written (0 * 10 + (c - 48)) ds) (c ∷ ds)
one_more c ds e all few = record { some = omega arith; few = omega arith; digits = (e, all); writes = refl }

from_number : (sign : Bool) (j : Bool → ℕ → State) (c : ℕ) (k : State) (u : List ℕ) (l : Listing) → step (number sign j) c ≡ Some k → Rest k u l → Rest (number sign j) (c ∷ u) l
from_number sign j c k u l e r =
    test _ (λ s. Rest s u l) (blank c) _ k _ e r
    (λ b h. (h.0, h.1, h.2, h.3, (h.4.0, h.4.1, h.4.2, more c b h.4.3), h.5, h.6))
    (λ b n. test _ (λ s. Rest s u l) (digit c) _ k _ n r
    (λ t h. (false, written (0 * 10 + (c - 48)) h.0, h.1, h.2, (c ∷ h.0, one_more c h.0 t h.3 h.4, tt, subst (λ y. Blanks (c ∷ u) (c ∷ y)) h.5 none), h.6, h.7))
    (λ b n. minus sign n))
  where
    minus : (sign : Bool) → cond sign (cond (eqb c 45) (Some (after_dash j)) None) None ≡ Some k → Rest (number sign j) (c ∷ u) l
    minus false n = no_step _ k n
    minus true n =
        test _ (λ s. Rest s u l) (eqb c 45) _ k _ n r
        (λ t h. (true, h.0, h.2, h.3, (h.1, h.4, tt, subst (λ y. Blanks (c ∷ u) (45 ∷ y)) h.5 (at_once c 45 u t)), h.6, h.7))
        (λ b n. no_step _ k n)

from_dash : (j : Bool → ℕ → State) (c : ℕ) (k : State) (u : List ℕ) (l : Listing) → step (after_dash j) c ≡ Some k → Rest k u l → Rest (after_dash j) (c ∷ u) l
from_dash j c k u l e r =
    test _ (λ s. Rest s u l) (digit c) _ k _ e r
    (λ t h. (written (0 * 10 + (c - 48)) h.0, c ∷ h.0, h.1, h.2, one_more c h.0 t h.3 h.4, ap (λ y. c ∷ y) h.5, h.6, h.7))
    (λ b n. no_step _ k n)

from_digits : (sign : Bool) (left : ℕ) (negative : Bool) (n : ℕ) (j : Bool → ℕ → State) (c : ℕ) (k : State) (u : List ℕ) (l : Listing)
    → step (in_digits sign left negative n j) c ≡ Some k → Rest k u l → Rest (in_digits sign left negative n j) (c ∷ u) l
from_digits sign left negative n j c k u l e r = go (digit c) refl e
  where
    digit_more : (left : ℕ) → digit c ≡ true → one_digit left (λ i. in_digits sign i negative (n * 10 + (c - 48)) j) ≡ Some k
        → Rest (in_digits sign left negative n j) (c ∷ u) l
    digit_more zero t e = no_step _ k e
    digit_more (suc i) t e =
        let same : k ≡ in_digits sign i negative (n * 10 + (c - 48)) j = cc in
        let h = subst (λ y. Rest y u l) same r in
        (c ∷ h.0, h.1, h.2, (t, h.3), suc-le-suc h.4, ap (λ y. c ∷ y) h.5, h.6, h.7)

    go : (b : Bool) → digit c ≡ b
        → cond b (one_digit left (λ i. in_digits sign i negative (n * 10 + (c - 48)) j)) (cond (blank c) (Some (expects (mark_after sign) (j negative n))) (cond (eqb c (byte (mark_after sign))) (Some (j negative n)) None)) ≡ Some k
        → Rest (in_digits sign left negative n j) (c ∷ u) l
    go true t e = digit_more left t e
    go false t e =
        test _ (λ s. Rest s u l) (blank c) _ k _ e r (λ b h. ([], c ∷ u, h.0, tt, zero-le, refl, more c b h.1, h.2))
        (λ b n. test _ (λ s. Rest s u l) (eqb c (byte (mark_after sign))) _ k _ n r
        (λ t h. ([], c ∷ u, u, tt, zero-le, refl, at_once c (byte (mark_after sign)) u t, h)) (λ b n. no_step _ k n))

-- a number behind `E(`, and one without a sign
as_integer : (negative : Bool) (n : ℕ) (u v : List ℕ) → Number true negative n u v → Integer free (with_sign negative n) u v
as_integer negative n u v (ds, h, _, b) = (dash negative ++ ds, (negative, n, ds, h, refl, refl), b)

as_natural : (negative : Bool) (n : ℕ) (u v : List ℕ) → Number false negative n u v → Natural free n u v
as_natural false n u v (ds, h, t, b) = (ds, h, b)
as_natural true n u v (ds, h, t, b) = absurd t

from_end : (j : Option Minutes → State) (c : ℕ) (k : State) (u : List ℕ) (l : Listing) → step (at_end j) c ≡ Some k → Rest k u l → Rest (at_end j) (c ∷ u) l
from_end j c k u l e r =
    test _ (λ s. Rest s u l) (blank c) _ k _ e r (λ b h. (h.0, h.1, blank_end c h.0 u h.1 b h.2, h.3))
    (λ b n. test _ (λ s. Rest s u l) (eqb c 69) _ k _ n r
    (λ t h. let g = h.2 in
    (Some (minutes (with_sign g.0 g.1)), g.3, (u, at_once c 69 u t, (h.0, h.1, (g.2, as_integer g.0 g.1 h.0 g.2 g.4, g.5))), g.6))
    (λ b n. test _ (λ s. Rest s u l) (eqb c 73) _ k _ n r
    (λ t h. (None, h.0, subst (λ y. Blanks (c ∷ u) (73 ∷ y)) h.1 (at_once c 73 u t), h.2))
    (λ b n. no_step _ k n)))

from_I : (j : State) (c : ℕ) (k : State) (u : List ℕ) (l : Listing) → step (after_I j) c ≡ Some k → Rest k u l → Rest (after_I j) (c ∷ u) l
from_I j c k u l e r =
    test _ (λ s. Rest s u l) (eqb c 110) _ k _ e r (λ t h. (h.0, (let i = eqb-true c 110 t in let g = h.1 in cc), h.2)) (λ b n. no_step _ k n)

from_In : (j : State) (c : ℕ) (k : State) (u : List ℕ) (l : Listing) → step (after_In j) c ≡ Some k → Rest k u l → Rest (after_In j) (c ∷ u) l
from_In j c k u l e r =
    test _ (λ s. Rest s u l) (eqb c 102) _ k _ e r (λ t h. (u, (let i = eqb-true c 102 t in cc), h)) (λ b n. no_step _ k n)

-- a window behind its first bracket, and the others
one_window : (ws : List (Window Minutes)) (j : List (Window Minutes) → State) (u : List ℕ) (l : Listing) → Rest (in_window ws j) u l
    → (w : Window Minutes) × (v : List ℕ) × (End free w.low ⨾ One free Comma ⨾ End free w.high ⨾ One free Close) u v
    × Rest (windows_more (ws ++ (w ∷ [])) j) v l
one_window ws j u l (low, v1, e1, (v2, b2, (high, v3, e3, (v4, b4, r)))) =
    (record { low = low; high = high }, v4, (v1, e1, (v2, b2, (v3, e3, b4))), r)

from_windows_start : (j : List (Window Minutes) → State) (c : ℕ) (k : State) (u : List ℕ) (l : Listing) → step (windows_start j) c ≡ Some k → Rest k u l → Rest (windows_start j) (c ∷ u) l
from_windows_start j c k u l e r =
    test _ (λ s. Rest s u l) (blank c) _ k _ e r (λ b h. gap b h.0 h.1 h.2 h.3 h.4 h.5)
    (λ b n. test _ (λ s. Rest s u l) (eqb c 93) _ k _ n r
    (λ t h. ([], c ∷ u, u, refl, at_once c 93 u t, h))
    (λ b n. test _ (λ s. Rest s u l) (eqb c 40) _ k _ n r
    (λ t h. let (w, v, i, g) = one_window [] j u l h in
    (w ∷ g.0, g.1, g.2, (v, (u, at_once c 40 u t, i), g.3), g.4, g.5))
    (λ b n. no_step _ k n)))
  where
    gap : blank c ≡ true → (ws : List (Window Minutes)) (v x : List ℕ) → Windows free ws u v → One free ListClose v x → Rest (j ws) x l → Rest (windows_start j) (c ∷ u) l
    gap b [] v x e o r = ([], c ∷ u, x, refl, more c b (subst (λ y. One free ListClose y x) (sym e) o), r)
    gap b (w ∷ ws) v x (y, h, t) o r = (w ∷ ws, v, x, (y, blank_window c w u y b h, t), o, r)

from_windows_more : (ws : List (Window Minutes)) (j : List (Window Minutes) → State) (c : ℕ) (k : State) (u : List ℕ) (l : Listing) → step (windows_more ws j) c ≡ Some k → Rest k u l → Rest (windows_more ws j) (c ∷ u) l
from_windows_more ws j c k u l e r =
    test _ (λ s. Rest s u l) (blank c) _ k _ e r (λ b h. gap b h.0 h.1 h.2 h.3 h.4 h.5)
    (λ b n. test _ (λ s. Rest s u l) (eqb c 93) _ k _ n r
    (λ t h. ([], c ∷ u, u, refl, at_once c 93 u t, subst (λ y. Rest (j y) u l) (sym (append-nil ws)) h))
    (λ b n. test _ (λ s. Rest s u l) (eqb c 59) _ k _ n r
    (λ t h. let (w, v, i, g) = one_window ws j h.0 l h.2 in
    (w ∷ g.0, g.1, g.2, (u, at_once c 59 u t, (v, (h.0, h.1, i), g.3)), g.4, subst (λ y. Rest (j y) g.2 l) (append_assoc ws (w ∷ []) g.0) g.5))
    (λ b n. no_step _ k n)))
  where
    gap : blank c ≡ true → (vs : List (Window Minutes)) (v x : List ℕ) → MoreWindows free vs u v → One free ListClose v x → Rest (j (ws ++ vs)) x l → Rest (windows_more ws j) (c ∷ u) l
    gap b [] v x e o r = ([], c ∷ u, x, refl, more c b (subst (λ y. One free ListClose y x) (sym e) o), r)
    gap b (w ∷ vs) v x (y, h, t) o r = (w ∷ vs, v, x, (y, more c b h, t), o, r)

-- a row, and what comes behind it
one_row : (j : Condition Minutes → State) (u : List ℕ) (l : Listing) → Rest (expects Open (in_row j)) u l
    → (c : Condition Minutes) × (v : List ℕ) × OneRow free c u v × Rest (j c) v l
one_row j u l (u1, b1, (g2, i, v2, w2, n2, o2, (g3, i', v3, w3, n3, o3, (u4, b4, (ws, v5, x5, w5, o5, (u6, b6, r)))))) = (
  record { from = i; to = i'; windows = ws },
  u6,
  (u1, b1, (v2, as_natural g2 i u1 v2 n2, (w2, o2, (v3, as_natural g3 i' w2 v3 n3, (w3, o3, (u4, b4, (v5, w5, (x5, o5, b6)))))))),
  r,
)

from_rows : (n m : ℕ) (cs : List (Condition Minutes)) (c : ℕ) (k : State) (u : List ℕ) (l : Listing) → step (rows_more n m cs) c ≡ Some k → Rest k u l → Rest (rows_more n m cs) (c ∷ u) l
from_rows n m cs c k u l e r =
    test _ (λ s. Rest s u l) (blank c) _ k _ e r (λ b h. gap b h.0 h.1 h.2 h.3 h.4 h.5 h.6)
    (λ b q. test _ (λ s. Rest s u l) (eqb c 93) _ k _ q r
    (λ t h. ([], c ∷ u, u, refl, at_once c 93 u t, h.0, ap (λ y. record { first = n; second = m; conditions = y }) (append-nil cs) ∙ h.1))
    (λ b q. test _ (λ s. Rest s u l) (eqb c 59) _ k _ q r
    (λ t h. let (x, v, i, g) = one_row (λ y. rows_more n m (cs ++ (y ∷ []))) u l h in
    (x ∷ g.0, g.1, g.2, (u, at_once c 59 u t, (v, i, g.3)), g.4, g.5, ap (λ y. record { first = n; second = m; conditions = y }) (sym (append_assoc cs (x ∷ []) g.0)) ∙ g.6))
    (λ b n. no_step _ k n)))
  where
    gap : blank c ≡ true → (ds : List (Condition Minutes)) (v x : List ℕ) → AllRows free ds u v → One free ListClose v x → Blanks x [] → record { first = n; second = m; conditions = cs ++ ds } ≡ l → Rest (rows_more n m cs) (c ∷ u) l
    gap b [] v x e o z r = ([], c ∷ u, x, refl, more c b (subst (λ y. One free ListClose y x) (sym e) o), z, r)
    gap b (w ∷ vs) v x (y, h, t) o z r = (w ∷ vs, v, x, (y, more c b h, t), o, z, r)

from_step : (s : State) (c : ℕ) (k : State) (u : List ℕ) (l : Listing) → step s c ≡ Some k → Rest k u l → Rest s (c ∷ u) l
from_step (finished x) = from_finished x
from_step (expects m j) = from_expects m j
from_step (number sign j) = from_number sign j
from_step (after_dash j) = from_dash j
from_step (in_digits sign left negative n j) = from_digits sign left negative n j
from_step (at_end j) = from_end j
from_step (after_I j) = from_I j
from_step (after_In j) = from_In j
from_step (windows_start j) = from_windows_start j
from_step (windows_more ws j) = from_windows_more ws j
from_step (rows_more n m cs) = from_rows n m cs

-- ---- the end, and the whole text
no_reading : (P : Type 0) (l : Listing) → stuck 0 ≡ reads l → P
no_reading P l e = let z : ◌≡◌ {A = ℕ} 0 1 = cc in absurd (omega arith)

from_nothing : (s : State) (l : Listing) → at_the_end 0 s ≡ reads l → Rest s [] l
from_nothing (finished x) l e = (none, (let h : x ≡ l = cc in h))
from_nothing (expects m k) l e = no_reading _ l e
from_nothing (number sign k) l e = no_reading _ l e
from_nothing (after_dash k) l e = no_reading _ l e
from_nothing (in_digits sign left negative n k) l e = no_reading _ l e
from_nothing (at_end k) l e = no_reading _ l e
from_nothing (after_I k) l e = no_reading _ l e
from_nothing (after_In k) l e = no_reading _ l e
from_nothing (windows_start k) l e = no_reading _ l e
from_nothing (windows_more ws k) l e = no_reading _ l e
from_nothing (rows_more n m cs) l e = no_reading _ l e

pub rest_of : (t : List ℕ) (s : State) (l : Listing) → Accepts s t l → Rest s t l
rest_of [] s l a = from_nothing s l (a.runs 0)
rest_of (c ∷ cs) s l a = go (step s c) refl (λ k. rest_of cs k l)
  where
    go : (o : Option State) → step s c ≡ o → ((k : State) → Accepts k cs l → Rest k cs l) → Rest s (c ∷ cs) l
    go None e on = absurd (never e a)
    go (Some k) e on = from_step s c k cs l e (on k (back e a))

whole : (t : List ℕ) (l : Listing) → Rest start t l → Says t l
whole t l (u1, b1, (u2, b2, (g3, n, v3, w3, n3, o3, (g4, m, v4, w4, n4, o4, (u5, b5, (u6, b6, (u7, b7, (ds, v8, x8, r8, o8, z8, is)))))))) =
    subst (Says t) is
    (u1, b1, (u7, (u2, b2, (v3, as_natural g3 n u2 v3 n3, (w3, o3, (v4, as_natural g4 m w3 v4 n4, (w4, o4, (u5, b5, (u6, b6, b7))))))), (v8, r8, (x8, o8, z8))))

pub read_written : (t : List ℕ) (l : Listing) → Accepts start t l → Says t l
read_written t l a = whole t l (rest_of t start l a)
