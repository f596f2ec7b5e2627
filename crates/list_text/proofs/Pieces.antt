-- Bytes that pass a test, one after another, and what lies between two places. Assumes nothing.
use Rattle.std.proofs.Common.{◌≡◌, ℕ, suc, ◌+◌, ◌-◌, ◌<◌, ◌≤◌, Bool, true, false, cond, List, [], ◌∷◌, ◌++◌, length, get_or, take, drop, sym, refl, ap, ◌∙◌, subst, ⊎_elim, arith, length-append, length-drop}
use Rattle.std.proofs.lemmas.List.{drop_more, drop_all, take_at, take_all, drop-drop, get_or-drop}
use Rattle.std.proofs.lemmas.Bool.{cases_lt}
use Rattle.list_text.specs.Grammar.{Over, none, more, AllOf}
use Rattle.list_text.specs.Lexing.{Passed, Unlike, Piece}
use Rattle.std.specs.List.{prefix_len}
use Rattle.std.proofs.lemmas.List.Sums.{prefix_len-le-length, prefix_len_stops}

-- ---- as many bytes as pass the test
over_front : (P : ℕ → Bool) (u : List ℕ) → Over P u (drop (prefix_len P u) u)
over_front P [] = none
over_front P (c ∷ u) = go (P c) refl (over_front P u)
  where
    go : (b : Bool) → P c ≡ b → Over P u (drop (prefix_len P u) u) → Over P (c ∷ u) (drop (cond b (1 + prefix_len P u) 0) (c ∷ u))
    go true e h = more c e (let i : suc (prefix_len P u) ≡ 1 + prefix_len P u = omega arith in subst (λ n. Over P u (drop n (c ∷ u))) i h)
    go false e h = none

-- n bytes of `&t[p..]` pass, and no more
pub passed : (P : ℕ → Bool) (t : List ℕ) (p n : ℕ) → p ≤ length t → n ≡ prefix_len P (take (length t - p) (drop p t)) → Passed P t p (p + n)
passed P t p n le e =
    let u = drop p t in
    let l = length-drop p t in
    let i : n ≡ prefix_len P u = e ∙ ap (prefix_len P) (take_all (length t - p) u (omega arith)) in
    let few = prefix_len-le-length P u in
    record {
      from = omega arith;
      within = omega arith;
      all = subst (Over P u) (ap (λ m. drop m u) (sym i) ∙ drop-drop n p t) (over_front P u);
      stops = λ lt. ap P (sym (get_or-drop p t n 0)) ∙ ap (λ m. P (get_or u m 0)) i ∙ prefix_len_stops P u 0 (omega arith);
    }

-- what lies between, as a list of its own
between : (P : ℕ → Bool) (u v : List ℕ) → Over P u v → (ds : List ℕ) × (u ≡ ds ++ v) × AllOf P ds
between P u v none = ([], refl, tt)
between P u v (more {u = w} c e o) =
    let (ds, is, all) = between P w v o in (c ∷ ds, ap (λ y. c ∷ y) is, (e, all))

unlike : (P : ℕ → Bool) (t : List ℕ) (q : ℕ) → (q < length t → P (get_or t q 0) ≡ false) → Unlike P (drop q t)
unlike P t q h =
    ⊎_elim (λ lt. subst (Unlike P) (sym (drop_more t q 0 lt)) (h lt)) (λ le. subst (Unlike P) (sym (drop_all q t le)) tt) (cases_lt q (length t))

pub piece : (First : ℕ → Type 0) (P : ℕ → Bool) (t : List ℕ) (p q : ℕ) → p < length t → First (get_or t p 0) → Passed P t (p + 1) q
    → Piece First P t (take (q - p) (drop p t)) p q
piece First P t p q lt f h =
    let (ds, is, all) = between P (drop (p + 1) t) (drop q t) h.all in
    let whole : drop p t ≡ (get_or t p 0 ∷ ds) ++ drop q t = drop_more t p 0 lt ∙ ap (λ y. get_or t p 0 ∷ y) is in
    let sizes : length (drop (p + 1) t) ≡ length ds + length (drop q t) = ap length is ∙ length-append ds (drop q t) in
    let a : length (drop (p + 1) t) ≡ length t - (p + 1) = length-drop (p + 1) t in
    let b : length (drop q t) ≡ length t - q = length-drop q t in
    let up : p + 1 ≤ q = h.from in
    let inside : q ≤ length t = h.within in
    let size : suc (length ds) ≡ q - p = omega arith in
    let w : take (q - p) (drop p t) ≡ get_or t p 0 ∷ ds = ap (take (q - p)) whole ∙ take_at (get_or t p 0 ∷ ds) (drop q t) (q - p) size in
    record {
      first = get_or t p 0;
      others = ds;
      is = w;
      begins = f;
      pass = all;
      whole = whole ∙ ap (λ y. y ++ drop q t) (sym w);
      stops = unlike P t q h.stops;
      within = h.within;
      long = (let l : length (take (q - p) (drop p t)) ≡ suc (length ds) = ap length w in omega arith);
    }

-- a piece of one byte
pub one_byte : (t : List ℕ) (p : ℕ) → p < length t → take ((p + 1) - p) (drop p t) ≡ get_or t p 0 ∷ []
one_byte t p lt = let one : (p + 1) - p ≡ 1 = omega arith in ap (λ n. take n (drop p t)) one ∙ ap (take 1) (drop_more t p 0 lt)
