-- What `write_dates` writes, as the grammar has it: decimal digits are the shortest numerals, headers and rows are made of them, and row follows row.
-- Assumes nothing.
use Rattle.std.proofs.Common.{◌≡◌, ℕ, zero, suc, ◌+◌, ◌-◌, ◌^◌, ◌<◌, ◌≤◌, Bool, true, false, leb, List, [], ◌∷◌, ◌++◌, length, get_or, drop, ℤ, pos, negsuc, nat_abs, Some, codes, decimal, sym, refl, ap, ◌∙◌, subst, append_assoc, zero-add, arith, lit<, length-drop, rules}
use Rattle.std.specs.Fmt.{signed_decimal}
use Rattle.std.proofs.lemmas.List.{drop_more, drop_all, get_or-drop}
use Rattle.std.specs.List.{AllByRecursion, list_all, enumerate_from}
use Rattle.std.proofs.lemmas.List.FromFn.{length-enumerate_from, get_or-enumerate_from}
use Rattle.std.proofs.ByRecursion.{All-get_or}
use Rattle.std.proofs.lemmas.Str.Parse.{IsNumeralModel, numerals_by_fold, digits_value_short}
use Rattle.std.proofs.lemmas.Fmt.{decimal_digit, decimal_nonempty, length-decimal-le, digits_decimal, digits_value-decimal}
use Rattle.spans.specs.declared.minutes.Minutes.{Minutes}
use Rattle.list_text.specs.declared.token.Mark.TheVariants.{ListOpen, Semicolon}
use Rattle.list_text.specs.Grammar.{digit, AllOf, written, Shortest, SignedShortest, compact, One, End, Header, OneRow, AllRows, Text, ◌⨾◌}
use Rattle.std.proofs.lemmas.Bool.{cond-true, eq-eqb, both_ways, and_parts, and_from, leb-true, le-leb, lt-leb}
use Rattle.list_text.specs.Dates.{dated, dated_from, dates_listing, DatesText, TellsWritable, Writable, Writes}
use Rattle.list_text.proofs.Styles.{compact_says}

-- ---- numbers
-- the digits and their value are those of the library
own : IsNumeralModel (AllOf digit) (written 0)
own = numerals_by_fold (AllOf digit) (search rules) written (search rules)

fits : (n : ℕ) → n < 10 ^ 12 → n < 2 ^ 64
fits n lt = omega (arith, lt)

-- the digits of a number that has at most 12 are its shortest numeral
shortest : (n : ℕ) → n < 10 ^ 12 → Shortest n (decimal n)
shortest n lt =
    let f = fits n lt in
    record {
      numeral = record {
        some = decimal_nonempty n f;
        few = length-decimal-le 12 n (lit< {m = 0} {n = 12} tt) lt f;
        digits = digits_decimal own n f;
        writes = digits_value-decimal own n f;
      };
      shortest = λ es h.
          length-decimal-le (length es) n h.some (subst (λ m. m < 10 ^ length es) h.writes (digits_value_short own es (length es) h.digits (omega arith))) f;
    }

shortest_zero : Shortest 0 (48 ∷ [])
shortest_zero = subst (Shortest 0) (decimal_digit 0 (lit< {m = 0} {n = 10} tt)) (shortest 0 (lit< {m = 0} {n = 10 ^ 12} tt))

-- and with a minus where it is below zero, that of a whole number
shortest_signed : (z : ℤ) → nat_abs z < 10 ^ 12 → SignedShortest z (signed_decimal z)
shortest_signed (pos n) lt = (false, n, decimal n, shortest n lt, refl, refl, λ e. absurd (search rules))
shortest_signed (negsuc n) lt = (true, suc n, decimal (suc n), shortest (suc n) lt, refl, refl, λ e. omega arith)

-- a number that has such a numeral is small
shortest_small : (n : ℕ) (ds : List ℕ) → Shortest n ds → n < 10 ^ 12
shortest_small n ds h = subst (λ m. m < 10 ^ 12) h.numeral.writes (digits_value_short own ds 12 h.numeral.digits h.numeral.few)

signed_small : (z : ℤ) (bs : List ℕ) → SignedShortest z bs → nat_abs z < 10 ^ 12
signed_small z bs (false, n, ds, s, e, b, only) = subst (λ z. nat_abs z < 10 ^ 12) e (shortest_small n ds s)
signed_small z bs (true, zero, ds, s, e, b, only) = subst (λ z. nat_abs z < 10 ^ 12) e (shortest_small 0 ds s)
signed_small z bs (true, suc n, ds, s, e, b, only) = subst (λ z. nat_abs z < 10 ^ 12) e (shortest_small (suc n) ds s)

-- dates that have a text are writable
rows_small : (p : ℕ) (ds : List Minutes) (u v : List ℕ) → AllRows compact (dated_from p ds) u v → AllByRecursion (λ d. nat_abs d.count < 10 ^ 12) ds
rows_small p [] u v r = tt
rows_small p (d ∷ ds) u v r = (signed_small d.count _ r.2.1.2.2.2.2.2.2.1.1.2.1.2.2.1.1, rows_small (p + 1) ds _ v r.2.2)

pub text_writable : (ds : List Minutes) (t : List ℕ) → Text compact (dates_listing ds) t [] → Writable ds
text_writable ds t x = record { few = shortest_small (length ds) _ x.2.1.2.1.1; small = rows_small 1 (drop 1 ds) _ _ x.2.2.1 }

-- each but the first
pub small_at : (ds : List Minutes) (p : ℕ) (e : Minutes) → 1 ≤ p → p < length ds → Writable ds → nat_abs (get_or ds p e).count < 10 ^ 12
small_at ds zero e one lt ok = absurd (omega arith)
small_at ds (suc p) e one lt ok =
    let l = length-drop 1 ds in
    let at : get_or (drop 1 ds) p e ≡ get_or ds (suc p) e = get_or-drop 1 ds p e ∙ ap (λ k. get_or ds k e) (omega arith) in
    subst (λ d. nat_abs d.count < 10 ^ 12) at (All-get_or (λ d. nat_abs d.count < 10 ^ 12) (drop 1 ds) p e (omega arith) ok.small)

-- ---- what the test of the dates tells
abbrev pub IsSmall : Minutes → Bool
IsSmall d = leb (nat_abs d.count) 999999999999

small_from : (ds : List Minutes) → list_all IsSmall ds ≡ true → AllByRecursion (λ d. nat_abs d.count < 10 ^ 12) ds
small_from [] e = tt
small_from (d ∷ ds) e = let h = and_parts _ _ e in (let le = leb-true (nat_abs d.count) 999999999999 h.0 in omega arith, small_from ds h.1)

from_small : (ds : List Minutes) → AllByRecursion (λ d. nat_abs d.count < 10 ^ 12) ds → list_all IsSmall ds ≡ true
from_small [] a = refl
from_small (d ∷ ds) a = and_from _ _ (le-leb (nat_abs d.count) 999999999999 (let lt : nat_abs d.count < 10 ^ 12 = a.0 in omega arith)) (from_small ds a.1)

pub tells_small : (ds : List Minutes) (b : Bool) → length ds < 10 ^ 12 → b ≡ list_all IsSmall (drop 1 ds) → TellsWritable ds b
tells_small ds true few e = record { few = few; small = small_from (drop 1 ds) (sym e) }
tells_small ds false few e = λ t x. both_ways _ (sym e) (from_small (drop 1 ds) (text_writable ds t x).small)

pub tells_many : (ds : List Minutes) → 999999999999 < length ds → TellsWritable ds (leb (length ds) 999999999999)
tells_many ds many = subst (TellsWritable ds) (sym (lt-leb (length ds) 999999999999 many)) (λ t x. let few = (text_writable ds t x).few in omega arith)

-- ---- the bytes of a header and of a row
abbrev pub header_bytes : ℕ → List ℕ
header_bytes n = codes "[(" ++ (decimal n ++ (codes "," ++ (decimal n ++ codes ",[])")))

abbrev pub row_bytes : ℕ → ℤ → List ℕ
row_bytes p z = codes ";(0," ++ (decimal p ++ (codes ",[(E(" ++ (signed_decimal z ++ (codes "),E(" ++ (signed_decimal z ++ codes "))])")))))

pub header_writes : (n : ℕ) → n < 10 ^ 12 → Writes (One compact ListOpen ⨾ Header compact n n) (header_bytes n)
header_writes n lt v = (
  _,
  refl,
  (
    _,
    refl,
    (
      _,
      (decimal n, shortest n lt, append_assoc (decimal n) _ v),
      (
        _,
        refl,
        (_, (decimal n, shortest n lt, append_assoc (decimal n) _ v), (_, refl, (_, refl, (_, refl, refl)))),
      ),
    ),
  ),
)

-- an end, with bytes behind it
end_writes : (d : Minutes) → nat_abs d.count < 10 ^ 12 → (w v : List ℕ) → End compact (Some d) (69 ∷ 40 ∷ ((signed_decimal d.count ++ (41 ∷ w)) ++ v)) (w ++ v)
end_writes d lt w v = (_, refl, (_, refl, (_, (signed_decimal d.count, shortest_signed d.count lt, append_assoc (signed_decimal d.count) (41 ∷ w) v), refl)))

pub row_writes : (p : ℕ) (d : Minutes) → p < 10 ^ 12 → nat_abs d.count < 10 ^ 12 → Writes (One compact Semicolon ⨾ OneRow compact (dated p d)) (row_bytes p d.count)
row_writes p d few lt v = (
  _,
  refl,
  (
    _,
    refl,
    (
      _,
      (48 ∷ [], shortest_zero, refl),
      (
        _,
        refl,
        (
          _,
          (decimal p, shortest p few, append_assoc (decimal p) _ v),
          (
            _,
            refl,
            (
              _,
              refl,
              (_, (_, (_, refl, (_, end_writes d lt _ v, (_, refl, (_, end_writes d lt (41 ∷ 93 ∷ 41 ∷ []) v, refl)))), refl), (_, refl, refl)),
            ),
          ),
        ),
      ),
    ),
  ),
)

-- ---- the text, row by row
-- behind the bytes t only the rows from point p on are missing, and the last bracket
pub record SoFar (ds : List Minutes) (p : ℕ) (t : List ℕ) : Type 0 where
  pub past : 1 ≤ p
  pub goes_on : Writable ds → (w : List ℕ) → AllRows compact (dated_from p (drop p ds)) w (93 ∷ []) → Text compact (dates_listing ds) (t ++ w) []

pub so_far_header : (ds : List Minutes) (t : List ℕ)
    → (length ds < 10 ^ 12 → Writes (One compact ListOpen ⨾ Header compact (length ds) (length ds)) t) → SoFar ds 1 t
so_far_header ds t h = record {
  past = omega arith;
  goes_on = λ ok w rows. let x = h ok.few w in (x.0, x.1, (w, x.2, (93 ∷ [], rows, ([], refl, refl))));
}

pub so_far_row : (ds : List Minutes) (p : ℕ) (t r : List ℕ) (e : Minutes) → p < length ds
    → (p < 10 ^ 12 → nat_abs (get_or ds p e).count < 10 ^ 12 → Writes (One compact Semicolon ⨾ OneRow compact (dated p (get_or ds p e))) r)
    → SoFar ds p t → SoFar ds (p + 1) (t ++ r)
so_far_row ds p t r e lt h s = record {
  past = omega arith;
  goes_on = λ ok w rows.
      let few : length ds < 10 ^ 12 = ok.few in
      let x = h (omega arith) (small_at ds p e s.past lt ok) w in
      let here : AllRows compact (dated_from p (get_or ds p e ∷ drop (p + 1) ds)) (r ++ w) (93 ∷ []) = (x.0, x.1, (w, x.2, rows)) in
      rw append_assoc (s.goes_on ok (r ++ w) (subst (λ (l : List Minutes). AllRows compact (dated_from p l) (r ++ w) (93 ∷ [])) (sym (drop_more ds p e lt)) here));
}

-- ---- the dates with their places, from place 1 on
abbrev placed : List Minutes → List (ℕ × Minutes)
placed ds = drop 1 (enumerate_from 0 ds)

length-placed : (ds : List Minutes) → length (placed ds) ≡ length ds - 1
length-placed ds = length-drop 1 (enumerate_from 0 ds) ∙ ap (λ n. n - 1) (length-enumerate_from 0 ds)

-- the row of the next of them
pub so_far_next : (ds : List Minutes) (k p : ℕ) (d : Minutes) (t r : List ℕ) → (k < length (placed ds)) × ((p, d) ≡ get_or (placed ds) k (p, d))
    → (p < 10 ^ 12 → nat_abs d.count < 10 ^ 12 → Writes (One compact Semicolon ⨾ OneRow compact (dated p d)) r) → SoFar ds (1 + k) t → SoFar ds ((1 + k) + 1) (t ++ r)
so_far_next ds k p d t r (in_it, is) h s =
    let l = length-placed ds in
    let lt : 1 + k < length ds = omega arith in
    let e : (p, d) ≡ (0 + (1 + k), get_or ds (1 + k) d) = is ∙ get_or-drop 1 (enumerate_from 0 ds) k (p, d) ∙ get_or-enumerate_from 0 ds (1 + k) (p, d) lt in
    let point : p ≡ 1 + k = ap (λ v. v.0) e ∙ zero-add (1 + k) in
    let Row : ℕ → Minutes → Type 0 = λ q x. q < 10 ^ 12 → nat_abs x.count < 10 ^ 12 → Writes (One compact Semicolon ⨾ OneRow compact (dated q x)) r in
    so_far_row ds (1 + k) t r d lt (subst (Row (1 + k)) (ap (λ v. v.1) e) (subst (λ q. Row q d) point h)) s

pub placed_end : (ds : List Minutes) (k : ℕ) → k ≡ length (placed ds) → length ds ≤ 1 + k
placed_end ds k e = let l = length-placed ds in omega arith

dates_text : (ds : List Minutes) (t : List ℕ) → Text compact (dates_listing ds) t [] → DatesText ds t
dates_text ds t x = record {
  compactly = x;
  denotes = (
    dates_listing ds,
    compact_says (dates_listing ds) t x,
    ap (λ n. record { points = n; conditions = (dates_listing ds).conditions }) (cond-true _ (length ds) 0 (eq-eqb (length ds) (length ds) refl)),
  );
}

pub so_far_end : (ds : List Minutes) (p : ℕ) (t : List ℕ) → length ds ≤ p → SoFar ds p t → Writable ds → DatesText ds (t ++ (93 ∷ []))
so_far_end ds p t le s ok =
    dates_text ds _ (s.goes_on ok (93 ∷ []) (subst (λ (l : List Minutes). AllRows compact (dated_from p l) (93 ∷ []) (93 ∷ [])) (sym (drop_all p ds le)) refl))
