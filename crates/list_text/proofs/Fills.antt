-- Filling rows one by one with the conditions of a text. Assumes nothing.
use Rattle.std.proofs.Common.{◌≡◌, ℕ, zero, suc, slice_get, option_map, add-zero, ◌+◌, ◌-◌, ◌<◌, ◌≤◌, ◌⊎◌, List, [], ◌∷◌, ◌++◌, map, length, get_or, take, drop, set, Some, None, Option, sym, refl, ap, ◌∙◌, subst, inl, inr, ⊎_elim, append_assoc, arith, length-append, length-drop, length-take}
use Rattle.std.proofs.lemmas.List.{length-map, append_cancel_left, drop_all, drop_more, set_at, take_all, take_more, drop-map, take-map}
use Rattle.std.proofs.lemmas.Bool.{cases_lt}
use Rattle.std.proofs.lemmas.Iterator.{YieldsList}
use Rattle.std.proofs.lemmas.Iterator.Adapters.{YieldsList-from_skip, option_map_id}
use Rattle.std.proofs.lemmas.Iterator.Consumers.{YieldsList-at, nth_from_yields_List, count_from_yields_List}
use Rattle.std.specs.Iterator.{AlwaysYields, SkipsThenYields, Drains}
use Rattle.std.specs.Option.{unwrap_or}
use Rattle.std.specs.Iterator.Adapters.{skip_steps, skip_source, skip_count}
use Rattle.std.specs.declared.iter.Skip.{Skip}
use Rattle.spans.specs.declared.minutes.Minutes.{Minutes}
use Rattle.networks.specs.declared.rows.Row.{Row}
use Rattle.networks.specs.Network.{Condition, window_of}
use Rattle.networks.specs.Rows.{row_of}
use Rattle.list_text.specs.declared.reader.Reader.{Reader}
use Rattle.list_text.specs.declared.following.Following.{Following}
use Rattle.list_text.specs.Grammar.{Listing}
use Rattle.list_text.specs.Filling.{condition_row, Filled}
use Rattle.list_text.specs.Machine.{rows_more, run, reads}
use Rattle.list_text.specs.Reading.{ahead, Shows, conditions_from, Looked, Readable, NextRow}
use Rattle.list_text.specs.Scanning.{GivesRow}
use Rattle.list_text.proofs.Texts.{front_read, all_front, no_fault}

-- the row that shows a condition from a window on
abbrev pub picked_row : ℕ → Condition Minutes → Row Minutes
picked_row p c = record {
  from = c.from;
  to = c.to;
  count = length c.windows;
  first = window_of c p;
  second = window_of c (p + 1);
  third = window_of c (p + 2);
  fourth = window_of c (p + 3);
}

picked : (p : ℕ) (c : Condition Minutes) (r : Row Minutes) → Shows c p r → r ≡ picked_row p c
picked p c r s =
    let a : r.first ≡ window_of c p = s.windows 0 (omega arith) ∙ ap (window_of c) (add-zero p) in
    let b : r.second ≡ window_of c (p + 1) = s.windows 1 (omega arith) in
    let d : r.third ≡ window_of c (p + 2) = s.windows 2 (omega arith) in
    let e : r.fourth ≡ window_of c (p + 3) = s.windows 3 (omega arith) in
    let f = s.from in
    let g = s.to in
    let h = s.count in
    let same : record { from = r.from; to = r.to; count = r.count; first = r.first; second = r.second; third = r.third; fourth = r.fourth } ≡ picked_row p c = cc in
    same

-- ---- the rows that follow are the rows of the conditions
front_same : (cs ds es : List (Condition Minutes)) (c d : Condition Minutes) → cs ++ (d ∷ ds) ≡ (cs ++ (c ∷ [])) ++ es → c ≡ d
front_same cs ds es c d e =
    let h : d ∷ ds ≡ c ∷ es = append_cancel_left cs (d ∷ ds) (c ∷ es) (e ∙ append_assoc cs (c ∷ []) es) in cc

-- s gives the rows of these conditions
abbrev pub GivesRows : Following → List (Condition Minutes) → Type 0
GivesRows s cs = YieldsList GivesRow (λ x. x) s (map (picked_row s.pick) cs)

follows : (s : Following) (cs ds : List (Condition Minutes)) (l : Listing) → run s.reader.at (rows_more 0 0 cs) (ahead s.reader) ≡ reads l → l.conditions ≡ cs ++ ds
    → AlwaysYields GivesRow (λ x. x) s (map (picked_row s.pick) ds)
follows s cs [] l e is = λ x t given.
    let (c, shows, on, leads) = given.next in
    let front = front_read t.reader (cs ++ (c ∷ [])) l (sym (leads 0 0 cs).leads ∙ e) in
    let n : length (cs ++ []) ≡ length ((cs ++ (c ∷ [])) ++ front.0) = ap length (sym is ∙ front.1) in
    let a = length-append cs [] in
    let b = length-append (cs ++ (c ∷ [])) front.0 in
    let d = length-append cs (c ∷ []) in
    absurd (omega arith)
follows s cs (d ∷ ds) l e is = (
  λ t none. absurd (more none),
  λ x t given.
      let (c, shows, on, leads) = given.next in
      let e' : run t.reader.at (rows_more 0 0 (cs ++ (c ∷ []))) (ahead t.reader) ≡ reads l = sym (leads 0 0 cs).leads ∙ e in
      let front = front_read t.reader (cs ++ (c ∷ [])) l e' in
      let same : c ≡ d = front_same cs ds front.0 c d (sym is ∙ front.1) in
      let rest = follows t (cs ++ (c ∷ [])) ds l e' (is ∙ ap (λ c. cs ++ (c ∷ ds)) (sym same) ∙ sym (append_assoc cs (c ∷ []) ds)) in
      (picked s.pick c x shows ∙ ap (picked_row s.pick) same, subst (λ p. AlwaysYields GivesRow (λ x. x) t (map (picked_row p) ds)) given.pick rest),
)
  where
    more : NextRow s.reader s.pick None → ⊥
    more (inl (u, h)) =
        let n : length (cs ++ (d ∷ ds)) ≡ length cs = ap length (sym is ∙ all_front s.reader cs l e u (h 0 0 cs)) in
        let a = length-append cs (d ∷ ds) in
        omega arith
    more (inr (p, h)) = no_fault s.reader cs l e p (h 0 0 cs)

pub gives_rows : (s : Following) → Readable s.reader.text.now s.reader.at → GivesRows s (conditions_from s.reader.text.now s.reader.at)
gives_rows s i = subst (GivesRows s) (sym i.means_it) (record { runs = follows s [] i.listing.conditions i.listing i.reads_it refl })

-- ---- one of them
shown : (cs : List (Condition Minutes)) (k w : ℕ) (o : Option (Row Minutes)) → o ≡ slice_get (map (picked_row w) cs) k → Looked cs k w (unwrap_or o (row_of 0 0 []))
shown [] k w o e = subst (λ o. Looked [] k w (unwrap_or o (row_of 0 0 []))) (sym e) (record { from = refl; to = refl; count = refl; window = refl })
shown (c ∷ cs) zero w o e = subst (λ o. Looked (c ∷ cs) 0 w (unwrap_or o (row_of 0 0 []))) (sym e) (record { from = refl; to = refl; count = refl; window = refl })
shown (c ∷ cs) (suc k) w o e = let h = shown cs k w o e in record { from = h.from; to = h.to; count = h.count; window = h.window }

pub looked : (s u : Following) (k : ℕ) (o : Option (Row Minutes)) (d : Row Minutes) (cs : List (Condition Minutes)) → GivesRows s cs
    → SkipsThenYields GivesRow s k o u → d ≡ row_of 0 0 [] → Looked cs k s.pick (unwrap_or o d)
looked s u k o d cs h ran none =
    let e : option_map (λ x. x) o ≡ slice_get (map (picked_row s.pick) cs) k = nth_from_yields_List o u k ran h in
    subst (λ d. Looked cs k s.pick (unwrap_or o d)) (sym none) (shown cs k s.pick o (sym (option_map_id o) ∙ e))

-- ---- row by row
-- the rows that are to be copied
abbrev pub wanted : List ℕ → ℕ → ℕ → List (Row Minutes)
wanted t p first = drop first (map (picked_row 0) (conditions_from t p))

pub record FillSoFar (rows : List (Row Minutes)) (filled : ℕ) (old new : List (Row Minutes)) (s : Skip Following) : Type 0 where
  pub enough : filled ≤ length rows
  pub is : new ≡ take filled rows ++ drop filled old
  pub left : AlwaysYields (skip_steps GivesRow) (λ x. x) s (drop filled rows)

pub fill_none : (r : Reader) (first : ℕ) (old : List (Row Minutes)) (s : Skip Following) → skip_source s ≡ record { reader = r; pick = 0 } → skip_count s ≡ first
    → Readable r.text.now r.at → FillSoFar (wanted r.text.now r.at first) 0 old old s
fill_none r first old s source count i =
    let road : YieldsList (skip_steps GivesRow) (λ x. x) s (wanted r.text.now r.at first) =
    YieldsList-from_skip {steps = GivesRow} {v = λ x. x} first (YieldsList-at source (gives_rows (record { reader = r; pick = 0 }) i)) count in
    record { enough = omega arith; is = refl; left = road.runs }

module _ (rows : List (Row Minutes)) (filled : ℕ) (old new : List (Row Minutes)) (s t : Skip Following) (f : FillSoFar rows filled old new s) where
  pub fill_more : (row : Row Minutes) → skip_steps GivesRow s (Some row) t → filled < length old → FillSoFar rows (filled + 1) old (set new filled row) t
  fill_more row step room = elim (cases_lt filled (length rows)) [
    | inl lt ↦
        let h = subst (AlwaysYields (skip_steps GivesRow) (λ x. x) s) (drop_more rows filled row lt) f.left in
        let next = h.1 row t step in
        let n = length-take filled rows in
        let few : length (take filled rows) ≡ filled = omega arith in
        record {
          enough = omega arith;
          is = ap (λ xs. set xs filled row) (f.is ∙ ap (λ ys. take filled rows ++ ys) (drop_more old filled row room))
              ∙ set_at (take filled rows) (get_or old filled row) (drop (filled + 1) old) row filled few
              ∙ sym (append_assoc (take filled rows) (row ∷ []) (drop (filled + 1) old))
              ∙ ap (λ x. (take filled rows ++ (x ∷ [])) ++ drop (filled + 1) old) next.0
              ∙ ap (λ xs. xs ++ drop (filled + 1) old) (sym (take_more rows filled row lt));
          left = next.1;
        }
    | inr ge ↦ absurd (subst (AlwaysYields (skip_steps GivesRow) (λ x. x) s) (drop_all filled rows ge) f.left row t step)
  ]

  pub none_left : skip_steps GivesRow s None t → length rows ≤ filled
  none_left step = elim (cases_lt filled (length rows)) [
    | inl lt ↦ absurd ((subst (AlwaysYields (skip_steps GivesRow) (λ x. x) s) (drop_more rows filled (get_or rows filled (row_of 0 0 [])) lt) f.left).0 t step)
    | inr ge ↦ ge
  ]

-- no room is left, or no row
pub filled_all : (t : List ℕ) (p first filled : ℕ) (old new : List (Row Minutes)) (s : Skip Following) → FillSoFar (wanted t p first) filled old new s
    → filled ≤ length old → (filled ≡ length old) ⊎ (length (wanted t p first) ≤ filled) → Filled (conditions_from t p) first old new filled
filled_all t p first filled old new s f fits end =
    let cs = conditions_from t p in
    let w = wanted t p first in
    let n : length w ≡ length cs - first = length-drop first (map (picked_row 0) cs) ∙ ap (λ n. n - first) (length-map cs (picked_row 0)) in
    let enough = f.enough in
    let same : take filled w ≡ take (length old) w = ⊎_elim (λ e. ap (λ n. take n w) e) (λ le. take_all filled w le ∙ sym (take_all (length old) w (omega arith))) end in
    let mapped : take (length old) w ≡ map condition_row (take (length old) (drop first cs)) =
    ap (take (length old)) (drop-map (picked_row 0) first cs) ∙ take-map (picked_row 0) (length old) (drop first cs) in
    record {
      count = ⊎_elim (λ e. omega arith) (λ le. omega arith) end;
      rows = f.is ∙ ap (λ xs. xs ++ drop filled old) (same ∙ mapped);
    }

-- all of them
pub counted : (s : Following) (n : ℕ) (cs : List (Condition Minutes)) → GivesRows s cs → ((rows : List (Row Minutes)) × Drains GivesRow s rows × (n ≡ length rows)) → n ≡ length cs
counted s n cs h ran = count_from_yields_List s n ran h ∙ length-map cs (picked_row s.pick)
