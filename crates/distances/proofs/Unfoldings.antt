-- Unfolding writes a way: one edge, or its first half and behind it its second. Assumes nothing.
use Rattle.std.proofs.Common.{◌≡◌, ℕ, suc, ◌+◌, ◌-◌, ◌<◌, ◌≤◌, List, [], ◌∷◌, ◌++◌, length, get_or, take, drop, set, sym, refl, ap, ◌∙◌, append_assoc, append-nil, arith, length-append, length-drop, drop-drop, take_at, drop_at}
use borrow.Rule.Slice.PartMut.{put_mid}
use Rattle.std.proofs.lemmas.List.{take_rest, drop_all, drop-set, drop_more, set_at}
use Rattle.distances.specs.declared.link.Link.TheVariants.{Direct, Over}
use Rattle.distances.specs.Table.{Links, rank}
use Rattle.distances.specs.Memory.{put_first}
use Rattle.distances.specs.Unfolding.{Unfolds, edge, halves, Unfoldable, Unfolded, CycleWritten}
use Rattle.distances.proofs.Ways.{a_way}

module _ {A : Type 0} where
  -- one member written to the front
  pub put_one : (old : List A) (x : A) → 0 < length old → set old 0 x ≡ put_first (x ∷ []) old
  put_one old x h = drop-set old 0 x h

  -- xs written to the front, and then ys to the front of what is behind them
  pub put_behind : (old links new xs ys : List A) (r : ℕ) → r ≡ length xs → links ≡ put_first xs old → new ≡ put_first ys (take (length links - r) (drop r links))
      → put_mid r (length links - r) links new ≡ put_first (xs ++ ys) old
  put_behind old links new xs ys r count first second =
      let front : take r links ≡ xs = ap (take r) first ∙ take_at xs (drop (length xs) old) r (sym count) in
      let rear : drop r links ≡ drop (length xs) old = ap (drop r) first ∙ drop_at xs (drop (length xs) old) r (sym count) in
      let part : new ≡ ys ++ drop (length ys) (drop (length xs) old) =
      second ∙ ap (λ (z : List A). put_first ys z) (take_rest links r ∙ rear) in
      let past : drop (length links - r) (drop r links) ≡ [] = drop_all (length links - r) (drop r links) (simp length-drop (omega arith)) in
      let count-both : length ys + length xs ≡ length (xs ++ ys) = omega (arith, length-append xs ys) in
      ap (λ (z : List A). z ++ (new ++ drop (length links - r) (drop r links))) front
      ∙ ap (λ (z : List A). xs ++ (new ++ z)) past
      ∙ ap (λ (z : List A). xs ++ z) (append-nil new ∙ part)
      ∙ sym (append_assoc xs ys (drop (length ys) (drop (length xs) old)))
      ∙ ap (λ (z : List A). (xs ++ ys) ++ z) (drop-drop (length ys) (length xs) old ∙ ap (λ (z : ℕ). drop z old) (let e : length xs + length ys ≡ length (xs ++ ys) = omega arith in e))

module _ (n : ℕ) (links : Links) (i j room : ℕ) (w : Unfoldable n links i j room) where
  -- ---- one edge
  pub edge_fits : (c : ℕ) → links i j ≡ Direct c → 0 < room
  edge_fits c e = omega (arith, w.fits (c ∷ []) (i ∷ []) (edge c e))

  pub unfolded_edge : (old : List ℕ) (c : ℕ) → links i j ≡ Direct c → length old ≡ room → Unfolded links i j old (set old 0 c) 1
  unfolded_edge old c e long = record {
    edges = c ∷ [];
    points = i ∷ [];
    way = edge c e;
    counted = refl;
    written = put_one old c (omega (arith, edge_fits c e));
  }

  -- ---- what fits whole fits in halves
  module _ (m : ℕ) (over : links i j ≡ Over m) where
    was : rank (links i j) ≡ suc m
    was = ap rank over

    pub first_falls : rank (links i m) < rank (links i j)
    first_falls = omega (arith, was, w.falls.first i j m over)

    pub second_falls : rank (links m j) < rank (links i j)
    second_falls = omega (arith, was, w.falls.second i j m over)

    pub first_half : Unfoldable n links i m room
    first_half = record {
      from_there = w.from_there;
      to_there = w.falls.inside i j m over;
      falls = w.falls;
      fits = λ cs ps x. (let (ds, qs, y) = a_way n links w.falls m j in omega (arith, w.fits (cs ++ ds) (ps ++ qs) (halves m over x y), length-append cs ds));
    }

    module _ (old half : List ℕ) (r : ℕ) (x : Unfolded links i m old half r) where
      pub second_half : (rest : ℕ) → rest ≡ room - r → Unfoldable n links m j rest
      second_half rest is = record {
        from_there = w.falls.inside i j m over;
        to_there = w.to_there;
        falls = w.falls;
        fits = λ ds qs y. omega (arith, w.fits (x.edges ++ ds) (x.points ++ qs) (halves m over x.way y), length-append x.edges ds, x.counted);
      }

      module _ (behind new : List ℕ) (s : ℕ) (y : Unfolded links m j behind new s) where
        pub whole_within : r + s ≤ room
        whole_within =
            omega (arith, w.fits (x.edges ++ y.edges) (x.points ++ y.points) (halves m over x.way y.way), length-append x.edges y.edges, x.counted, y.counted)

        pub unfolded_halves : behind ≡ take (length half - r) (drop r half) → Unfolded links i j old (put_mid r (length half - r) half new) (r + s)
        unfolded_halves is = record {
          edges = x.edges ++ y.edges;
          points = x.points ++ y.points;
          way = halves m over x.way y.way;
          counted = omega (arith, x.counted, y.counted, length-append x.edges y.edges);
          written = put_behind old half new x.edges y.edges r x.counted x.written (y.written ∙ ap (λ (l : List ℕ). put_first y.edges l) is);
        }

-- what is behind the first r members
pub behind_length : (xs : List ℕ) (r n : ℕ) → length xs ≡ n → length (take (length xs - r) (drop r xs)) ≡ n - r
behind_length xs r n e = omega (arith, ap length (take_rest xs r), length-drop r xs)

-- one member behind the first ones
pub put_last : {A : Type 0} (old links xs : List A) (x : A) (r : ℕ) → r ≡ length xs → r < length old → links ≡ put_first xs old → set links r x ≡ put_first (xs ++ x ∷ []) old
put_last old links xs x r count room is =
    ap (λ (l : List _). set l r x) (is ∙ ap (λ (l : List _). xs ++ l) (drop_more old (length xs) x (omega arith)))
    ∙ set_at xs (get_or old (length xs) x) (drop (length xs + 1) old) x r (sym count)
    ∙ sym (append_assoc xs (x ∷ []) (drop (length xs + 1) old))
    ∙ ap (λ (k : ℕ). (xs ++ x ∷ []) ++ drop k old) (let e : length xs + 1 ≡ length (xs ++ x ∷ []) = omega (arith, length-append xs (x ∷ [])) in e)

module _ (links : Links) (i j : ℕ) where
  -- a way that was written, and the edge back behind it
  pub written_cycle : (old new : List ℕ) (c r : ℕ) → Unfolded links i j old new r → r < length old → CycleWritten links i j c old (set new r c) (r + 1)
  written_cycle old new c r x room = record {
    edges = x.edges;
    points = x.points;
    way = x.way;
    counted = omega (arith, x.counted);
    written = put_last old new x.edges c r x.counted room x.written;
  }

  pub unfolded_below : (old new : List ℕ) (r : ℕ) → ((cs ps : List ℕ) → Unfolds links i j cs ps → suc (length cs) ≤ length old)
      → Unfolded links i j old new r → r < length old
  unfolded_below old new r fits x = omega (arith, fits x.edges x.points x.way, x.counted)
