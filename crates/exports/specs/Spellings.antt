-- Both kinds spell. Assumes nothing.
use Rattle.std.specs.Prelude.{◌≡◌, ℕ, ◌+◌, ◌<◌, ◌≢◌, List, length, take, drop, ℤ, pos, slice_index_or, slice_set}
use Rattle.std.proofs.Common.{◌∙◌, refl, ap, add_assoc, arith, length-set, get_or-set_same, get_or-set_other, drop-set-lt}
use Rattle.std.proofs.lemmas.List.{get_or-take, get_or-drop}
use Rattle.spans.specs.MinuteKind.{minutes}
use Rattle.spans.specs.PairKind.{pair}
use Rattle.exports.specs.Spelling.{Spells, minute_spelling, rank_spelling}

here : (l : List ℤ) (p : ℕ) (x : ℤ) → p < length l → slice_index_or (slice_set l p x) p (pos 0) ≡ x
here l p x h = get_or-set_same l p x (pos 0) h

apart : (l : List ℤ) (p q : ℕ) (x : ℤ) → q ≢ p → slice_index_or (slice_set l p x) q (pos 0) ≡ slice_index_or l q (pos 0)
apart l p q x ne = get_or-set_other l p q x (pos 0) ne

within : (l : List ℤ) (a m p : ℕ) → p < m → slice_index_or (take m (drop a l)) p (pos 0) ≡ slice_index_or l (a + p) (pos 0)
within l a m p h = get_or-take m (drop a l) p (pos 0) h ∙ get_or-drop a l p (pos 0)

pub minutes_spell : Spells minute_spelling
minutes_spell = record {
  read_back = λ l p x h. ap minutes (here l p x.count (omega arith));
  before = λ l p q x h. ap minutes (apart l p q x.count (omega arith));
  rest = λ l p m x h. drop-set-lt m l p x.count (omega arith);
  own = λ l a m p h. ap minutes (within l a m p (omega arith));
}

pub ranks_spell : Spells rank_spelling
ranks_spell = record {
  read_back = λ l p x h.
      let a = x.first.count in
      let b = x.second.count in
      let one = apart (slice_set l p a) (p + 1) p b (omega arith) ∙ here l p a (omega arith) in
      let two = here (slice_set l p a) (p + 1) b (omega (arith, length-set l p a)) in
      ap (λ z. pair (minutes z) (minutes (slice_index_or (slice_set (slice_set l p a) (p + 1) b) (p + 1) (pos 0)))) one
      ∙ ap (λ z. pair (minutes a) (minutes z)) two;
  before = λ l p q x h.
      let a = x.first.count in
      let b = x.second.count in
      let one = apart (slice_set l p a) (p + 1) q b (omega arith) ∙ apart l p q a (omega arith) in
      let two = apart (slice_set l p a) (p + 1) (q + 1) b (omega arith) ∙ apart l p (q + 1) a (omega arith) in
      ap (λ z. pair (minutes z) (minutes (slice_index_or (slice_set (slice_set l p a) (p + 1) b) (q + 1) (pos 0)))) one
      ∙ ap (λ z. pair (minutes (slice_index_or l q (pos 0))) (minutes z)) two;
  rest = λ l p m x h.
      drop-set-lt m (slice_set l p x.first.count) (p + 1) x.second.count (omega arith) ∙ drop-set-lt m l p x.first.count (omega arith);
  own = λ l a m p h. rw (within l a m p (omega arith), within l a m (p + 1) (omega arith), add_assoc a p 1) refl;
}
