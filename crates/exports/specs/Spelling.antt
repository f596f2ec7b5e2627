-- How a span is spelled in numbers. Assumes nothing.
--     Spelling S     how many numbers a span takes, the span at a place, and a span written to a place
--     Spells P       what is written is read again, nothing else changes, and a span is read from its own numbers
use Rattle.std.specs.Prelude.{◌≡◌, ℕ, ◌+◌, ◌≤◌, List, length, take, drop, ℤ, pos, slice_index_or, slice_set}
use Rattle.spans.specs.declared.minutes.Minutes.{Minutes}
use Rattle.spans.specs.declared.pair.Pair.{Pair}
use Rattle.spans.specs.MinuteKind.{minutes}
use Rattle.spans.specs.PairKind.{pair}

pub record Spelling (S : Type 0) : Type 0 where
  pub width : ℕ
  pub read : List ℤ → ℕ → S
  pub write : List ℤ → ℕ → S → List ℤ

pub record Spells {S : Type 0} (P : Spelling S) : Type 0 where
  pub read_back : (l : List ℤ) (p : ℕ) (x : S) → p + P.width ≤ length l → P.read (P.write l p x) p ≡ x
  pub before : (l : List ℤ) (p q : ℕ) (x : S) → q + P.width ≤ p → P.read (P.write l p x) q ≡ P.read l q
  pub rest : (l : List ℤ) (p m : ℕ) (x : S) → p + P.width ≤ m → drop m (P.write l p x) ≡ drop m l
  pub own : (l : List ℤ) (a m p : ℕ) → p + P.width ≤ m → P.read (take m (drop a l)) p ≡ P.read l (a + p)

-- one number
abbrev pub minute_spelling : Spelling Minutes
minute_spelling = record {
  width = 1;
  read = λ l p. minutes (slice_index_or l p (pos 0));
  write = λ l p x. slice_set l p x.count;
}

-- the minute and then the rank
abbrev pub rank_spelling : Spelling (Pair Minutes Minutes)
rank_spelling = record {
  width = 2;
  read = λ l p. pair (minutes (slice_index_or l p (pos 0))) (minutes (slice_index_or l (p + 1) (pos 0)));
  write = λ l p x. slice_set (slice_set l p x.first.count) (p + 1) x.second.count;
}
