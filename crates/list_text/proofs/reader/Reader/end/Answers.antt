use Rattle.std.proofs.Common.{◌≡◌, ◌+◌, [], ◌∷◌, Some, not, sym, ap, ◌∙◌, to_z-of_z, w64, SFits, to_z, of_z, rules}
use Rattle.std.proofs.lemmas.Result.{err_from_is_err_and}
use Rattle.std.proofs.lemmas.Bool.{both_ways}
use Rattle.std.proofs.lemmas.Slice.Eq.{slice_eq-Decides}
use Rattle.std.proofs.lemmas.Bool.Decides.{Decides-eqb}
use Rattle.spans.specs.MinuteKind.{minutes}
use Rattle.list_text.specs.Machine.{expects, stuck}
use Rattle.list_text.proofs.Moves.{then, stop}
use Rattle.list_text.proofs.Words.{other_way, not_word, is_Inf, is_E, is_other}
use Rattle.list_text.proofs.reader.Reader.end.Goals as goal

pub returns-in_default : goal.returns-in_default
returns-in_default c = λ m k. not_word c.next-x.ensures _ c.in_default.not-Word

pub returns-then-eq : goal.returns-then-eq
returns-then-eq c = λ m k. is_Inf c.next-x.ensures c.in-Word.w c.in-Word.is _ ((slice_eq-Decides Decides-eqb _ _ _ c.eq.ensures).0 c.if-eq.true)

pub returns-then-ne : goal.returns-then-ne
returns-then-ne c = λ m k. record {
  faults = (is_other c.next-x.ensures c.in-Word.w c.in-Word.is m k
      (λ e. both_ways _ (ap not c.if-ne.true) ((slice_eq-Decides Decides-eqb _ _ _ (other_way c.ne.ensures)).1 e)) (λ e. both_ways _ c.if-eq.false ((slice_eq-Decides Decides-eqb _ _ _ c.eq.ensures).1 e))).faults
      ∙ ap (λ e. stuck (c.next-x.result.place + e)) (sym c.fault_in_word.ensures);
}

pub returns-in_err-p : goal.returns-in_err-p
returns-in_err-p c =
    let p = err_from_is_err_and c.from_residual.result c.from_residual.ensures.1 in
    let is : c.in-Word.w.now ≡ 69 ∷ [] = (slice_eq-Decides Decides-eqb _ _ _ (other_way c.ne.ensures)).0 (ap not c.if-ne.false) in
    rw (p.1, p.2) (λ m k. stop (is_E c.next-x.ensures c.in-Word.w c.in-Word.is _ is) (c.in_err-p.ensures _))

pub returns-in_err-count : goal.returns-in_err-count
returns-in_err-count c =
    let p = err_from_is_err_and c.from_residual-in_err-count.result c.from_residual-in_err-count.ensures.1 in
    let is : c.in-Word.w.now ≡ 69 ∷ [] = (slice_eq-Decides Decides-eqb _ _ _ (other_way c.ne.ensures)).0 (ap not c.if-ne.false) in
    rw (p.1, p.2) (λ m k. stop (is_E c.next-x.ensures c.in-Word.w c.in-Word.is _ is)
    (stop (c.in_ok-p.ensures _) (c.in_err-count.ensures (λ z. expects m (k (Some (minutes z)))))))

pub returns-in_err-after : goal.returns-in_err-after
returns-in_err-after c =
    let p = err_from_is_err_and c.from_residual-in_err-after.result c.from_residual-in_err-after.ensures.1 in
    let is : c.in-Word.w.now ≡ 69 ∷ [] = (slice_eq-Decides Decides-eqb _ _ _ (other_way c.ne.ensures)).0 (ap not c.if-ne.false) in
    rw (p.1, p.2) (λ m k. stop (is_E c.next-x.ensures c.in-Word.w c.in-Word.is _ is)
    (stop (c.in_ok-p.ensures _) (stop (c.in_ok-count.ensures (λ z. expects m (k (Some (minutes z))))) (c.in_err-after.ensures _))))

pub returns : goal.returns
returns c =
    let is : c.in-Word.w.now ≡ 69 ∷ [] = (slice_eq-Decides Decides-eqb _ _ _ (other_way c.ne.ensures)).0 (ap not c.if-ne.false) in
    let f : SFits w64 c.in_ok-count.count = search rules in
    let z : to_z w64 (of_z w64 c.in_ok-count.count) ≡ c.in_ok-count.count = to_z-of_z f in
    λ m k. rw z (then (is_E c.next-x.ensures c.in-Word.w c.in-Word.is _ is)
    (then (c.in_ok-p.ensures _) (then (c.in_ok-count.ensures (λ z. expects m (k (Some (minutes z))))) (c.in_ok-after.ensures _))))
