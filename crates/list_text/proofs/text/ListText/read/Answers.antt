use Rattle.std.proofs.Common.{refl, inl, inr}
use Rattle.std.proofs.lemmas.Result.{err_from_is_err_and}
use Rattle.list_text.proofs.Texts.{read_as, too_long_once, fault_once}
use Rattle.list_text.proofs.text.ListText.read.Goals as goal

pub returns-then-text-gt-LONGEST_TEXT : goal.returns-then-text-gt-LONGEST_TEXT
returns-then-text-gt-LONGEST_TEXT c = record {
  place = 65536;
  refusal = refl;
  turned_away = inl (c.if-text-gt-LONGEST_TEXT.true, refl);
  no_other = λ q h. too_long_once _ q c.if-text-gt-LONGEST_TEXT.true h;
}

pub returns-in_err-scan : goal.returns-in_err-scan
returns-in_err-scan c =
    let p = err_from_is_err_and c.from_residual.result c.from_residual.ensures.1 in
    rw (p.1, p.2) (record {
      place = c.in_err-scan.field-0.0.place;
      refusal = refl;
      turned_away = inr (c.if-text-gt-LONGEST_TEXT.false, c.in_err-scan.ensures);
      no_other = λ q h. fault_once _ _ q c.if-text-gt-LONGEST_TEXT.false c.in_err-scan.ensures h;
    })

pub returns : goal.returns
returns c =
    let h = c.in_ok-scan.ensures in
    read_as _ h.0 _ _ c.if-text-gt-LONGEST_TEXT.false h.1 h.2 h.3
