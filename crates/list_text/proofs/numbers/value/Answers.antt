use Rattle.std.proofs.Common.{◌+◌, ◌-◌, ◌*◌, ◌<◌, length, get_or, sym, ap, ◌∙◌, arith}
use Rattle.std.proofs.lemmas.List.{take_all}
use Rattle.std.proofs.lemmas.Bool.{eqb-false}
use Rattle.list_text.specs.Grammar.{written}
use Rattle.list_text.proofs.Numerals.{written_more, digit_at, digits_more, ten_to}
use Rattle.list_text.proofs.numbers.value.Goals as goal

pub overflow_mul-n : goal.overflow_mul-n
overflow_mul-n c = omega (arith, ten_to c.loop-d.d-index (omega arith))

pub overflow_add-n : goal.overflow_add-n
overflow_add-n c =
    omega (arith, ten_to c.loop-d.d-index (omega arith), (digit_at c.args.digits.now c.loop-d.d-index c.requires.0 (omega arith)).1)

pub loop-d-preserved : goal.loop-d-preserved
loop-d-preserved c =
    let ds = c.args.digits.now in
    let i = c.loop-d.d-index in
    let lt : i < length ds = c.loop-d-test.true in
    let d = digit_at ds i c.requires.0 lt in (
      ap (λ n. n * 10 + (get_or ds i 0 - 48)) c.loop-d.invariant.0 ∙ sym (written_more ds i lt),
      digits_more c.loop-d.n i (get_or ds i 0 - 48) c.loop-d.invariant.1 (omega (arith, d.1)),
    )

pub returns : goal.returns
returns c =
    let ds = c.args.digits.now in
    let some = eqb-false _ _ (sym c.is_empty.ensures ∙ c.if-is_empty.false) in (
      record {
        some = omega arith;
        few = omega arith;
        digits = c.requires.0;
        writes = sym (c.loop-d.invariant.0 ∙ ap (written 0) (take_all c.loop-d.d-index ds (omega arith)));
      },
      omega (arith, ten_to c.loop-d.d-index (omega arith)),
    )
