-- A check refuses and nothing is written; or tightening ends as it does. Assumes nothing.
use Rattle.std.proofs.Common.{Err, refl, ap, ◌∙◌}
use Rattle.std.proofs.lemmas.Result.{err_from_is_err_and}
use Rattle.networks.specs.Limits.{most_conditions}
use Rattle.networks.specs.Refusal.{checks_refusal}
use Rattle.networks.specs.Faults.{refusal_of}
use Rattle.distances.proofs.Plans.{cycle_no_plan}
use Rattle.distances.proofs.Deciding.{decided}
use Rattle.distances.proofs.Contradictions.{after_refusal, after_passing}
use Rattle.distances.proofs.tightening.tighten_lent.Goals as goal

pub returns-in_err-check : goal.returns-in_err-check
returns-in_err-check g c =
    let N = g.T.Source.means c.args.source.now in
    let f = c.in_err-check.field-0.0 in
    let p = err_from_is_err_and c.from_residual.result c.from_residual.ensures.1 in
    record {
      tightened = rw (p.1, p.2) (after_refusal g.T.Span.Span.kind N c.args.matrix.now c.args.cycle.now _ (Err f) c.args.matrix.now c.args.cycle.now
          (c.in_err-check.ensures.refusal ∙ ap (checks_refusal g.T.Span.Span.kind N most_conditions) c.requires) (refusal_of f) refl refl refl);
      networks = λ N legal. (decided g.met.T.Span.Span.lawful N legal, cycle_no_plan g.met.T.Span.Span.lawful N legal);
    }

pub returns : goal.returns
returns g c =
    let N = g.T.Source.means c.args.source.now in
    record {
      tightened = after_passing g.T.Span.Span.kind N c.args.matrix.now c.args.cycle.now _ c.tighten_legal.result c.tighten_legal.new.matrix c.tighten_legal.new.cycle
          (c.in_ok-check.ensures.refusal ∙ ap (checks_refusal g.T.Span.Span.kind N most_conditions) c.requires) (rw c.new.ensures at c.tighten_legal.ensures);
      networks = λ N legal. (decided g.met.T.Span.Span.lawful N legal, cycle_no_plan g.met.T.Span.Span.lawful N legal);
    }
