-- What is chosen with the window goes on, or rules the window out. Assumes nothing.
use Rattle.std.proofs.Common.{◌≡◌, ℕ, ◌+◌, ◌≤◌, List, length, set, Some, None, Option, unwrap_or, suc, sym, refl, ap, subst, ◌∙◌, arith}
use Rattle.networks.specs.Network.{Network}
use Rattle.networks.specs.Hull.{hulls}
use Rattle.networks.specs.Plan.{HasPlan}
use Rattle.networks.specs.Legal.{Legal}
use Rattle.networks.specs.Selection.{chosen}
use Rattle.distances.specs.Closing.{Closes}
use Rattle.distances.specs.Matrix.{Rest}
use Rattle.schedules.specs.Choosing.{place_of, GoesOn}
use Rattle.schedules.proofs.Descending.{window_there, legal_with, ruled_out, stays, goes_on, place_is, place_there}
use Rattle.schedules.proofs.descent.descend.Goals as goal

past_all : (o : Option ℕ) (n : ℕ) → ((x : ℕ) → o ≡ Some x → ⊥) → n ≤ unwrap_or o n
past_all None n none = omega arith
past_all (Some x) n none = absurd (none x refl)

-- the part selection over what a source means
over_part : {S : Type 0} {L M N : Network S} (ws : List ℕ) (place : ℕ) → L ≡ chosen M ws place → M ≡ N → L ≡ chosen N ws place
over_part ws place is same = is ∙ ap (λ M. chosen M ws place) same

pub returns-in_default-clause-goes : goal.returns-in_default-clause-goes
returns-in_default-clause-goes g c =
    let N = c.args.source.now in
    stays N (place_of N c.args.places) c.requires.places.0.in_order _ c.requires.places.1 _ _ c.requires.upto c.requires.turn _ c.requires.closed
    (past_all _ (length N.conditions) c.in_default.not-Some)

pub overflow_cast-chosen : goal.overflow_cast-chosen
overflow_cast-chosen g c =
    let N = c.args.source.now in
    let P = place_of N c.args.places c.args.l in
    let is = place_is N c.args.places c.requires.places.0 c.args.l c.in-Some.place c.in-Some.is in
    let here = place_there N c.args.places c.requires.places.0 c.args.l c.in-Some.place c.in-Some.is in
    omega (arith, window_there N _ _ _ c.requires.upto c.requires.turn here, (c.get-asked.ensures.legal.each_condition P here).few_windows)

pub new-requires : goal.new-requires
new-requires g c =
    let K = g.T.Span.Span.kind in
    let N = c.args.source.now in
    let P = place_of N c.args.places c.args.l in
    let is = place_is N c.args.places c.requires.places.0 c.args.l c.in-Some.place c.in-Some.is in
    let here = place_there N c.args.places c.requires.places.0 c.args.l c.in-Some.place c.in-Some.is in
    subst (Legal K) (sym (over_part (set c.args.windows c.in-Some.place c.args.w) (c.in-Some.place + 1) c.over-part.ensures c.get-asked.ensures.means))
    (subst (λ (i : ℕ). Legal K (chosen N (set c.args.windows i c.args.w) (i + 1))) is
    (legal_with N _ _ _ c.requires.upto c.requires.turn here g.met.T.Span.Span.lawful c.get-asked.ensures.legal))

pub returns-in-Ok : goal.returns-in-Ok
returns-in-Ok g c =
    let K = g.T.Span.Span.kind in
    let N = c.args.source.now in
    let P = place_of N c.args.places c.args.l in
    let next = place_of N c.args.places (suc c.args.l) in
    let ws = c.args.windows in
    let w = c.args.w in
    let matrix = c.close.new.matrix in
    let over = c.new.ensures ∙ over_part (set ws c.in-Some.place w) (c.in-Some.place + 1) c.over-part.ensures c.get-asked.ensures.means in
    let is = place_is N c.args.places c.requires.places.0 c.args.l c.in-Some.place c.in-Some.is in
    let here = place_there N c.args.places c.requires.places.0 c.args.l c.in-Some.place c.in-Some.is in
    let closes = subst (λ (M : Network g.row.T-Span.Denot). Closes K M matrix) over c.in-Ok.ensures.ends in
    record {
      goes = subst (λ (i : ℕ). GoesOn K N ws P w (set ws i w) next matrix) is
          (goes_on N (place_of N c.args.places) c.requires.places.0.in_order _ c.requires.places.1 _ _ c.requires.upto c.requires.turn _ here
          (subst (λ (i : ℕ). Closes K (chosen N (set ws i w) (i + 1)) matrix) (sym is) closes));
      rest = subst (λ (M : Network g.row.T-Span.Denot). Rest M.points c.args.matrix.now matrix) over c.close.ensures.rest;
    }

pub returns-in-Err : goal.returns-in-Err
returns-in-Err g c =
    let K = g.T.Span.Span.kind in
    let N = c.args.source.now in
    let P = place_of N c.args.places c.args.l in
    let ws = c.args.windows in
    let w = c.args.w in
    let matrix = c.close.new.matrix in
    let over = c.new.ensures ∙ over_part (set ws c.in-Some.place w) (c.in-Some.place + 1) c.over-part.ensures c.get-asked.ensures.means in
    let is = place_is N c.args.places c.requires.places.0 c.args.l c.in-Some.place c.in-Some.is in
    let here = place_there N c.args.places c.requires.places.0 c.args.l c.in-Some.place c.in-Some.is in
    let none = subst (λ (M : Network g.row.T-Span.Denot). HasPlan K (hulls M) → ⊥) over c.in-Err.ensures.ends.no_plan in
    record {
      goes = ruled_out N _ _ _ c.requires.upto c.requires.turn here g.met.T.Span.Span.lawful c.get-asked.ensures.legal
          (subst (λ (i : ℕ). HasPlan K (hulls (chosen N (set ws i w) (i + 1))) → ⊥) (sym is) none);
      rest = subst (λ (M : Network g.row.T-Span.Denot). Rest M.points c.args.matrix.now matrix) over c.close.ensures.rest;
    }
