-- What a text means as a source: the conditions behind its header. Assumes nothing.
use Rattle.std.proofs.Common.{◌≡◌, ℕ, ◌<◌, ◌≤◌, List, [], ◌++◌, length, drop, sym, refl, ap, ◌∙◌, subst, IsTrue, rules, inl, inr, arith}
use Rattle.std.proofs.lemmas.Bool.{cond-true, le-leb, and_from}
use Rattle.spans.specs.declared.minutes.Minutes.{Minutes}
use Rattle.networks.specs.Network.{Condition, Network}
use Rattle.list_text.specs.Grammar.{Listing, Says, network, Denotes}
use Rattle.list_text.specs.Place.{longest_text, FaultAt, TurnedAway}
use Rattle.list_text.specs.Answer.{ReadAs}
use Rattle.list_text.specs.Machine.{Outcome, start, run, rows_more, finished, reads, stuck}
use Rattle.list_text.specs.Reading.{ahead, Leads, Faults, conditions_of, conditions_from, Readable, ends, reads_rows}
use Rattle.list_text.specs.declared.reader.Reader.{Reader}
use Rattle.list_text.proofs.Completions.{accepts}
use Rattle.list_text.proofs.Readable.{rest_of}
use Rattle.list_text.proofs.Places.{says_read, fault_stuck, denotes_one, one_place}

-- ---- the conditions from a place on
pub means : (r : Reader) (l : Listing) → run r.at (rows_more 0 0 []) (ahead r) ≡ reads l → conditions_from r.text.now r.at ≡ l.conditions
unfolding conditions_from
means r l e =
    cond-true _ _ _ (and_from _ _ (le-leb (length r.text.now) longest_text r.inside.short) (le-leb r.at (length r.text.now) r.inside.within)) ∙ ap conditions_of e

pub readable : (r : Reader) → IsTrue (reads_rows r.text.now r.at) → Readable r.text.now r.at
readable r h = go (run r.at (rows_more 0 0 []) (ahead r)) refl h
  where
    go : (o : Outcome) → run r.at (rows_more 0 0 []) (ahead r) ≡ o → IsTrue (ends o) → Readable r.text.now r.at
    go (reads l) e h = record { inside = r.inside; listing = l; reads_it = e; means_it = means r l e }
    go (stuck p) e h = absurd (search rules)

-- where rows were read, there are rows
pub there : (r : Reader) (l : Listing) → run r.at (rows_more 0 0 []) (ahead r) ≡ reads l → IsTrue (reads_rows r.text.now r.at)
there r l e = subst (λ o. IsTrue (ends o)) (sym e) refl

-- ---- rows of a readable text, read one by one
module _ (q : Reader) (cs : List (Condition Minutes)) (l : Listing) (e : run q.at (rows_more 0 0 cs) (ahead q) ≡ reads l) where
  -- what was read so far is the front of the conditions
  pub front_read : (ds : List (Condition Minutes)) × (l.conditions ≡ cs ++ ds)
  front_read = let rest = rest_of (ahead q) (rows_more 0 0 cs) l (accepts q.at e) in (rest.0, sym (ap (λ l. l.conditions) rest.6))

  -- where the last bracket follows, it is all of them
  pub all_front : (u : Reader) → Leads q (rows_more 0 0 cs) u (finished (record { first = 0; second = 0; conditions = cs })) → l.conditions ≡ cs
  all_front u h =
      let rest = rest_of (ahead u) (finished (record { first = 0; second = 0; conditions = cs })) l (accepts u.at (sym h.leads ∙ e)) in
      sym (ap (λ l. l.conditions) rest.1)

  -- and a fault cannot follow
  pub no_fault : (p : ℕ) → Faults q (rows_more 0 0 cs) p → ⊥
  no_fault p f =
      let g : stuck p ≡ reads l = sym f.faults ∙ e in
      let z : ◌≡◌ {A = ℕ} 0 1 = cc in omega arith

-- ---- the whole text
pub fault_of : (r : Reader) (e : ℕ) → r.at ≡ 0 → Faults r start e → FaultAt r.text.now e
fault_of r e z h = fault_stuck r.text.now e (ap (λ p. run p start (drop p r.text.now)) (sym z) ∙ h.faults)

pub says_of : (r q : Reader) (l : Listing) → r.at ≡ 0 → Leads r start q (rows_more l.first l.second [])
    → run q.at (rows_more l.first l.second []) (ahead q) ≡ reads l → Says r.text.now l
says_of r q l z h e = says_read r.text.now l (ap (λ p. run p start (drop p r.text.now)) (sym z) ∙ h.leads ∙ e)

pub read_as : (t : List ℕ) (l : Listing) (points : ℕ) (cs : List (Condition Minutes)) → length t ≤ longest_text → Says t l
    → (network l).points ≡ points → cs ≡ l.conditions → ReadAs t (record { points = points; conditions = cs })
read_as t l points cs short s p c =
    let N : Network Minutes = record { points = points; conditions = cs } in
    let e : network l ≡ N = ap (λ x. record { points = x; conditions = l.conditions }) p ∙ ap (λ x. record { points = points; conditions = x }) (sym c) in
    let d : Denotes t N = (l, s, e) in
    record { short = short; denotes = d; no_other = λ M h. denotes_one t M N h d }

-- ---- one place at which a text is turned away
pub too_long_once : (t : List ℕ) (q : ℕ) → longest_text < length t → TurnedAway t q → q ≡ longest_text
too_long_once t q long (inl (h, e)) = e
too_long_once t q long (inr (h, f)) = absurd (omega arith)

pub fault_once : (t : List ℕ) (p q : ℕ) → length t ≤ longest_text → FaultAt t p → TurnedAway t q → q ≡ p
fault_once t p q short f (inl (h, e)) = absurd (omega arith)
fault_once t p q short f (inr (h, g)) = one_place t q p g f
