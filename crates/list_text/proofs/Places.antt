-- A text says at most one thing, and a text that says nothing has its fault at one place: where the machine gets stuck. Assumes nothing.
use Rattle.std.proofs.Common.{◌≡◌, ℕ, suc, ◌<◌, ◌≤◌, List, ◌++◌, take, drop, sym, ap, ◌∙◌, subst, inl, inr, append_assoc, arith}
use Rattle.std.proofs.lemmas.List.{take-append-drop, take-take}
use Rattle.std.proofs.lemmas.Bool.{cases_order}
use Rattle.networks.specs.Network.{Network}
use Rattle.spans.specs.declared.minutes.Minutes.{Minutes}
use Rattle.list_text.specs.Grammar.{Listing, Says, network, Denotes}
use Rattle.list_text.specs.Place.{Begins, FaultAt}
use Rattle.list_text.specs.Machine.{start, run, reads, stuck}
use Rattle.list_text.proofs.Completions.{accepts, gets_stuck}
use Rattle.list_text.proofs.Written.{written_read}
use Rattle.list_text.proofs.Readable.{read_written}

-- ---- one meaning
pub says_one : (t : List ℕ) (l m : Listing) → Says t l → Says t m → l ≡ m
says_one t l m x y = let p = (written_read x).runs 0 in let q = (written_read y).runs 0 in cc

pub denotes_one : (t : List ℕ) (M N : Network Minutes) → Denotes t M → Denotes t N → M ≡ N
denotes_one t M N (l, x, e) (m, y, f) = sym e ∙ ap network (says_one t l m x y) ∙ f

-- ---- one place
begins_shorter : (t : List ℕ) (p q : ℕ) → p ≤ q → Begins (take q t) → Begins (take p t)
begins_shorter t p q h (v, l, s) =
    let w = drop p (take q t) in
    let e : take q t ≡ take p t ++ w = sym (take-append-drop p (take q t)) ∙ ap (λ y. y ++ w) (take-take p q t h) in
    (w ++ v, l, subst (λ y. Says y l) (ap (λ y. y ++ v) e ∙ append_assoc (take p t) w v) s)

not_before : (t : List ℕ) (p q : ℕ) → FaultAt t p → FaultAt t q → p < q → ⊥
not_before t p q f g h = f.here (omega (arith, g.within)) (begins_shorter t (suc p) q (omega arith) g.before)

pub one_place : (t : List ℕ) (p q : ℕ) → FaultAt t p → FaultAt t q → p ≡ q
one_place t p q f g =
    elim (cases_order p q) [
      | inl e ↦ e
      | inr o ↦ elim o [ inl h ↦ absurd (not_before t p q f g h) | inr h ↦ absurd (not_before t q p g f h) ]
    ]

-- ---- the place where the machine gets stuck
pub says_read : (t : List ℕ) (l : Listing) → run 0 start t ≡ reads l → Says t l
says_read t l e = read_written t l (accepts 0 e)

pub fault_stuck : (t : List ℕ) (p : ℕ) → run 0 start t ≡ stuck p → FaultAt t p
fault_stuck t p e =
    let (k, is, h) = gets_stuck t start 0 p e in
    let eq : k ≡ p = omega arith in
    subst (FaultAt t) eq (record {
      within = h.within;
      before = (h.before.0, h.before.1, read_written _ _ h.before.2);
      here = λ lt b. h.here lt b.0 b.1 (written_read b.2);
      none = λ l s. let q = (written_read s).runs 0 in let z : ◌≡◌ {A = ℕ} 0 1 = cc in omega arith;
    })
