-- What making a source of a text answers. Assumes nothing.
use Rattle.std.specs.Prelude.{◌≡◌, ℕ, ◌≤◌, List, length}
use Rattle.spans.specs.declared.minutes.Minutes.{Minutes}
use Rattle.networks.specs.declared.fault.Fault.{Fault}
use Rattle.networks.specs.Network.{Network}
use Rattle.networks.specs.Faults.{refusal_of}
use Rattle.list_text.specs.Grammar.{Denotes}
use Rattle.list_text.specs.Place.{longest_text, TurnedAway}

-- the text is short enough, and denotes N and no other network
pub record ReadAs (t : List ℕ) (N : Network Minutes) : Type 0 where
  pub short : length t ≤ longest_text
  pub denotes : Denotes t N
  pub no_other : (M : Network Minutes) → Denotes t M → M ≡ N

-- refusal 12 with the place at which the text is turned away, and no other place
pub record RefusedText (t : List ℕ) (f : Fault) : Type 0 where
  pub place : ℕ
  pub refusal : refusal_of f ≡ record { number = 12; detail = place }
  pub turned_away : TurnedAway t place
  pub no_other : (q : ℕ) → TurnedAway t q → q ≡ place
