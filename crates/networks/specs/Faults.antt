-- What each fault has as number and detail. Assumes nothing.
use Rattle.std.specs.Prelude.{Some, None, Ok, Err, Option, Result}
use Rattle.networks.specs.declared.fault.Fault.{Fault}
use Rattle.networks.specs.declared.fault.Fault.TheVariants.{Points, Named, WindowCount, EndSize, WindowOrder, Full, Choices, Memory, Absent, Cycle, NoPlan, Text}
use Rattle.networks.specs.Refusal.{Refusal}

abbrev pub refusal_of : Fault → Refusal
refusal_of Points = record { number = 1; detail = 0 }
refusal_of (Named k) = record { number = 2; detail = k }
refusal_of (WindowCount k) = record { number = 3; detail = k }
refusal_of (EndSize k) = record { number = 4; detail = k }
refusal_of (WindowOrder k) = record { number = 5; detail = k }
refusal_of Full = record { number = 6; detail = 0 }
refusal_of Choices = record { number = 7; detail = 0 }
refusal_of Memory = record { number = 8; detail = 0 }
refusal_of Absent = record { number = 9; detail = 0 }
refusal_of (Cycle edges) = record { number = 10; detail = edges }
refusal_of NoPlan = record { number = 11; detail = 0 }
refusal_of (Text place) = record { number = 12; detail = place }

-- the refusal that a result means; none where it is granted
abbrev pub refusal_in : {R : Type 0} → Result R Fault → Option Refusal
refusal_in (Ok x) = None
refusal_in (Err f) = Some (refusal_of f)
