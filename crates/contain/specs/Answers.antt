-- The numbers of the verdicts and of the two drafts, and the faults.
use Rattle.std.specs.Prelude.{ℕ, Some, None}
use Rattle.refusal.specs.declared.Refusal.{Refusal}
use Rattle.contain.specs.declared.fault.Containment.{Containment}
use Rattle.contain.specs.declared.fault.Containment.TheVariants.{NotShown, Contained}
use Rattle.contain.specs.declared.fault.ContainFault.{ContainFault}
use Rattle.contain.specs.declared.fault.Which.{Which}
use Rattle.contain.specs.declared.fault.Which.TheVariants.{First, Second}

abbrev pub verdict_number : Containment → ℕ
verdict_number NotShown = 0
verdict_number Contained = 1

abbrev pub draft_number : Which → ℕ
draft_number First = 1
draft_number Second = 2

-- a refusal of one draft, and one that speaks of none
abbrev pub of_draft : Which → Refusal → ContainFault
of_draft which e = record { refusal = e; draft = Some which }

abbrev pub of_none : Refusal → ContainFault
of_none e = record { refusal = e; draft = None }
