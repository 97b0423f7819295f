-- The numbers of the faults, and of an answer.
use Rattle.std.specs.Prelude.{ℕ, Some, Ok, Err, Result}
use Rattle.refusal.specs.Numbers.{number_of}
use Rattle.draft.specs.Automaton.{Automaton}
use Rattle.draft.specs.Load.{Loaded}
use Rattle.contain.specs.declared.fault.Containment.{Containment}
use Rattle.contain.specs.declared.fault.Which.{Which}
use Rattle.contain.specs.Answers.{verdict_number, of_draft}
use Rattle.colvaje_host.specs.declared.fault.HostFault.{HostFault}
use Rattle.colvaje_host.specs.declared.fault.HostFault.TheVariants.{Memory, Refused}
use Rattle.colvaje_host.specs.HostAnswer.{refused}

-- what loading one of the files answers and makes
abbrev pub loaded_as : Which → Loaded → Result (Unit {0}) HostFault × Automaton
loaded_as which (Ok done, a) = (Ok done, a)
loaded_as which (Err fault, a) = (Err (Refused (of_draft which fault.refusal)), a)

abbrev pub fault_number : HostFault → ℕ
fault_number (Memory which) = refused (Some which) 99
fault_number (Refused fault) = refused fault.draft (number_of fault.refusal)

abbrev pub said_number : Result Containment HostFault → ℕ
said_number (Ok verdict) = verdict_number verdict
said_number (Err fault) = fault_number fault
