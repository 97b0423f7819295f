-- The number that the call for C answers.
use Rattle.std.specs.Prelude.{◌≡◌, ℕ, ◌+◌, ◌*◌, Bool, cond, List, replicate, Some, None, Ok, Err, Option, Result}
use Rattle.refusal.specs.Numbers.{number_of}
use Rattle.game.specs.Outcomes.{blank}
use Rattle.draft.specs.Automaton.{Automaton, empty}
use Rattle.draft.specs.Load.{Loaded, load_file}
use Rattle.contain.specs.declared.fault.Containment.{Containment}
use Rattle.contain.specs.declared.fault.ContainFault.{ContainFault}
use Rattle.contain.specs.declared.fault.Which.{Which}
use Rattle.contain.specs.declared.fault.Which.TheVariants.{First, Second}
use Rattle.contain.specs.Answers.{verdict_number, draft_number}
use Rattle.contain.specs.Containing.{contain_answer}

-- 0 where a refusal speaks of no draft
abbrev pub number_of_draft : Option Which → ℕ
number_of_draft None = 0
number_of_draft (Some which) = draft_number which

abbrev pub refused : Option Which → ℕ → ℕ
refused draft number = 1000 * number_of_draft draft + 100 + number

abbrev pub answer_number : Result Containment ContainFault → ℕ
answer_number (Ok verdict) = verdict_number verdict
answer_number (Err fault) = refused fault.draft (number_of fault.refusal)

-- contain with 4,096 records
abbrev pub compared : Automaton → ℕ → Automaton → ℕ → ℕ
compared a p b q = answer_number (contain_answer a p b q (replicate 4096 blank)).0

-- the first file is loaded, then the second
abbrev pub once_loaded : Loaded → Loaded → ℕ → ℕ → ℕ
once_loaded (Ok done, a) (Ok done', b) p q = compared a p b q
once_loaded (Ok done, a) (Err fault, b) p q = refused (Some Second) (number_of fault.refusal)
once_loaded (Err fault, a) second p q = refused (Some First) (number_of fault.refusal)

-- each file is loaded into a new draft
abbrev pub host_answer : ℕ → List ℕ → List ℕ → ℕ → ℕ → ℕ
host_answer letters first second p q = once_loaded (load_file (empty 1) letters first) (load_file (empty 1) letters second) p q

-- the same, by whether there was memory for the first draft and for the second; want of memory has the number 99
abbrev pub with_memory : Bool → Bool → ℕ → ℕ
with_memory first second answer = cond first (cond second answer (refused (Some Second) 99)) (refused (Some First) 99)

abbrev pub AsMemoryAllows : ℕ → ℕ → Type 0
AsMemoryAllows answer r = (first : Bool) × (second : Bool) × (r ≡ with_memory first second answer)
