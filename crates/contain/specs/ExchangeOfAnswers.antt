-- Both automata turned and exchanged, with their states: contain answers the same.
use Rattle.std.specs.Prelude.{◌≡◌, ℕ, List, length, Ok, Err, Result}
use Rattle.refusal.specs.declared.Refusal.{Refusal}
use Rattle.game.specs.declared.outcome.Outcome.{Outcome}
use Rattle.draft.specs.Automaton.{Automaton}
use Rattle.draft.specs.Calls.{Outcome as Called, turn_over}
use Rattle.draft.specs.WellFormed.{WellFormed}
use Rattle.contain.specs.declared.fault.Containment.{Containment}
use Rattle.contain.specs.declared.fault.ContainFault.{ContainFault}
use Rattle.contain.specs.Containing.{contain_answer}

-- the verdict, or the refusal whichever draft it speaks of
abbrev pub said : Result Containment ContainFault → Result Containment Refusal
said (Ok verdict) = Ok verdict
said (Err fault) = Err fault.refusal

-- a and b turn to a' and b', and there are as many records
abbrev pub ExchangeOfAnswers : Type 0
ExchangeOfAnswers =
    (a b a' b' : Automaton) → WellFormed a → WellFormed b →
    ◌≡◌ {A = Called (Unit {0})} (turn_over a) (Ok tt, a') → ◌≡◌ {A = Called (Unit {0})} (turn_over b) (Ok tt, b') →
    (p q : ℕ) (records records' : List Outcome) → length records' ≡ length records →
    said (contain_answer b' q a' p records').0 ≡ said (contain_answer a p b q records).0
