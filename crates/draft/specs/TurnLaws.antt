-- The laws of turning an automaton over.
use Rattle.std.specs.Prelude.{◌≡◌, ℕ, ◌+◌, map, Ok}
use Rattle.draft.specs.declared.parts.State.{State}
use Rattle.draft.specs.Automaton.{Automaton, is_complete}
use Rattle.draft.specs.Calls.{Outcome, turn_over}

abbrev pub raised_by : ℕ → State → State
raised_by n s = record { priority = s.priority + n; rules = s.rules }

abbrev pub all_raised_by : ℕ → Automaton → Automaton
all_raised_by n a = record { letters = a.letters; states = map (raised_by n) a.states; nodes = a.nodes }

-- two turns that are heeded add 2 to every priority, and change nothing else
abbrev pub TurnsCancel : Type 0
TurnsCancel =
    (a b c : Automaton) → ◌≡◌ {A = Outcome (Unit {0})} (turn_over a) (Ok tt, b) → ◌≡◌ {A = Outcome (Unit {0})} (turn_over b) (Ok tt, c) → c ≡ all_raised_by 2 a

-- turning neither gives a rule nor takes one
abbrev pub TurnKeepsComplete : Type 0
TurnKeepsComplete = (a : Automaton) → is_complete (turn_over a).1 ≡ is_complete a

abbrev pub TurnLaws : Type 0
TurnLaws = TurnsCancel × TurnKeepsComplete
