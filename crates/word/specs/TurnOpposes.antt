-- Turning a draft turns the answers of accept.
use Rattle.std.specs.Prelude.{◌≡◌, ℕ, List, length, Ok, Err, Result}
use Rattle.refusal.specs.declared.Refusal.{Refusal}
use Rattle.game.specs.declared.outcome.Outcome.{Outcome}
use Rattle.draft.specs.Automaton.{Automaton}
use Rattle.draft.specs.Calls.{turn_over}
use Rattle.draft.specs.WellFormed.{WellFormed}
use Rattle.word.specs.Answer.{accept_answer}
use Rattle.word.specs.Verdicts.{opposite}
use Rattle.word.specs.declared.verdict.Verdict.{Verdict}

-- the same refusal, or the other verdict
abbrev pub opposed : Result Verdict Refusal → Result Verdict Refusal
opposed (Ok verdict) = Ok (opposite verdict)
opposed (Err refusal) = Err refusal

-- before and after a heeded turn, for every state and word and equally many result records
abbrev pub TurnOpposes : Type 0
TurnOpposes =
    (a : Automaton) → WellFormed a → (turn_over a).0 ≡ Ok tt →
    (q : ℕ) (prefix period : List ℕ) (before after : List Outcome) → length after ≡ length before →
    (accept_answer (turn_over a).1 q prefix period after).0 ≡ opposed (accept_answer a q prefix period before).0
