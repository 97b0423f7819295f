-- What accept answers, and the records afterwards.
use Rattle.std.specs.Prelude.{ℕ, List, Ok, Err, Result}
use Rattle.refusal.specs.declared.Refusal.{Refusal}
use Rattle.parity.specs.declared.player.Player.{Player}
use Rattle.parity.specs.declared.player.Player.TheVariants.{Zero, One}
use Rattle.game.specs.Outcomes.{solved}
use Rattle.game.specs.declared.outcome.Outcome.{Outcome}
use Rattle.draft.specs.Automaton.{Automaton}
use Rattle.runs.specs.Accepting.{word_winner}
use Rattle.runs.specs.Run.{Accepts}
use Rattle.runs.specs.WordGame.{word_game}
use Rattle.word.specs.Asking.{asked}
use Rattle.word.specs.declared.verdict.Verdict.{Verdict}
use Rattle.word.specs.declared.verdict.Verdict.TheVariants.{Rejected, Accepted}

abbrev pub Answer : Type 0
Answer = Result Verdict Refusal × List Outcome

abbrev pub verdict_of : Player → Verdict
verdict_of Zero = Accepted
verdict_of One = Rejected

-- the verdict where the game was solved, else the refusal
abbrev pub once_solved : Verdict → Result (Unit {0}) Refusal × List Outcome → Answer
once_solved verdict (Ok done, records) = (Ok verdict, records)
once_solved verdict (Err refusal, records) = (Err refusal, records)

-- what comes after the questions, or the refusal with the records as they were
abbrev pub once_asked : Result (Unit {0}) Refusal → Answer → List Outcome → Answer
once_asked (Ok done) answer records = answer
once_asked (Err refusal) answer records = (Err refusal, records)

-- player 0's win at the state at step 0 is the word's acceptance; the records are those of the word game
abbrev pub accept_answer : Automaton → ℕ → List ℕ → List ℕ → List Outcome → Answer
accept_answer a q prefix period records =
    once_asked (asked a q prefix period) (once_solved (verdict_of (word_winner a prefix period q)) (solved (word_game a prefix period) records)) records

-- accepted exactly when there is an accepting run
abbrev pub Judged : Result Verdict Refusal → Automaton → (ℕ → ℕ) → ℕ → Type 0
Judged (Ok Accepted) a word q = Accepts a word q
Judged (Ok Rejected) a word q = Accepts a word q → ⊥
Judged (Err refusal) a word q = Unit {0}
