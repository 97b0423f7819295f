-- What contain answers and writes, and what its answer says.
use Rattle.std.specs.Prelude.{ℕ, List, Ok, Err, Result}
use Rattle.refusal.specs.declared.Refusal.{Refusal}
use Rattle.parity.specs.declared.player.Player.{Player}
use Rattle.parity.specs.declared.player.Player.TheVariants.{Zero, One}
use Rattle.parity.specs.Play.{Plan, Winning}
use Rattle.game.specs.declared.outcome.Outcome.{Outcome}
use Rattle.game.specs.Outcomes.{solved}
use Rattle.draft.specs.Automaton.{Automaton}
use Rattle.inclusion.specs.PairGame.{states_at, pair_game, pair_winner}
use Rattle.inclusion.specs.Safe.{Contained as Contained-in}
use Rattle.contain.specs.declared.fault.Containment.{Containment}
use Rattle.contain.specs.declared.fault.Containment.TheVariants.{NotShown, Contained}
use Rattle.contain.specs.declared.fault.ContainFault.{ContainFault}
use Rattle.contain.specs.Answers.{of_none}
use Rattle.contain.specs.Asking.{asked}

abbrev pub Answer : Type 0
Answer = Result Containment ContainFault × List Outcome

abbrev pub verdict_of : Player → Containment
verdict_of Zero = Contained
verdict_of One = NotShown

-- the verdict where the game was solved, else the refusal
abbrev pub once_solved : Containment → Result (Unit {0}) Refusal × List Outcome → Answer
once_solved verdict (Ok done, records) = (Ok verdict, records)
once_solved verdict (Err refusal, records) = (Err (of_none refusal), records)

-- what comes after the questions, or the refusal with the records as they were
abbrev pub once_asked : Result (Unit {0}) ContainFault → Answer → List Outcome → Answer
once_asked (Ok done) answer records = answer
once_asked (Err fault) answer records = (Err fault, records)

-- state p of a is contained in state q of b where player 0 wins the pair of both; the records are those of the pair game
abbrev pub contain_answer : Automaton → ℕ → Automaton → ℕ → List Outcome → Answer
contain_answer a p b q records =
    once_asked (asked a p b q) (once_solved (verdict_of (pair_winner a b p q)) (solved (pair_game a b) records)) records

-- contained exactly when player 0 has a plan with which she wins the pair game from the pair of both states
abbrev pub Planned : Result Containment ContainFault → Automaton → ℕ → Automaton → ℕ → Type 0
Planned (Ok Contained) a p b q = (plan : Plan) × Winning (pair_game a b) Zero plan (states_at a b p q)
Planned (Ok NotShown) a p b q = (plan : Plan) → Winning (pair_game a b) Zero plan (states_at a b p q) → ⊥
Planned (Err fault) a p b q = Unit {0}

-- a yes is safe: every repeating word that a accepts from p is one that b accepts from q
abbrev pub YesIsSafe : Result Containment ContainFault → Automaton → ℕ → Automaton → ℕ → Type 0
YesIsSafe (Ok Contained) a p b q = Contained-in a b p q
YesIsSafe (Ok NotShown) a p b q = Unit {0}
YesIsSafe (Err fault) a p b q = Unit {0}
