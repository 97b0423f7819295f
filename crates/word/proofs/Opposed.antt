-- A turned automaton is asked the same questions with the same answers, and gets the other verdict.
use Rattle.std.proofs.Common.{◌≡◌, ℕ, List, length, Ok, Err, Result, refl, arith}
use Rattle.refusal.specs.declared.Refusal.{Refusal}
use Rattle.game.specs.declared.outcome.Outcome.{Outcome}
use Rattle.draft.specs.Automaton.{Automaton}
use Rattle.draft.specs.Calls.{turned, turn_over}
use Rattle.draft.specs.WellFormed.{WellFormed}
use Rattle.draft.proofs.Dual.{states_same, nodes_same, complete_same}
use Rattle.runs.proofs.Turned.{turning}
use Rattle.word.specs.Asking.{asked}
use Rattle.word.specs.Answer.{accept_answer}
use Rattle.word.specs.Readables.{readable}
use Rattle.word.specs.TurnOpposes.{opposed, TurnOpposes}
use Rattle.word.proofs.Asked.{answered}

module _ (a : Automaton) (q : ℕ) (prefix period : List ℕ) where
  -- whatever the questions are answered
  opposed_answer : WellFormed a → (before after : List Outcome) → length after ≡ length before → (r : Result (Unit {0}) Refusal) → asked a q prefix period ≡ r → (accept_answer (turned a) q prefix period after).0 ≡ opposed (accept_answer a q prefix period before).0
  opposed_answer w before after same (Err refusal) is = grind (arith, complete_same a, states_same a)
  opposed_answer w before after same (Ok tt) is =
      let y = answered a q prefix period is in
      let r = readable a.letters prefix period y.some y.known in
      let won = (turning a w y.complete prefix period r q y.state).0 in
      grind (arith, complete_same a, states_same a, nodes_same a)

pub turn_opposes : TurnOpposes
turn_opposes a w ok q prefix period before after same =
    let heeded : (turn_over a).1 ≡ turned a = grind arith in
    rw heeded (opposed_answer a q prefix period w before after same (asked a q prefix period) refl)
