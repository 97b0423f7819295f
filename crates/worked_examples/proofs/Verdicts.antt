-- From the winner of the word game to accept's answer, and from an automaton's answer to the turned one's.
use Rattle.std.proofs.Common.{◌≡◌, ℕ, ◌+◌, ◌*◌, ◌≤◌, List, length, Ok, Result, sym, refl, ap, ◌∙◌, subst}
use Rattle.std.proofs.lemmas.Bool.{le-leb}
use Rattle.refusal.specs.declared.Refusal.{Refusal}
use Rattle.parity.specs.declared.player.Player.{Player}
use Rattle.draft.specs.Automaton.{Automaton}
use Rattle.draft.specs.Calls.{turned, turn_over}
use Rattle.draft.specs.WellFormed.{WellFormed}
use Rattle.runs.specs.WordGame.{steps, word_game}
use Rattle.runs.specs.Accepting.{word_winner}
use Rattle.draft.proofs.Dual.{states_same, nodes_same}
use Rattle.word.specs.Asking.{asked}
use Rattle.word.specs.Answer.{verdict_of, accept_answer}
use Rattle.word.specs.TurnOpposes.{opposed}
use Rattle.word.specs.Verdicts.{opposite}
use Rattle.word.specs.declared.verdict.Verdict.{Verdict}
use Rattle.word.proofs.Opposed.{turn_opposes}
use Rattle.worked_examples.specs.Answered.{Answers}

module _ (a : Automaton) (q : ℕ) (prefix period : List ℕ) where
  -- player 0's win is acceptance, where no question is answered no
  pub answers_by : (x : Player) → asked a q prefix period ≡ Ok tt → word_winner a prefix period q ≡ x → Answers a q prefix period (verdict_of x)
  answers_by x allowed won records room = rw (allowed, le-leb (word_game a prefix period).count (length records) room, won)

  -- the turned automaton has as many vertices, and gives the other verdict
  pub turned_by : (v : Verdict) → WellFormed a → turn_over a ≡ (Ok tt, turned a) → Answers a q prefix period v → Answers (turned a) q prefix period (opposite v)
  turned_by v w turns answers records room =
      let counts : (word_game (turned a) prefix period).count ≡ (word_game a prefix period).count = (λ i. steps prefix period * states_same a i + steps prefix period * nodes_same a i) in
      ap (λ t. (accept_answer t q prefix period records).0) (sym (ap (λ (o : Result (Unit {0}) Refusal × Automaton). o.1) turns))
      ∙ turn_opposes a w (ap (λ (o : Result (Unit {0}) Refusal × Automaton). o.0) turns) q prefix period records records refl
      ∙ ap opposed (answers records (subst (λ n. n ≤ length records) counts room))
