-- From the winner of the pair game to contain's answer, and from that to the number of the call for C.
use Rattle.std.proofs.Common.{◌≡◌, ℕ, ◌≤◌, List, length, replicate, Ok, sym, ap, ◌∙◌, subst, ap₂}
use Rattle.std.proofs.lemmas.List.{length-replicate}
use Rattle.std.proofs.lemmas.Bool.{le-leb}
use Rattle.parity.specs.declared.player.Player.{Player}
use Rattle.game.specs.Outcomes.{blank}
use Rattle.draft.specs.Automaton.{Automaton, empty}
use Rattle.draft.specs.Load.{Loaded}
use Rattle.inclusion.specs.PairGame.{pair_game, pair_winner}
use Rattle.contain.specs.Answers.{verdict_number}
use Rattle.contain.specs.Asking.{asked}
use Rattle.contain.specs.Containing.{verdict_of}
use Rattle.contain.specs.declared.fault.Containment.{Containment}
use Rattle.colvaje_host.specs.HostAnswer.{answer_number, once_loaded, host_answer}
use Rattle.worked_examples.specs.Answered.{Makes, Compares}

-- player 0's win is containment, where no question is answered no
pub compares_by : (a : Automaton) (p : ℕ) (b : Automaton) (q : ℕ) (x : Player) → asked a p b q ≡ Ok tt → pair_winner a b p q ≡ x → Compares a p b q (verdict_of x)
compares_by a p b q x allowed won records room = rw (allowed, le-leb (pair_game a b).count (length records) room, won)

-- the call answers the verdict's number, where its 4,096 records are enough for the automata that the files make
module _ (letters : ℕ) (first second : List ℕ) (a b : Automaton) (p q : ℕ) where
  pub host_by : (verdict : Containment) → Makes letters first a → Makes letters second b → (pair_game a b).count ≤ 4096 → Compares a p b q verdict → host_answer letters first second p q ≡ verdict_number verdict
  host_by verdict made made' room compares =
      let records = replicate 4096 blank in
      ap₂ (λ (x y : Loaded). once_loaded x y p q) (made (empty 1)) (made' (empty 1))
      ∙ ap answer_number (compares records (subst (λ n. (pair_game a b).count ≤ n) (sym (length-replicate 4096 blank)) room))
