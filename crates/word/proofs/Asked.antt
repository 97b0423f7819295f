-- What holds where accept's questions are all answered yes.
use Rattle.std.proofs.Common.{◌≡◌, ℕ, ◌<◌, ◌≤◌, true, ◌&&◌, List, length, Ok, arith}
use Rattle.draft.specs.Automaton.{Automaton, state_count, is_complete}
use Rattle.runs.specs.WordGame.{steps}
use Rattle.word.specs.Asking.{letters_known, asked}

pub record Asked (a : Automaton) (q : ℕ) (prefix period : List ℕ) : Type 0 where
  pub complete : is_complete a ≡ true
  pub state : q < state_count a
  pub some : 0 < length period
  pub short : steps prefix period ≤ 64
  pub known : (letters_known a.letters prefix && letters_known a.letters period) ≡ true

pub answered : (a : Automaton) (q : ℕ) (prefix period : List ℕ) → asked a q prefix period ≡ Ok tt → Asked a q prefix period
answered a q prefix period e = grind arith
