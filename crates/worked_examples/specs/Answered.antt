-- What the examples say of automata: which file makes one, what accept answers for it, and what contain answers for two.
use Rattle.std.specs.Prelude.{◌≡◌, ℕ, ◌≤◌, List, length, Ok}
use Rattle.game.specs.declared.outcome.Outcome.{Outcome}
use Rattle.draft.specs.Automaton.{Automaton}
use Rattle.draft.specs.Load.{load_file}
use Rattle.runs.specs.WordGame.{word_game}
use Rattle.word.specs.Answer.{accept_answer}
use Rattle.word.specs.declared.verdict.Verdict.{Verdict}
use Rattle.inclusion.specs.PairGame.{pair_game}
use Rattle.contain.specs.Containing.{contain_answer}
use Rattle.contain.specs.declared.fault.Containment.{Containment}

-- whatever the draft held before, the file over so many letters makes this automaton of it
abbrev pub Makes : ℕ → List ℕ → Automaton → Type 0
Makes letters bytes made = (before : Automaton) → load_file before letters bytes ≡ (Ok tt, made)

-- accept gives the verdict, with any records that have room for the word game
abbrev pub Answers : Automaton → ℕ → List ℕ → List ℕ → Verdict → Type 0
Answers a q prefix period verdict =
    (records : List Outcome) → (word_game a prefix period).count ≤ length records → (accept_answer a q prefix period records).0 ≡ Ok verdict

-- contain gives the verdict, with any records that have room for the pair game
abbrev pub Compares : Automaton → ℕ → Automaton → ℕ → Containment → Type 0
Compares a p b q verdict =
    (records : List Outcome) → (pair_game a b).count ≤ length records → (contain_answer a p b q records).0 ≡ Ok verdict
