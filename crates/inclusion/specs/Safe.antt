-- A pair that player 0 wins is one of containment.
use Rattle.std.specs.Prelude.{◌≡◌, ℕ, ◌<◌, List}
use Rattle.parity.specs.declared.player.Player.TheVariants.{Zero}
use Rattle.draft.specs.Automaton.{Automaton, state_count}
use Rattle.draft.specs.WellFormed.{WellFormed}
use Rattle.runs.specs.Run.{Accepts}
use Rattle.runs.specs.Word.{letter, Readable}
use Rattle.inclusion.specs.Comparable.{Comparable}
use Rattle.inclusion.specs.PairGame.{pair_winner}

-- every repeating word that the first accepts from p the second accepts from q
abbrev pub Contained : Automaton → Automaton → ℕ → ℕ → Type 0
Contained a b p q =
    (prefix period : List ℕ) → Readable a.letters prefix period → Accepts a (letter prefix period) p → Accepts b (letter prefix period) q

abbrev pub Safe : Type 0
Safe =
    (a b : Automaton) → WellFormed a → WellFormed b → Comparable a b →
    (p q : ℕ) → p < state_count a → q < state_count b → pair_winner a b p q ≡ Zero → Contained a b p q
