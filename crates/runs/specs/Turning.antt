-- Turning an automaton gives the opposite.
use Rattle.std.specs.Prelude.{◌≡◌, ℕ, ◌<◌, true, List}
use Rattle.parity.specs.Player.{other}
use Rattle.draft.specs.Automaton.{Automaton, state_count, is_complete}
use Rattle.draft.specs.Calls.{turned}
use Rattle.draft.specs.WellFormed.{WellFormed}
use Rattle.runs.specs.Run.{Accepts}
use Rattle.runs.specs.Word.{letter, Readable}
use Rattle.runs.specs.Accepting.{word_winner}

-- The turned automaton accepts a repeating word from a state exactly if the automaton does not, and the other player wins.
abbrev pub Turning : Type 0
Turning =
    (a : Automaton) → WellFormed a → is_complete a ≡ true →
    (prefix period : List ℕ) → Readable a.letters prefix period → (q : ℕ) → q < state_count a →
    (word_winner (turned a) prefix period q ≡ other (word_winner a prefix period q))
    × (Accepts (turned a) (letter prefix period) q → Accepts a (letter prefix period) q → ⊥)
    × ((Accepts a (letter prefix period) q → ⊥) → Accepts (turned a) (letter prefix period) q)
