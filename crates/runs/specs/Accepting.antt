-- The word game decides acceptance.
use Rattle.std.specs.Prelude.{◌≡◌, ℕ, ◌<◌, true, List}
use Rattle.parity.specs.declared.player.Player.{Player}
use Rattle.parity.specs.declared.player.Player.TheVariants.{Zero}
use Rattle.parity.specs.Grading.{winner}
use Rattle.draft.specs.Automaton.{Automaton, state_count, is_complete}
use Rattle.draft.specs.WellFormed.{WellFormed}
use Rattle.runs.specs.Run.{Accepts}
use Rattle.runs.specs.Word.{letter, Readable}
use Rattle.runs.specs.WordGame.{state_vertex, word_game}

-- the winner at a state at step 0
abbrev pub word_winner : Automaton → List ℕ → List ℕ → ℕ → Player
word_winner a prefix period q = winner (word_game a prefix period) (state_vertex (state_count a) 0 q)

-- player 0 wins a state at step 0 exactly if the automaton has an accepting run on the word from that state
abbrev pub Accepting : Type 0
Accepting =
    (a : Automaton) → WellFormed a → is_complete a ≡ true →
    (prefix period : List ℕ) → Readable a.letters prefix period → (q : ℕ) → q < state_count a →
    (Accepts a (letter prefix period) q → word_winner a prefix period q ≡ Zero)
    × (word_winner a prefix period q ≡ Zero → Accepts a (letter prefix period) q)
