-- The word game keeps the bounds of an arena.
use Rattle.std.specs.Prelude.{◌≡◌, ℕ, ◌<◌, ◌≤◌, true, List}
use Rattle.arena.specs.Bounds.{Bounds}
use Rattle.draft.specs.Automaton.{Automaton, state_count, is_complete}
use Rattle.draft.specs.WellFormed.{WellFormed}
use Rattle.runs.specs.Word.{Readable}
use Rattle.runs.specs.WordGame.{steps, word_game}

-- for a word of at most 64 letters, prefix and period together
abbrev pub WordBounds : Type 0
WordBounds =
    (a : Automaton) → WellFormed a → is_complete a ≡ true → 0 < state_count a →
    (prefix period : List ℕ) → Readable a.letters prefix period → steps prefix period ≤ 64 → Bounds (word_game a prefix period)
