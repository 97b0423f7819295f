-- The pair game keeps the bounds of an arena.
use Rattle.std.specs.Prelude.{◌≡◌, ◌<◌, true}
use Rattle.arena.specs.Bounds.{Bounds}
use Rattle.draft.specs.Automaton.{Automaton, state_count, is_complete}
use Rattle.draft.specs.WellFormed.{WellFormed}
use Rattle.inclusion.specs.PairGame.{pair_game}

abbrev pub PairBounds : Type 0
PairBounds =
    (a b : Automaton) → WellFormed a → WellFormed b → is_complete a ≡ true → is_complete b ≡ true → a.letters ≡ b.letters →
    0 < state_count a → 0 < state_count b → Bounds (pair_game a b)
