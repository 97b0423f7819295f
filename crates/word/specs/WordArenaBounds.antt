-- A word arena keeps the bounds of an arena.
use Rattle.std.specs.Prelude.{◌≡◌, ℕ, ◌<◌, ◌≤◌, true, List}
use Rattle.arena.specs.Bounds.{Bounds}
use Rattle.draft.specs.declared.draft.Draft.{Draft}
use Rattle.draft.specs.Meaning.{meaning}
use Rattle.draft.specs.Automaton.{state_count, is_complete}
use Rattle.draft.proofs.Drafts.{draft_well_formed}
use Rattle.runs.specs.Word.{Readable}
use Rattle.runs.specs.WordGame.{steps, word_game}
use Rattle.runs.proofs.WordBounded.{word_bounded}

pub arena_bounds : (d : Draft) → is_complete (meaning d) ≡ true → 0 < state_count (meaning d) → (prefix period : List ℕ) → Readable (meaning d).letters prefix period → steps prefix period ≤ 64 → Bounds (word_game (meaning d) prefix period)
arena_bounds d complete some prefix period readable short = word_bounded (meaning d) (draft_well_formed d) complete some prefix period readable short
