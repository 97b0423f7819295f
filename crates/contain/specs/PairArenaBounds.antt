-- A pair arena keeps the bounds of an arena.
use Rattle.std.specs.Prelude.{◌≡◌, ◌<◌, true}
use Rattle.arena.specs.Bounds.{Bounds}
use Rattle.draft.specs.declared.draft.Draft.{Draft}
use Rattle.draft.specs.Meaning.{meaning}
use Rattle.draft.specs.Automaton.{state_count, is_complete}
use Rattle.draft.proofs.Drafts.{draft_well_formed}
use Rattle.inclusion.specs.PairGame.{pair_game}
use Rattle.inclusion.proofs.PairBounded.{pair_bounded}

pub arena_bounds : (d e : Draft) → is_complete (meaning d) ≡ true → is_complete (meaning e) ≡ true → (meaning d).letters ≡ (meaning e).letters → 0 < state_count (meaning d) → 0 < state_count (meaning e) → Bounds (pair_game (meaning d) (meaning e))
arena_bounds d e complete complete' same some some' =
    pair_bounded (meaning d) (meaning e) (draft_well_formed d) (draft_well_formed e) complete complete' same some some'
