-- Every arena is determined, those of words and of pairs too.
use Rattle.std.proofs.Common.{◌≡◌, ℕ, List, Ok, arith}
use Rattle.parity.specs.Game.{Game}
use Rattle.parity.specs.Determinacy.{Determined}
use Rattle.parity.proofs.Determined as theorem
use Rattle.arena.specs.Bounds.{Bounds}
use Rattle.game.proofs.Rounds.{sound_of}
use Rattle.draft.specs.Automaton.{Automaton}
use Rattle.draft.specs.WellFormed.{WellFormed}
use Rattle.runs.specs.WordGame.{word_game}
use Rattle.runs.proofs.WordBounded.{word_bounded}
use Rattle.word.specs.Asking.{asked as word-asked}
use Rattle.word.specs.Readables.{readable}
use Rattle.word.proofs.Asked.{answered as word-answered}
use Rattle.inclusion.specs.PairGame.{pair_game}
use Rattle.inclusion.proofs.PairBounded.{pair_bounded}
use Rattle.contain.specs.Asking.{asked as pair-asked}
use Rattle.contain.proofs.Asked.{answered as pair-answered}

pub arena_determined : (G : Game) → Bounds G → Determined G
arena_determined G bounds = theorem.determinacy G (sound_of G bounds)

with_bounds : (G : Game) → Bounds G → Bounds G × Determined G
with_bounds G bounds = (bounds, arena_determined G bounds)

pub word_arena : (a : Automaton) → WellFormed a → (q : ℕ) (prefix period : List ℕ) → word-asked a q prefix period ≡ Ok tt → Bounds (word_game a prefix period) × Determined (word_game a prefix period)
word_arena a w q prefix period yes' =
    let y = word-answered a q prefix period yes' in
    let r = readable a.letters prefix period y.some y.known in
    with_bounds (word_game a prefix period) (word_bounded a w y.complete (omega (arith, y.state)) prefix period r y.short)

pub pair_arena : (a b : Automaton) → WellFormed a → WellFormed b → (p q : ℕ) → pair-asked a p b q ≡ Ok tt → Bounds (pair_game a b) × Determined (pair_game a b)
pair_arena a b wa wb p q yes' =
    let y = pair-answered a p b q yes' in
    with_bounds (pair_game a b) (pair_bounded a b wa wb y.complete y.complete' y.letters (omega (arith, y.state)) (omega (arith, y.state')))
