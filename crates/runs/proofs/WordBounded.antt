-- The word game of at most 64 letters keeps the bounds of an arena.
use Rattle.std.proofs.Common.{◌≡◌, ℕ, ◌≤◌, List, mul-le-mul, arith}
use Rattle.draft.specs.Automaton.{Automaton, state_count, node_count, node_of}
use Rattle.runs.specs.WordGame.{steps, place_priority, place_degree, place_at, word_moves, word_game, word_place}
use Rattle.runs.specs.WordBounds.{WordBounds}
use Rattle.runs.proofs.Formed.{formed}
use Rattle.runs.proofs.Insides.{inside_bounds, inside_elsewhere}
use Rattle.runs.proofs.WordGames.{degree_within, word_each, word_sound, state_in}

pub word_bounded : WordBounds
word_bounded a w c some prefix period r short =
    let f = formed a w c in
    inside_bounds (word_sound f r)
    (let h = state_in f r 0 0 (let l = r.some in omega arith) some in omega arith)
    (let h = mul-le-mul {n₁ = steps prefix period} {m₁ = state_count a} {n₂ = 64} {m₂ = 32} short w.few_states in
    let h' = mul-le-mul {n₁ = steps prefix period} {m₁ = node_count a} {n₂ = 64} {m₂ = 128} short w.few_nodes in omega arith)
    (word_each f r (λ P. place_priority a P ≤ 9999) (λ k q _ q<. omega (arith, w.low q q<)) (λ k x _ _. omega arith))
    (word_each f r (λ P. place_degree a P ≤ 16) (λ k q _ _. omega arith) (λ k x _ _. omega (arith, (degree_within (node_of a x)).1)))

pub word_elsewhere : (a : Automaton) (prefix period : List ℕ) (v : ℕ) → (word_game a prefix period).count ≤ v → word_place a prefix period v ≡ word_place a prefix period 0
word_elsewhere a prefix period v h = inside_elsewhere (word_moves a prefix period) (place_at a prefix period) v h
