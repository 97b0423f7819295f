-- The pair game keeps the bounds of an arena.
use Rattle.std.proofs.Common.{◌≡◌, ℕ, ◌≤◌, mul-le-mul, arith}
use Rattle.draft.specs.Automaton.{Automaton, state_count, node_count, priority_of, node_of}
use Rattle.runs.proofs.Formed.{formed}
use Rattle.runs.proofs.Insides.{inside_bounds, inside_elsewhere}
use Rattle.inclusion.specs.PairBounds.{PairBounds}
use Rattle.inclusion.specs.PairGame.{first_moves, second_moves, place_priority, place_degree, pair_at, pair_moves, pair_game, pair_place}
use Rattle.inclusion.proofs.Descent.{pair_low}
use Rattle.inclusion.proofs.PairGames.{degree_within, pair_each, pair_sound, states_in}

pub pair_bounded : PairBounds
pair_bounded a b wa wb ca cb same some some' =
    let fa = formed a wa ca in
    let fb = formed b wb cb in
    inside_bounds (pair_sound fa fb same wa.some_letters)
    (let h = states_in a b 0 0 some some' in omega arith)
    (let h = mul-le-mul {n₁ = state_count a} {m₁ = state_count b} {n₂ = 32} {m₂ = 32} wa.few_states wb.few_states in
    let h' = mul-le-mul {n₁ = node_count a} {m₁ = node_count b} {n₂ = 128} {m₂ = 128} wa.few_nodes wb.few_nodes in omega arith)
    (pair_each a b (λ P. place_priority a b P ≤ 9999) (λ p q p< q<. omega (arith, pair_low (priority_of a p) (priority_of b q) (fa.low p p<) (fb.low q q<))) (λ x y _ _. omega arith))
    (pair_each a b (λ P. place_degree a b P ≤ 16) (λ p q _ _. wa.few_letters)
    (λ x y _ _. omega (arith, (degree_within (first_moves (node_of a x) (node_of b y)) (second_moves (node_of a x) (node_of b y))).1)))

pub pair_elsewhere : (a b : Automaton) (v : ℕ) → (pair_game a b).count ≤ v → pair_place a b v ≡ pair_place a b 0
pair_elsewhere a b v h = inside_elsewhere (pair_moves a b) (pair_at a b) v h
