-- Small stored arenas.
use Rattle.std.specs.Prelude.{ℕ, List, [], ◌∷◌, ◌++◌}
use Rattle.parity.specs.Game.{Game}
use Rattle.arena.specs.Stored.{stored_game}

-- the record of a vertex whose numbers all fit a byte: owner, priority, and the two targets
abbrev pub vertex : ℕ → ℕ → ℕ → ℕ → List ℕ
vertex owner priority left right = owner ∷ 0 ∷ priority ∷ 0 ∷ left ∷ 0 ∷ right ∷ 0 ∷ []

-- 0 leads to 1, and 1 to itself
abbrev pub two_bytes : List ℕ
two_bytes = vertex 0 2 1 1 ++ vertex 1 3 1 1

-- at 1 the loser has to keep away from priority 1
abbrev pub three_bytes : List ℕ
three_bytes = vertex 0 2 1 1 ++ vertex 0 3 2 1 ++ vertex 1 1 2 2

-- all lead to priority 0, vertex 0 by two moves
abbrev pub drawn_bytes : List ℕ
drawn_bytes = vertex 1 5 1 2 ++ vertex 0 0 1 1 ++ vertex 0 5 1 1

abbrev pub two : Game
two = stored_game two_bytes 2

abbrev pub three : Game
three = stored_game three_bytes 3

abbrev pub drawn : Game
drawn = stored_game drawn_bytes 3
