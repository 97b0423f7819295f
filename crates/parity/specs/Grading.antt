-- Grade, distance and winner of each vertex: rounds of attraction, by rising priority.
use Rattle.std.specs.Prelude.{ℕ, zero, suc, Bool, true, cond, not, ◌&&◌, ◌||◌, ◌==◌}
use Rattle.parity.specs.Player.{same}
use Rattle.parity.specs.Below.{some_below, all_below, least}
use Rattle.parity.specs.Game.{Game, favoured}
use Rattle.parity.specs.declared.player.Player.{Player}

-- what the grading goes by: the grade of a vertex at distance 0 is its level
abbrev pub level : Game → ℕ → ℕ
level G v = G.priority v

-- Within the set R, v has a distance of at most d to level p. At distance 0 stand the vertices of that level. One further stands
-- a vertex of the player whom p favours with a successor that near, and one of the other whose successors in R are all that near.
unfoldable pub within : Game → (ℕ → Bool) → ℕ → ℕ → ℕ → Bool
within G R p zero v = R v && level G v == p
within G R p (suc d) v =
    within G R p d v
    || (R v && cond (same (G.owner v) (favoured G p))
    (some_below (G.degree v) (λ i. within G R p d (G.successor v i)))
    (all_below (G.degree v) (λ i. not (R (G.successor v i)) || within G R p d (G.successor v i))))

-- R(p): all vertices at first; R(p + 1) is R(p) without those that have a distance to p. No distance passes the count.
unfoldable pub rest : Game → ℕ → ℕ → Bool
rest G zero v = true
rest G (suc p) v = rest G p v && not (within G (rest G p) p G.count v)

-- the p to which v has a distance within R(p); it is at most v's level
unfoldable pub grade : Game → ℕ → ℕ
grade G v = least (level G v) (λ p. within G (rest G p) p G.count v)

-- the least distance of v to its grade
unfoldable pub distance : Game → ℕ → ℕ
distance G v = least G.count (λ d. within G (rest G (grade G v)) (grade G v) d v)

abbrev pub winner : Game → ℕ → Player
winner G v = favoured G (grade G v)
