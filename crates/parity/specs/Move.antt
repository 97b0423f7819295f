-- The move at each vertex, whoever wins it.
use Rattle.std.specs.Prelude.{ℕ, cond, ◌&&◌, ◌==◌, nat_le, nat_lt}
use Rattle.parity.specs.Player.{same}
use Rattle.parity.specs.Below.{least}
use Rattle.parity.specs.Game.{Game, favoured}
use Rattle.parity.specs.Grading.{grade, distance}

-- By grades g and distances δ: an owner whom the grade favours, at a distance above 0, takes the least position that keeps the
-- grade and lessens the distance; any other takes the least position whose grade is at least as large.
unfoldable pub move_by : Game → (ℕ → ℕ) → (ℕ → ℕ) → ℕ → ℕ
move_by G g δ v =
    cond (same (G.owner v) (favoured G (g v)) && nat_lt 0 (δ v))
    (least (G.degree v) (λ i. (g (G.successor v i) == g v) && nat_lt (δ (G.successor v i)) (δ v)))
    (least (G.degree v) (λ i. nat_le (g v) (g (G.successor v i))))

abbrev pub move : Game → ℕ → ℕ
move G = move_by G (grade G) (distance G)
