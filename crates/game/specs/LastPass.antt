-- The last pass: winners and moves, from the grades and distances in the records.
use Rattle.std.specs.Prelude.{ℕ, List, get_or, nat_le, slice_index_or}
use Rattle.parity.specs.Below.{least}
use Rattle.parity.specs.Game.{Game, favoured}
use Rattle.parity.specs.Move.{move_by}
use Rattle.game.specs.Outcomes.{blank}
use Rattle.game.specs.Filling.{is_near}
use Rattle.game.specs.declared.outcome.Outcome.{Outcome}

-- the grades and distances in a list of records
abbrev pub grade_in : List Outcome → ℕ → ℕ
grade_in l v = (get_or l v blank).grade

abbrev pub distance_in : List Outcome → ℕ → ℕ
distance_in l v = (get_or l v blank).distance

-- the least position that keeps the grade and lessens the distance; the least whose grade is at least as large
abbrev pub first_nearer : Game → List Outcome → ℕ → ℕ
first_nearer G l v = least (G.degree v) (λ i. is_near (grade_in l v) (distance_in l v) (slice_index_or l (G.successor v i) blank))

abbrev pub first_up : Game → List Outcome → ℕ → ℕ
first_up G l v = least (G.degree v) (λ i. nat_le (grade_in l v) (grade_in l (G.successor v i)))

-- the record of v with its winner and its move, by the records
abbrev pub finished_by : Game → List Outcome → ℕ → Outcome
finished_by G l v = record { winner = favoured G (grade_in l v); grade = grade_in l v; distance = distance_in l v; choice = move_by G (grade_in l) (distance_in l) v }
