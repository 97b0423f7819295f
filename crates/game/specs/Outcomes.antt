-- What solve answers and writes.
use Rattle.std.specs.Prelude.{ℕ, zero, suc, ◌<◌, cond, List, [], ◌∷◌, ◌++◌, length, drop, Ok, Err, Result, nat_le, slice_index_or}
use Rattle.refusal.specs.declared.Refusal.{Refusal}
use Rattle.refusal.specs.declared.Refusal.TheVariants.{Room}
use Rattle.parity.specs.Player.{other}
use Rattle.parity.specs.Game.{Game}
use Rattle.parity.specs.Play.{Plan, Winning}
use Rattle.parity.specs.Grading.{grade, distance, winner}
use Rattle.parity.specs.Move.{move}
use Rattle.parity.specs.declared.player.Player.TheVariants.{Zero}
use Rattle.game.specs.declared.outcome.Outcome.{Outcome}

-- what is reported of vertex v
abbrev pub outcome : Game → ℕ → Outcome
outcome G v = record { winner = winner G v; grade = grade G v; distance = distance G v; choice = move G v }

-- the outcomes of the first n vertices
unfoldable pub outcomes : Game → ℕ → List Outcome
outcomes G zero = []
outcomes G (suc n) = outcomes G n ++ outcome G n ∷ []

-- one record a vertex, or a refusal where there are fewer records than vertices; all other records stay
abbrev pub solved : Game → List Outcome → Result (Unit {0}) Refusal × List Outcome
solved G records =
    cond (nat_le G.count (length records)) (Ok tt, outcomes G G.count ++ drop G.count records) (Err Room, records)

-- what stands past the end of a list of records
abbrev pub blank : Outcome
blank = record { winner = Zero; grade = 0; distance = 0; choice = 0 }

-- by the records: from each vertex the winner wins by the moves, and the other by no plan
abbrev pub Reported : Game → List Outcome → Type 0
Reported G records =
    (v : ℕ) → v < G.count →
    Winning G (slice_index_or records v blank).winner (λ past u. (slice_index_or records u blank).choice) v
    × ((plan : Plan) → Winning G (other (slice_index_or records v blank).winner) plan v → ⊥)
