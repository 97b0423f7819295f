-- The records while grades and distances are being filled in, grade by grade and distance by distance.
use Rattle.std.specs.Prelude.{◌≡◌, ℕ, ◌<◌, ◌≤◌, Bool, cond, ◌&&◌, ◌||◌, List, get_or, Some, None, Option, ◌==◌, nat_lt, slice_index_or}
use Rattle.parity.specs.Game.{Game, favoured}
use Rattle.parity.specs.Player.{same}
use Rattle.parity.specs.Below.{some_below, all_below}
use Rattle.parity.specs.Grading.{level, grade, distance}
use Rattle.parity.specs.declared.player.Player.TheVariants.{Zero}
use Rattle.game.specs.Outcomes.{blank}
use Rattle.game.specs.declared.outcome.Outcome.{Outcome}

-- a record of grade p and distance d, whose winner and move are not named yet
abbrev pub unnamed : ℕ → ℕ → Outcome
unnamed p d = record { winner = Zero; grade = p; distance = d; choice = 0 }

-- a vertex that has no grade yet
abbrev pub unset : Outcome
unset = record { winner = Zero; grade = 65535; distance = 0; choice = 0 }

-- a vertex with its grade and distance
abbrev pub ranked : Game → ℕ → Outcome
ranked G v = record { winner = Zero; grade = grade G v; distance = distance G v; choice = 0 }

-- v has a grade below p, or grade p and a distance below d
unfoldable pub reached : Game → ℕ → ℕ → ℕ → Bool
reached G p d v = nat_lt (grade G v) p || (grade G v == p && nat_lt (distance G v) d)

-- v has grade p and distance d
unfoldable pub gets : Game → ℕ → ℕ → ℕ → Bool
gets G p d v = grade G v == p && distance G v == d

-- the record of v when the vertices reached are filled
unfoldable pub partly : Game → ℕ → ℕ → ℕ → Outcome
partly G p d v = cond (reached G p d v) (ranked G v) unset

-- each record is as it is when the vertices reached are filled
abbrev pub Filled : Game → ℕ → ℕ → List Outcome → Type 0
Filled G p d l = (v : ℕ) → v < G.count → slice_index_or l v blank ≡ partly G p d v

-- the records from n on are as they were
abbrev pub Kept : ℕ → List Outcome → List Outcome → Type 0
Kept n l m = (v : ℕ) → n ≤ v → slice_index_or m v blank ≡ slice_index_or l v blank

-- a record of grade p and a distance below d; some successor's
abbrev pub is_near : ℕ → ℕ → Outcome → Bool
is_near p d o = o.grade == p && nat_lt o.distance d

abbrev pub some_near : Game → List Outcome → ℕ → ℕ → ℕ → Bool
some_near G l p d v = some_below (G.degree v) (λ i. is_near p d (slice_index_or l (G.successor v i) blank))

-- a record of a grade below p, or of grade p and a distance below d; each successor's
abbrev pub is_behind : ℕ → ℕ → Outcome → Bool
is_behind p d o = nat_lt o.grade p || is_near p d o

abbrev pub all_behind : Game → List Outcome → ℕ → ℕ → ℕ → Bool
all_behind G l p d v = all_below (G.degree v) (λ i. is_behind p d (slice_index_or l (G.successor v i) blank))

-- by the records, v has no grade yet and gets distance d at grade p
abbrev pub joins_now : Game → List Outcome → ℕ → ℕ → ℕ → Bool
joins_now G l p d v =
    ((get_or l v blank).grade == 65535)
    && cond (d == 0) (level G v == p)
    (cond (same (G.owner v) (favoured G p)) (some_near G l p d v) (all_behind G l p d v))

-- the vertices that have no grade yet
abbrev pub Open : Game → List Outcome → ℕ → Type 0
Open G l v = (v < G.count) × ((get_or l v blank).grade ≡ 65535)

-- the level of v while it is open, else a number past all levels
abbrev pub open_level : Game → List Outcome → ℕ → ℕ
open_level G l v = cond ((get_or l v blank).grade == 65535) (level G v) 65535

-- the least level of an open vertex, if there is one
abbrev pub LeastOpen : Game → List Outcome → Option ℕ → Type 0
LeastOpen G l None = (v : ℕ) → Open G l v → ⊥
LeastOpen G l (Some p) = ((v : ℕ) → Open G l v → p ≤ level G v) × ((v : ℕ) × Open G l v × (level G v ≡ p))

-- the next grade, or a number past all grades
abbrev pub or_end : Option ℕ → ℕ
or_end None = 65535
or_end (Some p) = p
