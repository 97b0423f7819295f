-- A grading by its table: for worked examples, where both tests compute.
use Rattle.std.proofs.Common.{◌≡◌, ℕ, ◌<◌, true, List, get_or, ap}
use Rattle.parity.specs.Game.{Game, favoured}
use Rattle.parity.specs.Grading.{grade, distance, winner}
use Rattle.parity.specs.Move.{move, move_by}
use Rattle.parity.proofs.Check.{fits_all, certificate_from, sound_all, sound_from}
use Rattle.parity.proofs.Unique.{grade_is, distance_is}
use Rattle.parity.proofs.Moves.{move_same}

abbrev pub entry : List ℕ → ℕ → ℕ
entry table v = get_or table v 0

-- vertex v has what the tables of grades and of distances say
pub record Tabled (G : Game) (gs ds : List ℕ) (v : ℕ) : Type 0 where
  pub grade_at : grade G v ≡ entry gs v
  pub winner_at : winner G v ≡ favoured G (entry gs v)
  pub distance_at : distance G v ≡ entry ds v
  pub move_at : move G v ≡ move_by G (entry gs) (entry ds) v

pub tabled : (G : Game) (gs ds : List ℕ) → sound_all G ≡ true → fits_all G (entry gs) (entry ds) ≡ true → (v : ℕ) → v < G.count → Tabled G gs ds v
tabled G gs ds s t v v< =
    let sound = sound_from G s in
    let table = certificate_from G (entry gs) (entry ds) t in
    let eg = grade_is G sound (entry gs) (entry ds) table in
    let ed = distance_is G sound (entry gs) (entry ds) table in
    record { grade_at = eg v v<; winner_at = ap (favoured G) (eg v v<); distance_at = ed v v<; move_at = move_same G sound _ _ _ _ eg ed v v< }
