-- The stored arenas by their tables of grades and distances.
use Rattle.std.proofs.Common.{◌≡◌, ℕ, ◌<◌, [], ◌∷◌, Ok, refl, ap, ◌∙◌, lit<}
use Rattle.parity.specs.Below.{some_below, all_below, least}
use Rattle.parity.specs.Player.{other}
use Rattle.parity.specs.Game.{favoured}
use Rattle.parity.specs.Grading.{winner}
use Rattle.parity.specs.Move.{move, move_by}
use Rattle.parity.specs.Mirror.{mirror}
use Rattle.parity.specs.declared.player.Player.TheVariants.{Zero, One}
use Rattle.parity.proofs.Check.{fits, fits_all, sound_all, sound_from}
use Rattle.parity.proofs.Tabled.{Tabled, tabled}
use Rattle.parity.proofs.Mirrors.{mirrored}
use Rattle.arena.specs.Stored.{asked, first_fault}
use Rattle.worked_examples.specs.Arenas.{two_bytes, three_bytes, drawn_bytes, two, three, drawn}

pub two_asked : asked two_bytes ≡ Ok 2
unfolding first_fault
two_asked = refl

pub three_asked : asked three_bytes ≡ Ok 3
unfolding first_fault
three_asked = refl

pub drawn_asked : asked drawn_bytes ≡ Ok 3
unfolding first_fault
drawn_asked = refl

pub two_tabled : (v : ℕ) → v < 2 → Tabled two (2 ∷ 3 ∷ []) (0 ∷ 0 ∷ []) v
unfolding sound_all fits_all fits some_below all_below favoured
two_tabled = tabled two _ _ refl refl

pub three_tabled : (v : ℕ) → v < 3 → Tabled three (2 ∷ 3 ∷ 1 ∷ []) (0 ∷ 0 ∷ 0 ∷ []) v
unfolding sound_all fits_all fits some_below all_below favoured
three_tabled = tabled three _ _ refl refl

pub drawn_tabled : (v : ℕ) → v < 3 → Tabled drawn (0 ∷ 0 ∷ 0 ∷ []) (2 ∷ 0 ∷ 1 ∷ []) v
unfolding sound_all fits_all fits some_below all_below favoured
drawn_tabled = tabled drawn _ _ refl refl

pub two_won : (winner two 0 ≡ Zero) × (winner two 1 ≡ One)
unfolding favoured
two_won = ((two_tabled 0 (lit< tt)).winner_at, (two_tabled 1 (lit< tt)).winner_at)

pub two_mirrored : (winner (mirror two) 0 ≡ One) × (winner (mirror two) 1 ≡ Zero)
unfolding sound_all all_below
two_mirrored =
    let sound = sound_from two refl in
    ((mirrored two sound 0 (lit< tt)).2 ∙ ap other two_won.0, (mirrored two sound 1 (lit< tt)).2 ∙ ap other two_won.1)

pub three_won : (winner three 0 ≡ Zero) × (winner three 1 ≡ One) × (winner three 2 ≡ One)
unfolding favoured
three_won = ((three_tabled 0 (lit< tt)).winner_at, (three_tabled 1 (lit< tt)).winner_at, (three_tabled 2 (lit< tt)).winner_at)

pub three_moves : (move three 0 ≡ 0) × (move three 1 ≡ 1) × (move three 2 ≡ 0)
unfolding move_by least favoured
three_moves = ((three_tabled 0 (lit< tt)).move_at, (three_tabled 1 (lit< tt)).move_at, (three_tabled 2 (lit< tt)).move_at)

pub drawn_moves : (move drawn 0 ≡ 0) × (move drawn 1 ≡ 0) × (move drawn 2 ≡ 0)
unfolding move_by least favoured
drawn_moves = ((drawn_tabled 0 (lit< tt)).move_at, (drawn_tabled 1 (lit< tt)).move_at, (drawn_tabled 2 (lit< tt)).move_at)
