-- The two players. The type is the code's.
use Rattle.std.specs.Prelude.{ℕ, Bool, true, false}
use Rattle.parity.specs.declared.player.Player.{Player}
use Rattle.parity.specs.declared.player.Player.TheVariants.{Zero, One}

-- the opponent
abbrev pub other : Player → Player
other Zero = One
other One = Zero

abbrev pub numeral : Player → ℕ
numeral Zero = 0
numeral One = 1

abbrev pub same : Player → Player → Bool
same Zero Zero = true
same Zero One = false
same One Zero = false
same One One = true
