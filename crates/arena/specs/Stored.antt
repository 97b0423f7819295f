-- The stored arena: the questions about its bytes, and the game that they are.
use Rattle.std.specs.Prelude.{ℕ, zero, suc, ◌/◌, ◌%◌, cond, ◌&&◌, List, length, Some, None, Ok, Err, Option, Result, ◌==◌, nat_le, nat_lt}
use Rattle.refusal.specs.declared.Refusal.{Refusal}
use Rattle.refusal.specs.declared.Refusal.TheVariants.{Length, VertexCount}
use Rattle.parity.specs.Game.{Game}
use Rattle.parity.specs.declared.player.Player.{Player}
use Rattle.parity.specs.declared.player.Player.TheVariants.{Zero, One}
use Rattle.arena.specs.Known.{known}
use Rattle.arena.specs.Records.{owner_byte, stored_priority, target, record_refusal}
use Rattle.arena.specs.declared.stored.StoredFault.{StoredFault}
use Rattle.arena.specs.declared.stored.RecordNumber.{RecordNumber}

-- the fault of record v, where no earlier one has a fault
abbrev pub first_of : Option StoredFault → Option Refusal → ℕ → Option StoredFault
first_of (Some fault) refusal v = Some fault
first_of None (Some r) v = Some (record { refusal = r; place = Some v })
first_of None None v = None

-- the first fault among the first v records of an arena of n vertices
unfoldable pub first_fault : List ℕ → ℕ → ℕ → Option StoredFault
first_fault b n zero = None
first_fault b n (suc v) = first_of (first_fault b n v) (record_refusal b n v) v

abbrev pub unless : Option StoredFault → ℕ → Result ℕ StoredFault
unless (Some fault) n = Err fault
unless None n = Ok n

-- the number of vertices of the arena in the bytes, or the first question whose answer is no
abbrev pub asked : List ℕ → Result ℕ StoredFault
asked b =
    cond (length b % 8 == 0)
    (cond (nat_le 1 (length b / 8) && nat_le (length b / 8) 4096)
    (unless (first_fault b (length b / 8) (length b / 8)) (length b / 8))
    (Err (record { refusal = VertexCount; place = None })))
    (Err (record { refusal = Length; place = None }))

abbrev pub player : ℕ → Player
player x = cond (x == 0) Zero One

-- the game of n records: even side 0, two moves at each vertex
abbrev pub stored_game : List ℕ → ℕ → Game
stored_game b n = record {
  count = n;
  even_side = Zero;
  owner = λ v. cond (nat_lt v n) (player (owner_byte b v)) Zero;
  priority = λ v. cond (nat_lt v n) (stored_priority b v) 0;
  degree = λ v. cond (nat_lt v n) 2 0;
  successor = λ v i. cond (nat_lt v n) (cond (nat_lt i 2) (target b v i) 0) 0;
}

-- the place of a vertex is its record's number
abbrev pub record_number : ℕ → ℕ → RecordNumber
record_number n v = record { number = known n v }
