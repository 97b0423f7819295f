-- The record of a vertex in a stored arena, and the questions that are asked about it.
use Rattle.std.specs.Prelude.{ℕ, ◌+◌, ◌*◌, ◌/◌, Bool, true, false, cond, ◌&&◌, List, [], ◌∷◌, length, Some, None, Option, ◌==◌, nat_le, nat_lt, slice_index}
use Rattle.refusal.specs.declared.Refusal.{Refusal}
use Rattle.refusal.specs.declared.Refusal.TheVariants.{VertexOwner, VertexPriority, VertexTarget}
use Rattle.arena.specs.declared.stored.record.Record.{Record}

-- the number in two bytes, the low one first
abbrev pub word : List ℕ → ℕ → ℕ
word b i = slice_index b i + 256 * slice_index b (i + 1)

-- record v: the owner in byte 0, zero in byte 1, the priority in bytes 2 and 3, the two targets in bytes 4 to 7
abbrev pub owner_byte : List ℕ → ℕ → ℕ
owner_byte b v = slice_index b (8 * v)

abbrev pub zero_byte : List ℕ → ℕ → ℕ
zero_byte b v = slice_index b (8 * v + 1)

abbrev pub stored_priority : List ℕ → ℕ → ℕ
stored_priority b v = word b (8 * v + 2)

abbrev pub target : List ℕ → ℕ → ℕ → ℕ
target b v i = word b (8 * v + 4 + 2 * i)

-- the questions about a record, in their order
abbrev pub answered : Bool → Bool → Bool → Option Refusal
answered owner priority targets =
    cond owner (cond priority (cond targets None (Some VertexTarget)) (Some VertexPriority)) (Some VertexOwner)

-- why record v is none of an arena of n vertices, if so
abbrev pub record_refusal : List ℕ → ℕ → ℕ → Option Refusal
record_refusal b n v =
    answered (nat_le (owner_byte b v) 1 && zero_byte b v == 0) (nat_le (stored_priority b v) 9999) (nat_lt (target b v 0) n && nat_lt (target b v 1) n)

abbrev pub is_none : Option Refusal → Bool
is_none None = true
is_none (Some r) = false

-- record v as the program reads it
abbrev pub record_in : List ℕ → ℕ → Record
record_in b v = record { owner = owner_byte b v; zero = zero_byte b v; priority = stored_priority b v; targets = target b v 0 ∷ target b v 1 ∷ [] }

-- record v, if the bytes have so many records
abbrev pub record_at : List ℕ → ℕ → Option Record
record_at b v = cond (nat_lt v (length b / 8)) (Some (record_in b v)) None

-- why a record is none of an arena of n vertices, if so
abbrev pub fault_of : Record → ℕ → Option Refusal
fault_of r n =
    answered (nat_le r.owner 1 && r.zero == 0) (nat_le r.priority 9999) (nat_lt (slice_index r.targets 0) n && nat_lt (slice_index r.targets 1) n)
