-- The number of each refusal.
use Rattle.std.specs.Prelude.{ℕ}
use Rattle.refusal.specs.declared.Refusal.{Refusal}
use Rattle.refusal.specs.declared.Refusal.TheVariants.{Letters, Priority, States, NoState, Nodes, NoNode, NoLetter, Top, Length, RecordKind, RecordUnused, Incomplete, Word, Room, Alphabets, NotStratified, VertexCount, VertexOwner, VertexPriority, VertexTarget}

abbrev pub number_of : Refusal → ℕ
number_of Letters = 1
number_of Priority = 2
number_of States = 3
number_of NoState = 4
number_of Nodes = 5
number_of NoNode = 6
number_of NoLetter = 7
number_of Top = 8
number_of Length = 9
number_of RecordKind = 10
number_of RecordUnused = 11
number_of Incomplete = 12
number_of Word = 13
number_of Room = 14
number_of Alphabets = 15
number_of NotStratified = 16
number_of VertexCount = 17
number_of VertexOwner = 18
number_of VertexPriority = 19
number_of VertexTarget = 20
