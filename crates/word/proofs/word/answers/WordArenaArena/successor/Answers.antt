use Rattle.std.proofs.Common.{arith}
use Rattle.std.proofs.lemmas.Nat.{div_below}
use Rattle.word.proofs.word.answers.WordArenaArena.successor.Goals as goal

pub from_node-requires : goal.from_node-requires
from_node-requires c = grind (arith, div_below)
