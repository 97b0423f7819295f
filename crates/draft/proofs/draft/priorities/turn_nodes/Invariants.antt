-- The nodes before the index are turned, and the others stand as they were.
use Rattle.std.proofs.Common.{◌≡◌, ◌++◌, map, take, drop}
use Rattle.draft.specs.Calls.{dual}
use Rattle.draft.proofs.draft.priorities.turn_nodes.Given as goal

abbrev pub invariant-loop-n : goal.invariant-loop-n
invariant-loop-n l = l.n-items ≡ map dual (take l.n-index l.fn.nodes) ++ drop l.n-index l.fn.nodes
