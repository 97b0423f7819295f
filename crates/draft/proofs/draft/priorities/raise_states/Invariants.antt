-- The priorities before the index are raised, and the others stand as they were.
use Rattle.std.proofs.Common.{◌≡◌, ◌++◌, map, take, drop}
use Rattle.draft.specs.Calls.{raised}
use Rattle.draft.proofs.draft.priorities.raise_states.Given as goal

abbrev pub invariant-loop-s : goal.invariant-loop-s
invariant-loop-s l = l.s-items ≡ map raised (take l.s-index l.fn.states) ++ drop l.s-index l.fn.states
