-- One more node is turned with each turn of the loop.
use Rattle.std.proofs.Common.{rules}
use Rattle.std.proofs.lemmas.List.Edits.{map_over_more}
use Rattle.draft.specs.Calls.{dual}
use Rattle.draft.proofs.draft.priorities.turn_nodes.Goals as goal

pub loop-n-preserved : goal.loop-n-preserved
loop-n-preserved c = search (rules, map_over_more dual)
