-- One more priority is raised with each turn of the loop, and was below 999.
use Rattle.std.proofs.Common.{arith, rules}
use Rattle.std.proofs.lemmas.Grind.{common_steps}
use Rattle.std.proofs.lemmas.List.Edits.{map_over_more}
use Rattle.draft.specs.Calls.{raised}
use Rattle.draft.proofs.Keeps.{can_raise}
use Rattle.draft.proofs.draft.priorities.raise_states.Goals as goal

pub overflow_add-s : goal.overflow_add-s
overflow_add-s c = grind (arith, common_steps, can_raise)

pub loop-s-preserved : goal.loop-s-preserved
loop-s-preserved c = search (rules, map_over_more raised)
