-- The node number falls at each call.
use Rattle.contain.proofs.strata.Walk.+passes.Given as goal

abbrev pub decreases-passes : goal.decreases-passes
decreases-passes l = l.node
