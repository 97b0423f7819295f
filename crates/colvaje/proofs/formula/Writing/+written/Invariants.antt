-- The node number falls at each step down.
use Rattle.std.proofs.Common.{◌+◌, ◌*◌}
use Rattle.colvaje.proofs.formula.Writing.+written.Given as goal

abbrev pub decreases-child : goal.decreases-child
decreases-child g l = 2 * l.node + 1

abbrev pub decreases-node : goal.decreases-node
decreases-node g l = 2 * l.node
