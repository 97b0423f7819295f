use Rattle.parity.proofs.Mirrors as theorem
use Rattle.parity.proofs.mirrored.Goals as goal

pub returns : goal.returns
returns c = theorem.mirrored
