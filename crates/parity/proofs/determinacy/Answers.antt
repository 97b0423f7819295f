use Rattle.parity.proofs.Determined as theorem
use Rattle.parity.proofs.determinacy.Goals as goal

pub returns : goal.returns
returns c = theorem.determinacy
