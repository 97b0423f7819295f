-- The theorem that the contract of `accepting` names.
use Rattle.runs.proofs.Accepted as theorem
use Rattle.runs.proofs.accepting.Goals as goal

pub returns : goal.returns
returns c = theorem.accepting
