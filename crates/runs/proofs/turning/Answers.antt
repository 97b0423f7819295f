-- The theorem that the contract of `turning` names.
use Rattle.runs.proofs.Turned as theorem
use Rattle.runs.proofs.turning.Goals as goal

pub returns : goal.returns
returns c = theorem.turning
