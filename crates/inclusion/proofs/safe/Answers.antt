-- The theorem that the contract of `safe` names.
use Rattle.inclusion.proofs.Contains as theorem
use Rattle.inclusion.proofs.safe.Goals as goal

pub returns : goal.returns
returns c = theorem.contained
