-- The theorem that the contract of `step_is_rest` names.
use Rattle.runs.proofs.Rest as theorem
use Rattle.runs.proofs.step_is_rest.Goals as goal

pub returns : goal.returns
returns c = theorem.step_is_rest
