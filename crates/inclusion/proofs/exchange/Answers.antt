-- The theorem that the contract of `exchange` names.
use Rattle.inclusion.proofs.Exchanges as theorem
use Rattle.inclusion.proofs.exchange.Goals as goal

pub returns : goal.returns
returns c = theorem.exchanged
