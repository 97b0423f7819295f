-- The theorem that the contract of `pair_bounds` names.
use Rattle.inclusion.proofs.PairBounded as theorem
use Rattle.inclusion.proofs.pair_bounds.Goals as goal

pub returns : goal.returns
returns c = theorem.pair_bounded
