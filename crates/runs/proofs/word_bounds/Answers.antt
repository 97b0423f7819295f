-- The theorem that the contract of `word_bounds` names.
use Rattle.runs.proofs.WordBounded as theorem
use Rattle.runs.proofs.word_bounds.Goals as goal

pub returns : goal.returns
returns c = theorem.word_bounded
