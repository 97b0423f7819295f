-- The theorem that the contract of `stratified_tested` names.
use Rattle.inclusion.proofs.Tested as theorem
use Rattle.inclusion.proofs.stratified_tested.Goals as goal

pub returns : goal.returns
returns c = theorem.stratified_tested
