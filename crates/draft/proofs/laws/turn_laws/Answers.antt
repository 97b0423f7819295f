-- The laws of turning.
use Rattle.draft.proofs.TurnLaws as it
use Rattle.draft.proofs.laws.turn_laws.Goals as goal

pub returns : goal.returns
returns c = (it.turns_cancel, it.turn_keeps_complete)
