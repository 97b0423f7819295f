-- The answer is contain's, and the promise holds of all drafts.
use Rattle.mailbox.proofs.Kept.{promise}
use Rattle.mailbox.proofs.judging.judge.Goals as goal

pub returns : goal.returns
returns c = record { answer = c.contain.ensures.answer; promise = promise }
