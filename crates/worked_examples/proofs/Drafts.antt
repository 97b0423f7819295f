-- The draft files: what they make, that it is well formed, and that `branching` turns over.
use Rattle.std.proofs.Common.{◌≡◌, Ok, refl}
use Rattle.parity.specs.Below.{all_below}
use Rattle.draft.specs.Calls.{turned, can_turn, turn_over}
use Rattle.draft.specs.History.{new, then, load}
use Rattle.draft.specs.WellFormed.{WellFormed}
use Rattle.draft.proofs.Histories.{histories_keep}
use Rattle.worked_examples.specs.Drafts.{branching_bytes, branching, mailbox_bytes, mailbox, posted_bytes, posted}
use Rattle.worked_examples.specs.Answered.{Makes}

pub branching_made : Makes 1 branching_bytes branching
branching_made before = refl

pub mailbox_made : Makes 2 mailbox_bytes mailbox
mailbox_made before = refl

pub posted_made : Makes 2 posted_bytes posted
posted_made before = refl

-- what a file makes is well formed
pub branching_formed : WellFormed branching
branching_formed = histories_keep branching (then (load 1 branching_bytes) new)

pub mailbox_formed : WellFormed mailbox
mailbox_formed = histories_keep mailbox (then (load 2 mailbox_bytes) new)

pub posted_formed : WellFormed posted
posted_formed = histories_keep posted (then (load 2 posted_bytes) new)

pub branching_turns : turn_over branching ≡ (Ok tt, turned branching)
unfolding can_turn all_below
branching_turns = refl
