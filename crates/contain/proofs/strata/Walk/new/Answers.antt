-- A walk starts with no marks.
use Rattle.draft.specs.Meaning.{meaning}
use Rattle.contain.proofs.Walks.{none_marked}
use Rattle.contain.proofs.strata.Walk.new.Goals as goal

pub invariant_of-result : goal.invariant_of-result
invariant_of-result c = record { marked_low = none_marked (meaning c.args.draft.now) c.args.limit 128 }
