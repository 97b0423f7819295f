-- A byte 0 that no kind has names no call.
use Rattle.std.proofs.Common.{arith}
use Rattle.std.proofs.lemmas.Grind.{common_steps}
use Rattle.draft.specs.declared.kind.Kind.TheVariants.{State, Leaf, Either, Both, Rule, Regrade, Turn}
use Rattle.draft.proofs.records.decode.Goals as goal

pub returns-in_err-try_from : goal.returns-in_err-try_from
returns-in_err-try_from c =
    let h = c.in_err-try_from.ensures.1 in
    grind (arith, common_steps, h State, h Leaf, h Either, h Both, h Rule, h Regrade, h Turn)
