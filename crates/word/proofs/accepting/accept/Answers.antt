use Rattle.std.proofs.Common.{Ok, sym, ap, ◌∙◌}
use Rattle.draft.specs.Meaning.{meaning}
use Rattle.draft.proofs.Drafts.{draft_well_formed}
use Rattle.word.proofs.Judging.{judged_answer, same_game, solved_by}
use Rattle.word.proofs.Opposed.{turn_opposes}
use Rattle.word.proofs.accepting.accept.Goals as goal

pub returns-in_err-ask-clause-turned : goal.returns-in_err-ask-clause-turned
returns-in_err-ask-clause-turned c = turn_opposes

pub returns-in_err-solve-clause-turned : goal.returns-in_err-solve-clause-turned
returns-in_err-solve-clause-turned c = turn_opposes

pub returns : goal.returns
returns c =
    let start = c.args.start in
    let word = c.args.word in
    let a = meaning start.draft.now in
    let formed = draft_well_formed start.draft.now in
    let done = c.in_ok-solve.ensures.solved ∙ same_game c.args.out.now c.make-arena.ensures in
    let solved = solved_by a start.state word.prefix.now word.period.now c.args.out.now formed (sym c.in_ok-ask.ensures) _ done in
    let answer = ap (λ v. (Ok v, c.solve.new.out)) c.from.ensures ∙ solved in
    record {
      answer = answer;
      judged = judged_answer a start.state word.prefix.now word.period.now c.args.out.now formed _ _ answer;
      turned = turn_opposes;
    }
