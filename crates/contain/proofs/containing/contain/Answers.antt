-- The record of the pair that was asked about gives the answer, which is right; and the theorem holds of all answers.
use Rattle.std.proofs.Common.{◌≡◌, ◌+◌, ◌*◌, get_or, Ok, sym, ap, ◌∙◌, arith}
use Rattle.game.specs.Outcomes.{blank}
use Rattle.draft.specs.Meaning.{meaning}
use Rattle.draft.proofs.Drafts.{draft_well_formed}
use Rattle.contain.specs.Containing.{Answer, verdict_of, contain_answer}
use Rattle.contain.proofs.Judging.{same_game, solved_by, room, right_answer}
use Rattle.contain.proofs.Exchanging.{exchange_of_answers}
use Rattle.contain.proofs.containing.contain.Goals as goal

pub returns-in_err-ask-clause-exchanged : goal.returns-in_err-ask-clause-exchanged
returns-in_err-ask-clause-exchanged c = exchange_of_answers

pub returns-in_err-solve-clause-exchanged : goal.returns-in_err-solve-clause-exchanged
returns-in_err-solve-clause-exchanged c = exchange_of_answers

pub bounds-out-asked : goal.bounds-out-asked
bounds-out-asked c =
    let d = c.args.first in
    let e = c.args.second in
    let at = ap (λ n. d.state * n + e.state) c.state_count.ensures in
    let inside = room (meaning d.draft.now) d.state (meaning e.draft.now) e.state c.args.out.now (draft_well_formed d.draft.now) (draft_well_formed e.draft.now) (sym c.in_ok-ask.ensures) _ (c.in_ok-solve.ensures.solved ∙ same_game c.args.out.now c.make-arena.ensures) in
    omega arith

pub returns : goal.returns
returns c =
    let d = c.args.first in
    let e = c.args.second in
    let a = meaning d.draft.now in
    let b = meaning e.draft.now in
    let wa = draft_well_formed d.draft.now in
    let wb = draft_well_formed e.draft.now in
    let at = ap (λ n. d.state * n + e.state) c.state_count.ensures in
    let answer : ◌≡◌ {A = Answer} (Ok c.from.result, c.solve.new.out) (contain_answer a d.state b e.state c.args.out.now) =
    ap (λ v. (Ok v, c.solve.new.out)) (c.from.ensures ∙ ap (λ k. verdict_of (get_or c.solve.new.out k blank).winner) at)
    ∙ solved_by a d.state b e.state c.args.out.now wa wb (sym c.in_ok-ask.ensures) _ (c.in_ok-solve.ensures.solved ∙ same_game c.args.out.now c.make-arena.ensures) in
    let right = right_answer a d.state b e.state c.args.out.now wa wb _ _ answer in
    record { answer = answer; planned = right.0; safe = right.1; exchanged = exchange_of_answers }
