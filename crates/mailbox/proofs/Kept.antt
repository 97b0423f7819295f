-- The whole promise is kept.
use Rattle.std.proofs.Common.{◌≡◌, ℕ, List, refl, ap, subst}
use Rattle.parity.proofs.Determined as theorem
use Rattle.game.specs.declared.outcome.Outcome.{Outcome}
use Rattle.draft.specs.Calls.{Outcome as Called}
use Rattle.draft.proofs.Histories.{histories_keep}
use Rattle.draft.proofs.TurnLaws.{heeded}
use Rattle.runs.proofs.Turned.{turning}
use Rattle.word.specs.Answer.{accept_answer}
use Rattle.word.specs.TurnOpposes.{opposed}
use Rattle.word.proofs.Judging.{judged_answer}
use Rattle.word.proofs.Opposed.{turn_opposes}
use Rattle.contain.specs.Containing.{YesIsSafe}
use Rattle.contain.proofs.Judging.{right_answer}
use Rattle.contain.proofs.Exchanging.{exchange_of_answers}
use Rattle.mailbox.specs.Promise.{Promise}
use Rattle.mailbox.proofs.Arenas.{arena_determined, word_arena, pair_arena}
use Rattle.mailbox.proofs.AnyWord.{any_word}

pub promise : Promise
promise a b ha hb =
    let wa = histories_keep a ha in
    let wb = histories_keep b hb in
    let right = λ (p q : ℕ) (records : List Outcome). right_answer a p b q records wa wb _ _ refl in
    record {
      kept = (wa, wb);
      determinacy = theorem.determinacy;
      arenas = arena_determined;
      word_arenas = word_arena a wa;
      pair_arenas = pair_arena a b wa wb;
      accepting = λ q prefix period records. judged_answer a q prefix period records wa _ _ refl;
      any_word = any_word a wa;
      opposite = λ a' turn q prefix period before after same.
          subst (λ t. (accept_answer t q prefix period after).0 ≡ opposed (accept_answer a q prefix period before).0) (ap (λ (o : Called (Unit {0})). o.1) turn)
          (turn_opposes a wa (ap (λ (o : Called (Unit {0})). o.0) turn) q prefix period before after same);
      turns = heeded a;
      opposite_runs = λ c prefix period r q q<. (let t = turning a wa c prefix period r q q< in (t.1, t.2));
      planned = λ p q records. (right p q records).0;
      safe = λ p q records yes'. subst (λ r. YesIsSafe r a p b q) yes' (right p q records).1;
      exchanged = λ a' b' turn turn'. exchange_of_answers a b a' b' wa wb turn turn';
    }
