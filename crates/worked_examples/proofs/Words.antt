-- The words of the worked examples, by the tables of their games.
use Rattle.std.proofs.Common.{ℕ, ◌<◌, [], ◌∷◌, refl, lit<}
use Rattle.parity.specs.Below.{some_below, all_below}
use Rattle.parity.specs.Game.{favoured}
use Rattle.parity.specs.declared.player.Player.TheVariants.{Zero, One}
use Rattle.parity.proofs.Check.{fits, fits_all, sound_all}
use Rattle.parity.proofs.Tabled.{Tabled, tabled}
use Rattle.draft.specs.Automaton.{is_ruled, is_complete}
use Rattle.draft.specs.Calls.{turned}
use Rattle.runs.specs.WordGame.{word_game}
use Rattle.word.specs.Asking.{letters_known}
use Rattle.word.specs.declared.verdict.Verdict.TheVariants.{Rejected, Accepted}
use Rattle.worked_examples.specs.Drafts.{branching, post, take, mailbox}
use Rattle.worked_examples.specs.Answered.{Answers}
use Rattle.worked_examples.proofs.Drafts.{branching_formed, branching_turns}
use Rattle.worked_examples.proofs.Verdicts.{answers_by, turned_by}

branching_tabled : (v : ℕ) → v < 6 → Tabled (word_game branching [] (0 ∷ [])) (2 ∷ 1 ∷ 2 ∷ 1 ∷ 2 ∷ 1 ∷ []) (0 ∷ 0 ∷ 1 ∷ 1 ∷ 2 ∷ 2 ∷ []) v
unfolding sound_all fits_all fits some_below all_below favoured
branching_tabled = tabled (word_game branching [] (0 ∷ [])) _ _ refl refl

-- post and take in turn
turns_tabled : (v : ℕ) → v < 12 →
    Tabled (word_game mailbox [] (post ∷ take ∷ [])) (2 ∷ 1 ∷ 1 ∷ 1 ∷ 2 ∷ 1 ∷ 1 ∷ 2 ∷ 1 ∷ 2 ∷ 1 ∷ 1 ∷ []) (0 ∷ 2 ∷ 0 ∷ 2 ∷ 0 ∷ 0 ∷ 3 ∷ 1 ∷ 1 ∷ 1 ∷ 3 ∷ 1 ∷ []) v
unfolding sound_all fits_all fits some_below all_below favoured
turns_tabled = tabled (word_game mailbox [] (post ∷ take ∷ [])) _ _ refl refl

-- one post, then takes
takes_tabled : (v : ℕ) → v < 12 →
    Tabled (word_game mailbox (post ∷ []) (take ∷ [])) (1 ∷ 1 ∷ 1 ∷ 1 ∷ 1 ∷ 1 ∷ 1 ∷ 1 ∷ 1 ∷ 1 ∷ 1 ∷ 1 ∷ []) (6 ∷ 2 ∷ 0 ∷ 2 ∷ 4 ∷ 0 ∷ 3 ∷ 5 ∷ 1 ∷ 3 ∷ 5 ∷ 1 ∷ []) v
unfolding sound_all fits_all fits some_below all_below favoured
takes_tabled = tabled (word_game mailbox (post ∷ []) (take ∷ [])) _ _ refl refl

pub branching_answers : Answers branching 0 [] (0 ∷ []) Accepted × Answers branching 1 [] (0 ∷ []) Rejected
unfolding is_complete is_ruled letters_known all_below favoured
branching_answers = (
  answers_by branching 0 [] (0 ∷ []) Zero refl (branching_tabled 0 (lit< tt)).winner_at,
  answers_by branching 1 [] (0 ∷ []) One refl (branching_tabled 1 (lit< tt)).winner_at,
)

pub turned_answers : Answers (turned branching) 0 [] (0 ∷ []) Rejected × Answers (turned branching) 1 [] (0 ∷ []) Accepted
turned_answers = (
  turned_by branching 0 [] (0 ∷ []) Accepted branching_formed branching_turns branching_answers.0,
  turned_by branching 1 [] (0 ∷ []) Rejected branching_formed branching_turns branching_answers.1,
)

pub mailbox_answers : Answers mailbox 0 [] (post ∷ take ∷ []) Accepted × Answers mailbox 0 (post ∷ []) (take ∷ []) Rejected
unfolding is_complete is_ruled letters_known all_below favoured
mailbox_answers = (
  answers_by mailbox 0 [] (post ∷ take ∷ []) Zero refl (turns_tabled 0 (lit< tt)).winner_at,
  answers_by mailbox 0 (post ∷ []) (take ∷ []) One refl (takes_tabled 0 (lit< tt)).winner_at,
)
