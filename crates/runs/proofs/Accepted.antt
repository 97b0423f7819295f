-- The word game decides acceptance.
use Rattle.std.proofs.Common.{◌≡◌, ℕ, ◌<◌, List, sym, ◌∙◌, arith}
use Rattle.parity.specs.Grading.{winner}
use Rattle.parity.specs.declared.player.Player.TheVariants.{Zero}
use Rattle.draft.specs.Automaton.{Automaton, state_count}
use Rattle.runs.specs.Run.{Accepts}
use Rattle.runs.specs.Word.{letter, Readable}
use Rattle.runs.specs.WordGame.{state_vertex, state_at, word_moves}
use Rattle.runs.specs.Accepting.{word_winner, Accepting}
use Rattle.runs.proofs.Folds.{fold}
use Rattle.runs.proofs.Formed.{Formed, formed}
use Rattle.runs.proofs.Insides.{inside_winner}
use Rattle.runs.proofs.RunWins.{run_wins}
use Rattle.runs.proofs.WinRuns.{win_runs}
use Rattle.runs.proofs.WordGames.{state_in, word_sound, word_arena}

-- a state at step 0 has its own number
pub start_is : (s q : ℕ) → state_vertex s 0 q ≡ q
start_is s q = omega arith

pub start_in : (a : Automaton) → Formed a → (prefix period : List ℕ) → Readable a.letters prefix period → (q : ℕ) → q < state_count a →
    state_at a prefix period 0 q < (word_moves a prefix period).count
start_in a formed prefix period readable q = state_in formed readable 0 q (let h = readable.some in omega arith)

module _ {a : Automaton} (formed : Formed a) {prefix period : List ℕ} (readable : Readable a.letters prefix period) (q : ℕ) (q< : q < state_count a) where
  pub same_winner : word_winner a prefix period q ≡ winner (word_moves a prefix period) (state_at a prefix period 0 q)
  same_winner = inside_winner (word_sound formed readable) (state_at a prefix period 0 q) (start_in a formed prefix period readable q q<)

  pub accepted_wins : Accepts a (letter prefix period) q → word_winner a prefix period q ≡ Zero
  unfolding fold
  accepted_wins acc = same_winner ∙ run_wins (word_arena formed readable) q q< acc

  pub won_accepts : word_winner a prefix period q ≡ Zero → Accepts a (letter prefix period) q
  unfolding fold
  won_accepts win = win_runs (word_arena formed readable) q q< (sym same_winner ∙ win)

pub accepting : Accepting
accepting a w c prefix period r q q< = let f = formed a w c in (accepted_wins f r q q<, won_accepts f r q q<)
