-- The whole promise, from the histories of two drafts to what is answered about their words.
use Rattle.std.specs.Prelude.{◌≡◌, ℕ, ◌<◌, true, List, length, Ok, Result}
use Rattle.parity.specs.declared.player.Player.TheVariants.{Zero}
use Rattle.parity.specs.Game.{Game}
use Rattle.parity.specs.Play.{Plan, Winning}
use Rattle.parity.specs.Determinacy.{Determined, Determinacy}
use Rattle.arena.specs.Bounds.{Bounds}
use Rattle.game.specs.declared.outcome.Outcome.{Outcome}
use Rattle.draft.specs.Automaton.{Automaton, state_count, is_complete}
use Rattle.draft.specs.Calls.{Outcome as Called, turned, turn_over}
use Rattle.draft.specs.History.{History}
use Rattle.draft.specs.WellFormed.{WellFormed}
use Rattle.runs.specs.Run.{Accepts}
use Rattle.runs.specs.Word.{letter, Readable}
use Rattle.runs.specs.WordGame.{state_vertex, word_game}
use Rattle.word.specs.Asking.{asked as word-asked}
use Rattle.word.specs.Answer.{accept_answer, Judged}
use Rattle.word.specs.TurnOpposes.{opposed}
use Rattle.inclusion.specs.PairGame.{pair_game}
use Rattle.inclusion.specs.Safe.{Contained as Contained-in}
use Rattle.contain.specs.declared.fault.Containment.{Containment}
use Rattle.contain.specs.declared.fault.Containment.TheVariants.{Contained}
use Rattle.contain.specs.declared.fault.ContainFault.{ContainFault}
use Rattle.contain.specs.Asking.{asked as pair-asked}
use Rattle.contain.specs.Containing.{contain_answer, Planned}
use Rattle.contain.specs.ExchangeOfAnswers.{said}

-- player 0 has a plan with which she wins every play from v
abbrev pub ZeroWins : Game → ℕ → Type 0
ZeroWins G v = (plan : Plan) × Winning G Zero plan v

-- the turn of a is heeded, and leaves a'
abbrev pub TurnsTo : Automaton → Automaton → Type 0
TurnsTo a a' = ◌≡◌ {A = Called (Unit {0})} (turn_over a) (Ok tt, a')

-- What is promised of the automata a and b of two drafts. What names a alone holds of b too, with the two drafts exchanged.
pub record Promised (a b : Automaton) : Type 0 where
  -- both automata keep the bounds and the order of a draft
  pub kept : WellFormed a × WellFormed b
  -- every finite game with a move at each vertex is determined: from each vertex one player wins by the reported moves, and the
  -- other by no plan
  pub determinacy : Determinacy
  -- so is every arena, whoever made it
  pub arenas : (G : Game) → Bounds G → Determined G
  -- the word game of every question that accept takes on is an arena, and determined
  pub word_arenas : (q : ℕ) (prefix period : List ℕ) → word-asked a q prefix period ≡ Ok tt →
      Bounds (word_game a prefix period) × Determined (word_game a prefix period)
  -- the pair game of every question that contain takes on is an arena, and determined
  pub pair_arenas : (p q : ℕ) → pair-asked a p b q ≡ Ok tt → Bounds (pair_game a b) × Determined (pair_game a b)
  -- accept answers that a word is accepted only if there is an accepting run, and that it is rejected only if there is none
  pub accepting : (q : ℕ) (prefix period : List ℕ) (records : List Outcome) →
      Judged (accept_answer a q prefix period records).0 a (letter prefix period) q
  -- for repeating words of any length: player 0 wins the word game from a state exactly if there is an accepting run from it
  pub any_word : is_complete a ≡ true → (prefix period : List ℕ) → Readable a.letters prefix period → (q : ℕ) → q < state_count a →
      (Accepts a (letter prefix period) q → ZeroWins (word_game a prefix period) (state_vertex (state_count a) 0 q))
      × (ZeroWins (word_game a prefix period) (state_vertex (state_count a) 0 q) → Accepts a (letter prefix period) q)
  -- after a heeded turn accept gives the same refusal or the opposite verdict, with as many records
  pub opposite : (a' : Automaton) → TurnsTo a a' →
      (q : ℕ) (prefix period : List ℕ) (before after : List Outcome) → length after ≡ length before →
      (accept_answer a' q prefix period after).0 ≡ opposed (accept_answer a q prefix period before).0
  -- a heeded turn leaves the turned automaton
  pub turns : (a' : Automaton) → TurnsTo a a' → a' ≡ turned a
  -- for repeating words of any length: the turned automaton accepts exactly those that the automaton does not
  pub opposite_runs : is_complete a ≡ true → (prefix period : List ℕ) → Readable a.letters prefix period → (q : ℕ) → q < state_count a →
      (Accepts (turned a) (letter prefix period) q → Accepts a (letter prefix period) q → ⊥)
      × ((Accepts a (letter prefix period) q → ⊥) → Accepts (turned a) (letter prefix period) q)
  -- contain answers yes only if player 0 has a plan with which she wins the pair game from the pair of both states, and "not
  -- shown" only if she has none
  pub planned : (p q : ℕ) (records : List Outcome) → Planned (contain_answer a p b q records).0 a p b q
  -- a yes is safe: every repeating word of any length that a accepts from p is one that b accepts from q
  pub safe : (p q : ℕ) (records : List Outcome) →
      ◌≡◌ {A = Result Containment ContainFault} (contain_answer a p b q records).0 (Ok Contained) → Contained-in a b p q
  -- both turned, and exchanged with their states: contain gives the same verdict or the same refusal, with as many records
  pub exchanged : (a' b' : Automaton) → TurnsTo a a' → TurnsTo b b' →
      (p q : ℕ) (records records' : List Outcome) → length records' ≡ length records →
      said (contain_answer b' q a' p records').0 ≡ said (contain_answer a p b q records).0

-- Of two drafts it is assumed only that each was once new and has since been changed by begin, state, leaf, either, both, rule,
-- regrade, turn and load alone, in any order and number, heeded or refused.
abbrev pub Promise : Type 0
Promise = (a b : Automaton) → History a → History b → Promised a b
