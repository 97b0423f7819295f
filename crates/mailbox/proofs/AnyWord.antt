-- For repeating words of any length, player 0 has a winning plan exactly if there is an accepting run.
use Rattle.std.proofs.Common.{◌≡◌, ℕ, ◌<◌, true, List}
use Rattle.parity.specs.declared.player.Player.TheVariants.{Zero}
use Rattle.parity.proofs.Plans.{wins_by_plan, plan_wins}
use Rattle.draft.specs.Automaton.{Automaton, state_count, is_complete}
use Rattle.draft.specs.WellFormed.{WellFormed}
use Rattle.runs.specs.Run.{Accepts}
use Rattle.runs.specs.Word.{letter, Readable}
use Rattle.runs.specs.WordGame.{state_vertex, word_moves, word_game}
use Rattle.runs.proofs.Accepted.{start_in, accepting}
use Rattle.runs.proofs.Formed.{formed}
use Rattle.runs.proofs.WordGames.{word_sound}
use Rattle.mailbox.specs.Promise.{ZeroWins}
use Rattle.runs.proofs.Insides.{inside_sound}

pub any_word : (a : Automaton) → WellFormed a → is_complete a ≡ true → (prefix period : List ℕ) → Readable a.letters prefix period → (q : ℕ) → q < state_count a → (Accepts a (letter prefix period) q → ZeroWins (word_game a prefix period) (state_vertex (state_count a) 0 q)) × (ZeroWins (word_game a prefix period) (state_vertex (state_count a) 0 q) → Accepts a (letter prefix period) q)
any_word a w c prefix period r q q< =
    let f = formed a w c in
    let sound = inside_sound (word_sound f r) in
    let v = state_vertex (state_count a) 0 q in
    let v< = start_in a f prefix period r q q< in
    let decides = accepting a w c prefix period r q q< in
    (λ run. wins_by_plan (word_game a prefix period) sound v v< Zero (decides.0 run), λ won. decides.1 (plan_wins (word_game a prefix period) sound v v< Zero won))
