-- From the records of the word game to accept's answer, and what the answer says of runs.
use Rattle.std.proofs.Common.{◌≡◌, ℕ, ◌<◌, List, get_or, Ok, Err, Result, sym, refl, ap, ◌∙◌, subst, arith}
use Rattle.refusal.specs.declared.Refusal.{Refusal}
use Rattle.parity.specs.declared.player.Player.{Player}
use Rattle.parity.specs.declared.player.Player.TheVariants.{Zero, One}
use Rattle.parity.specs.Grading.{winner}
use Rattle.game.specs.Outcomes.{blank, solved}
use Rattle.game.specs.declared.outcome.Outcome.{Outcome}
use Rattle.game.proofs.Written.{solved_gives}
use Rattle.draft.specs.Automaton.{Automaton, state_count}
use Rattle.draft.specs.WellFormed.{WellFormed}
use Rattle.runs.specs.Word.{letter}
use Rattle.runs.specs.Run.{Accepts}
use Rattle.runs.specs.WordGame.{word_game}
use Rattle.runs.specs.Accepting.{word_winner}
use Rattle.runs.proofs.Accepted.{start_is, accepting}
use Rattle.word.specs.Asking.{asked}
use Rattle.word.specs.Answer.{verdict_of, accept_answer, Judged}
use Rattle.word.specs.Readables.{readable}
use Rattle.word.specs.declared.verdict.Verdict.{Verdict}
use Rattle.word.proofs.Asked.{answered}

-- the arena is made of the same draft and word
pub same_game : {a b : Automaton} {prefix prefix' period period' : List ℕ} (records : List Outcome) → (a ≡ b) × ((prefix ≡ prefix') × (period ≡ period')) → solved (word_game a prefix period) records ≡ solved (word_game b prefix' period') records
same_game records (d, (x, y)) = λ i. solved (word_game (d i) (x i) (y i)) records

module _ (a : Automaton) (q : ℕ) (prefix period : List ℕ) (records : List Outcome) where
  -- all questions were answered yes
  module _ (w : WellFormed a) (yes' : asked a q prefix period ≡ Ok tt) where
    -- the state at step 0 is a vertex
    pub start : q < (word_game a prefix period).count
    start = let y = answered a q prefix period yes' in grind arith

    pub solved_by : (after : List Outcome) → ◌≡◌ {A = Result (Unit {0}) Refusal × List Outcome} (Ok tt, after) (solved (word_game a prefix period) records) → (Ok (verdict_of (get_or after q blank).winner), after) ≡ accept_answer a q prefix period records
    solved_by after s =
        let G = word_game a prefix period in
        let won : (get_or after q blank).winner ≡ word_winner a prefix period q = ap (λ (o : Outcome). o.winner) ((solved_gives G records after s).each q start) ∙ ap (winner G) (sym (start_is (state_count a) q)) in
        grind arith

    decides : (Accepts a (letter prefix period) q → word_winner a prefix period q ≡ Zero) × (word_winner a prefix period q ≡ Zero → Accepts a (letter prefix period) q)
    decides =
        let y = answered a q prefix period yes' in
        accepting a w y.complete prefix period (readable a.letters prefix period y.some y.known) q y.state

    -- the verdict is right
    right : (x : Player) → word_winner a prefix period q ≡ x → Judged (Ok (verdict_of x)) a (letter prefix period) q
    right Zero e = decides.1 e
    right One e = λ run. let z = decides.0 run in grind arith

  pub judged_answer : WellFormed a → (r : Result Verdict Refusal) (after : List Outcome) → (r, after) ≡ accept_answer a q prefix period records → Judged r a (letter prefix period) q
  judged_answer w (Err refusal) after e = tt
  judged_answer w (Ok verdict) after e =
      let yes' : asked a q prefix period ≡ Ok tt = grind arith in
      let is : verdict ≡ verdict_of (word_winner a prefix period q) = grind arith in
      subst (λ v. Judged (Ok v) a (letter prefix period) q) (sym is) (right w yes' (word_winner a prefix period q) refl)
