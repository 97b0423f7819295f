-- From the records of the pair game to contain's answer, and what the answer says of plans and of words.
use Rattle.std.proofs.Common.{◌≡◌, ℕ, ◌<◌, List, length, get_or, Ok, Err, Result, sym, refl, ap, ◌∙◌, subst, arith}
use Rattle.refusal.specs.declared.Refusal.{Refusal}
use Rattle.parity.specs.declared.player.Player.{Player}
use Rattle.parity.specs.declared.player.Player.TheVariants.{Zero, One}
use Rattle.parity.specs.Determinacy.{reported, Determined}
use Rattle.parity.specs.Play.{Winning}
use Rattle.parity.specs.Player.{other}
use Rattle.parity.proofs.Determined as theorem
use Rattle.game.specs.Outcomes.{blank, solved}
use Rattle.game.specs.declared.outcome.Outcome.{Outcome}
use Rattle.game.proofs.Rounds.{sound_of}
use Rattle.game.proofs.Written.{solved_gives}
use Rattle.draft.specs.Automaton.{Automaton}
use Rattle.draft.specs.WellFormed.{WellFormed}
use Rattle.inclusion.specs.PairGame.{states_at, pair_game, pair_winner}
use Rattle.inclusion.proofs.Contains.{contained}
use Rattle.inclusion.proofs.PairBounded.{pair_bounded}
use Rattle.inclusion.proofs.PairGames.{states_in}
use Rattle.contain.specs.declared.fault.Containment.{Containment}
use Rattle.contain.specs.declared.fault.ContainFault.{ContainFault}
use Rattle.contain.specs.Asking.{asked}
use Rattle.contain.specs.Containing.{Answer, verdict_of, once_asked, once_solved, contain_answer, Planned, YesIsSafe}
use Rattle.contain.proofs.Asked.{Asked, answered, comparable}

-- the arena is made of the same drafts
pub same_game : {a a' b b' : Automaton} (records : List Outcome) → (a ≡ a') × (b ≡ b') → solved (pair_game a b) records ≡ solved (pair_game a' b') records
same_game records (x, y) = λ i. solved (pair_game (x i) (y i)) records

module _ (a : Automaton) (p : ℕ) (b : Automaton) (q : ℕ) (records : List Outcome) where
  abbrev Right : Result Containment ContainFault → Type 0
  Right r = Planned r a p b q × YesIsSafe r a p b q

  -- what is answered once the questions are
  abbrev by_game : Answer
  by_game = once_solved (verdict_of (pair_winner a b p q)) (solved (pair_game a b) records)

  -- all were answered yes
  module _ (wa : WellFormed a) (wb : WellFormed b) (yes' : asked a p b q ≡ Ok tt) where
    by_solving : by_game ≡ contain_answer a p b q records
    by_solving = ap (λ r. once_asked r by_game records) (sym yes')

    asked_all : Asked a p b q
    asked_all = answered a p b q yes'

    -- the pair of states is a vertex
    pub start : states_at a b p q < (pair_game a b).count
    start = states_in a b p q asked_all.state asked_all.state'

    pub solved_by : (after : List Outcome) → ◌≡◌ {A = Result (Unit {0}) Refusal × List Outcome} (Ok tt, after) (solved (pair_game a b) records) → (Ok (verdict_of (get_or after (states_at a b p q) blank).winner), after) ≡ contain_answer a p b q records
    solved_by after s =
        let won : (get_or after (states_at a b p q) blank).winner ≡ pair_winner a b p q = ap (λ (o : Outcome). o.winner) ((solved_gives (pair_game a b) records after s).each (states_at a b p q) start) in
        ap (λ (x : Player). (Ok (verdict_of x), after)) won ∙ ap (once_solved (verdict_of (pair_winner a b p q))) s ∙ by_solving

    pub room : (after : List Outcome) → ◌≡◌ {A = Result (Unit {0}) Refusal × List Outcome} (Ok tt, after) (solved (pair_game a b) records) → states_at a b p q < length records
    room after s = let h = (solved_gives (pair_game a b) records after s).room in omega (arith, start)

    determined : Determined (pair_game a b)
    determined =
        let y = asked_all in
        theorem.determinacy (pair_game a b) (sound_of (pair_game a b) (pair_bounded a b wa wb y.complete y.complete' y.letters (omega (arith, y.state)) (omega (arith, y.state'))))

    -- the verdict tells who has a plan, and a yes is safe
    planned : (x : Player) → pair_winner a b p q ≡ x → Planned (Ok (verdict_of x)) a p b q
    planned Zero e = (reported (pair_game a b), subst (λ x. Winning (pair_game a b) x (reported (pair_game a b)) (states_at a b p q)) e (determined (states_at a b p q) start).0)
    planned One e = λ plan w. (determined (states_at a b p q) start).1 plan (subst (λ x. Winning (pair_game a b) (other x) plan (states_at a b p q)) (sym e) w)

    safe : (x : Player) → pair_winner a b p q ≡ x → YesIsSafe (Ok (verdict_of x)) a p b q
    safe Zero e = contained a b wa wb (comparable a p b q wa wb asked_all) p q asked_all.state asked_all.state' e
    safe One e = tt

    right : (r : Result (Unit {0}) Refusal × List Outcome) → Right (once_solved (verdict_of (pair_winner a b p q)) r).0
    right (Ok done, after) = (planned (pair_winner a b p q) refl, safe (pair_winner a b p q) refl)
    right (Err e, after) = (tt, tt)

  right_asked : WellFormed a → WellFormed b → (r : Result (Unit {0}) ContainFault) → asked a p b q ≡ r → Right (once_asked r by_game records).0
  right_asked wa wb (Ok tt) e = right wa wb e (solved (pair_game a b) records)
  right_asked wa wb (Err f) e = (tt, tt)

  -- every answer is right
  pub right_answer : WellFormed a → WellFormed b → (r : Result Containment ContainFault) (after : List Outcome) → (r, after) ≡ contain_answer a p b q records → Right r
  right_answer wa wb r after e = subst Right (sym (ap (λ (x : Answer). x.0) e)) (right_asked wa wb (asked a p b q) refl)
