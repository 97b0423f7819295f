-- Two automata turned and exchanged.
use Rattle.std.specs.Prelude.{◌≡◌, ℕ, ◌<◌, true}
use Rattle.draft.specs.Automaton.{Automaton, state_count, is_complete}
use Rattle.draft.specs.Calls.{turned}
use Rattle.draft.specs.WellFormed.{WellFormed}
use Rattle.inclusion.specs.PairGame.{pair_winner}
use Rattle.inclusion.specs.Stratified.{is_stratified}

-- turning changes no answer to the questions about one automaton
pub record TurnedAlike (a : Automaton) : Type 0 where
  pub complete : is_complete (turned a) ≡ is_complete a
  pub stratified : is_stratified (turned a) ≡ is_stratified a
  pub states : state_count (turned a) ≡ state_count a

-- the second, turned, has the same winner against the first, turned, as the first against the second
pub record Exchanged (a b : Automaton) : Type 0 where
  pub first : TurnedAlike a
  pub second : TurnedAlike b
  pub winners : is_complete a ≡ true → is_complete b ≡ true → a.letters ≡ b.letters →
      (p q : ℕ) → p < state_count a → q < state_count b → pair_winner (turned b) (turned a) q p ≡ pair_winner a b p q

abbrev pub Exchange : Type 0
Exchange = (a b : Automaton) → WellFormed a → WellFormed b → Exchanged a b
