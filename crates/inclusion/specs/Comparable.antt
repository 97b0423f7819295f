-- What containment asks of two automata.
use Rattle.std.specs.Prelude.{◌≡◌, true}
use Rattle.draft.specs.Automaton.{Automaton, is_complete}
use Rattle.inclusion.specs.Stratified.{Stratified}

pub record Comparable (a b : Automaton) : Type 0 where
  pub first_complete : is_complete a ≡ true
  pub second_complete : is_complete b ≡ true
  pub same_letters : a.letters ≡ b.letters
  pub first_stratified : Stratified a
  pub second_stratified : Stratified b
