-- What holds where the questions of containment are all answered yes.
use Rattle.std.proofs.Common.{◌≡◌, ℕ, ◌<◌, true, Ok, arith}
use Rattle.draft.specs.Automaton.{Automaton, state_count, is_complete}
use Rattle.draft.specs.WellFormed.{WellFormed}
use Rattle.inclusion.specs.Comparable.{Comparable}
use Rattle.inclusion.specs.Stratified.{is_stratified}
use Rattle.inclusion.proofs.Tested.{stratified_tested}
use Rattle.contain.specs.Asking.{asked}

pub record Asked (a : Automaton) (p : ℕ) (b : Automaton) (q : ℕ) : Type 0 where
  pub complete : is_complete a ≡ true
  pub complete' : is_complete b ≡ true
  pub letters : a.letters ≡ b.letters
  pub state : p < state_count a
  pub state' : q < state_count b
  pub stratified : is_stratified a ≡ true
  pub stratified' : is_stratified b ≡ true

pub answered : (a : Automaton) (p : ℕ) (b : Automaton) (q : ℕ) → asked a p b q ≡ Ok tt → Asked a p b q
answered a p b q e = grind arith

pub comparable : (a : Automaton) (p : ℕ) (b : Automaton) (q : ℕ) → WellFormed a → WellFormed b → Asked a p b q → Comparable a b
comparable a p b q wa wb y = record {
  first_complete = y.complete;
  second_complete = y.complete';
  same_letters = y.letters;
  first_stratified = (stratified_tested a wa).0 y.stratified;
  second_stratified = (stratified_tested b wb).0 y.stratified';
}
