-- The marks of a walk down a formula.
use Rattle.std.specs.Prelude.{◌≡◌, ℕ, Bool, true, false, List, slice_index_or}
use Rattle.draft.specs.Automaton.{Automaton}
use Rattle.inclusion.specs.Stratified.{is_low}

-- below each marked node all priorities are at most b
abbrev pub MarkedLow : Automaton → ℕ → List Bool → Type 0
MarkedLow a b marks = (x : ℕ) → slice_index_or marks x false ≡ true → is_low a b x ≡ true
