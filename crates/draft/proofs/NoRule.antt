-- No rule is read past the last state.
use Rattle.std.proofs.Common.{◌≡◌, ℕ, ◌≤◌, None, arith}
use Rattle.std.proofs.lemmas.List.{get_or_past}
use Rattle.draft.specs.Automaton.{Automaton, state_count, rule_of}

pub rule_past_state : (a : Automaton) (q letter : ℕ) → state_count a ≤ q → None ≡ rule_of a q letter
rule_past_state a q letter l = grind (arith, get_or_past)
