-- The calls of one more rule stand behind those of the rules before it.
use Rattle.std.proofs.Common.{◌≡◌, ℕ, ◌+◌, List, [], ◌∷◌, ◌++◌, length, Option, arith}
use Rattle.std.proofs.lemmas.Grind.{common_steps}
use Rattle.draft.specs.declared.parts.State.{State}
use Rattle.draft.specs.Written.{rule_call, rule_calls, all_rule_calls}

pub rule_calls_push : (q letter : ℕ) (rs : List (Option ℕ)) (r : Option ℕ) → rule_calls q letter (rs ++ r ∷ []) ≡ rule_calls q letter rs ++ rule_call q (letter + length rs) r
rule_calls_push q letter [] r = grind (arith, common_steps)
rule_calls_push q letter (x ∷ rs) r = grind (arith, common_steps, rule_calls_push q (letter + 1) rs r)

pub all_rule_calls_push : (q : ℕ) (ss : List State) (s : State) → all_rule_calls q (ss ++ s ∷ []) ≡ all_rule_calls q ss ++ rule_calls (q + length ss) 0 s.rules
all_rule_calls_push q [] s = grind (arith, common_steps)
all_rule_calls_push q (x ∷ ss) s = grind (arith, common_steps, all_rule_calls_push (q + 1) ss s)

pub ruleset rule_steps = (common_steps, rule_calls_push, all_rule_calls_push)
