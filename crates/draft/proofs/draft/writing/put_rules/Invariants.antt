-- The rules before the letter are written.
use Rattle.std.proofs.Common.{◌≡◌, ◌++◌, take, vec_items}
use Rattle.std.specs.List.{flat_map}
use Rattle.draft.specs.Written.{encoded, rule_calls}
use Rattle.draft.proofs.draft.writing.put_rules.Given as goal

abbrev pub invariant-loop-letter : goal.invariant-loop-letter
invariant-loop-letter l = vec_items l.out ≡ vec_items l.initial.out ++ flat_map encoded (rule_calls l.state 0 (take l.letter l.rules))
