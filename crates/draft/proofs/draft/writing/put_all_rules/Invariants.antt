-- The rules of the states before q are written.
use Rattle.std.proofs.Common.{◌≡◌, ◌++◌, take, vec_items}
use Rattle.std.specs.List.{flat_map}
use Rattle.draft.specs.Written.{encoded, all_rule_calls}
use Rattle.draft.proofs.draft.writing.put_all_rules.Given as goal

abbrev pub invariant-loop-q : goal.invariant-loop-q
invariant-loop-q l = vec_items l.out ≡ vec_items l.initial.out ++ flat_map encoded (all_rule_calls 0 (take l.q l.states))
