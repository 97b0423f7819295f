-- The records of the parts before the index are written.
use Rattle.std.proofs.Common.{◌≡◌, ◌++◌, map, take, vec_items}
use Rattle.std.specs.List.{flat_map}
use Rattle.draft.specs.Written.{encoded}
use Rattle.draft.proofs.draft.writing.put_each.Given as goal

abbrev pub invariant-loop-part : goal.invariant-loop-part
invariant-loop-part g l = vec_items l.out ≡ vec_items l.initial.out ++ flat_map encoded (map g.P.Part.adding (take l.part-index l.parts))
