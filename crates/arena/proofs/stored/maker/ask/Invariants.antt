use Rattle.std.proofs.Common.{◌≡◌, None}
use Rattle.arena.specs.Stored.{first_fault}
use Rattle.arena.proofs.stored.maker.ask.Given as goal

abbrev pub invariant-loop-v : goal.invariant-loop-v
invariant-loop-v l = first_fault l.bytes l.count l.v ≡ None
