use Rattle.arena.specs.Passed.{whole_yes}
use Rattle.arena.proofs.stored.maker.make.Goals as goal

pub invariant_of-result : goal.invariant_of-result
invariant_of-result c = record { passed = whole_yes c.args.bytes.now c.requires }
