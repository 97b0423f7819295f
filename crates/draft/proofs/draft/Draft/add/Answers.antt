-- A draft with one more node keeps what drafts keep.
use Rattle.std.proofs.Common.{◌<◌, vec_items, sym, subst, arith, rules}
use Rattle.draft.specs.Automaton.{node_count}
use Rattle.draft.specs.Calls.{with_nodes}
use Rattle.draft.specs.Meaning.{meaning}
use Rattle.draft.specs.WellFormed.{WellFormed}
use Rattle.draft.proofs.Drafts.{draft_well_formed}
use Rattle.draft.proofs.Keeps.{node_keeps}
use Rattle.draft.proofs.draft.Draft.add.Goals as goal

pub invariant_of-self : goal.invariant_of-self
invariant_of-self c =
    let few : node_count (meaning c.args.self.now) < 128 = omega (arith, c.args.self.now.nodes.ok.0) in
    let k = node_keeps (meaning c.args.self.now) c.args.node (draft_well_formed c.args.self.now) few c.requires in
    let w : WellFormed (with_nodes (meaning c.args.self.now) (vec_items c.push_reserved.new.self)) = subst (λ l. WellFormed (with_nodes (meaning c.args.self.now) l)) (sym c.push_reserved.ensures.items) k in
    search rules
