-- The value at a node by those of its children, and the marks after it.
use Rattle.std.proofs.Common.{◌≡◌, sym, ap, ◌∙◌, arith}
use Rattle.draft.specs.Automaton.{node_count}
use Rattle.draft.specs.Meaning.{meaning}
use Rattle.draft.proofs.Drafts.{draft_well_formed}
use Rattle.inclusion.specs.Stratified.{is_low}
use Rattle.contain.proofs.Walks.{leaf_low, left_passes, left_fails, parts_before, mark_low}
use Rattle.contain.proofs.strata.Walk.+passes.Goals as goal
use Rattle.contain.proofs.strata.Walk.+passes.Goals.{in-Leaf, in-Either+then-passes, in-Either+else-passes}

pub passes-requires : goal.passes-requires
passes-requires t c =
    let before = parts_before (meaning c.args.self.now.draft.now) (draft_well_formed c.args.self.now.draft.now) _ _ c.requires c.from-at.ensures _ c.node_at.ensures _ _ c.in-Either.is in
    (omega arith, omega arith)

pub passes-requires-then-passes : goal.passes-requires-then-passes
passes-requires-then-passes t c =
    let before = parts_before (meaning c.args.self.now.draft.now) (draft_well_formed c.args.self.now.draft.now) _ _ c.requires c.from-at.ensures _ c.node_at.ensures _ _ c.in-Either.is in
    (omega arith, omega (arith, ap node_count c.passes.ensures.same_draft))

pub returns-clause-value : goal.returns-clause-value
returns-clause-value t c =
    let walk = c.args.self.now in
    elim c.match-node_at.branch [
      | in-Leaf w ↦ (let e = leaf_low (meaning walk.draft.now) (draft_well_formed walk.draft.now) _ _ c.requires c.from-at.ensures _ c.node_at.ensures walk.limit _ w.in-Leaf.is in cc)
      | in-Either+then-passes w ↦ (let e = left_passes (meaning walk.draft.now) (draft_well_formed walk.draft.now) _ _ c.requires c.from-at.ensures _ c.node_at.ensures _ _ w.in-Either.is walk.limit w.if-passes.ensures.value in cc)
      | in-Either+else-passes w ↦ (let e = left_fails (meaning walk.draft.now) (draft_well_formed walk.draft.now) _ _ c.requires c.from-at.ensures _ c.node_at.ensures _ _ w.in-Either.is walk.limit w.if-passes.ensures.value in cc)
    ]

pub invariant_of-self : goal.invariant_of-self
invariant_of-self t c =
    let walk = c.args.self.now in
    let after = c.match-node_at.self in
    let low : c.match-node_at.low ≡ is_low (meaning after.draft.now) after.limit c.from-at.result =
    elim c.match-node_at.branch [
      | in-Leaf w ↦ (let e = leaf_low (meaning walk.draft.now) (draft_well_formed walk.draft.now) _ _ c.requires c.from-at.ensures _ c.node_at.ensures walk.limit _ w.in-Leaf.is in cc)
      | in-Either+then-passes w ↦ (let e = left_passes (meaning walk.draft.now) (draft_well_formed walk.draft.now) _ _ c.requires c.from-at.ensures _ c.node_at.ensures _ _ w.in-Either.is walk.limit w.if-passes.ensures.value in cc)
      | in-Either+else-passes w ↦ (let e = left_fails (meaning walk.draft.now) (draft_well_formed walk.draft.now) _ _ c.requires c.from-at.ensures _ c.node_at.ensures _ _ w.in-Either.is walk.limit w.if-passes.ensures.value in cc)
    ] in
    record { marked_low = mark_low (meaning after.draft.now) after.limit c.from-at.result after.marks c.match-node_at.low (λ e. sym low ∙ e) after.marked_low }
