use Rattle.std.proofs.Common.{rules, arith, ap, inl, inr}
use Rattle.colvaje.proofs.Children.{children_before}
use Rattle.colvaje.proofs.formula.Writing.+written.Goals as goal
use Rattle.colvaje.proofs.formula.Writing.+written.Goals.{node-in-Either, node-in-Both}

pub node-child-requires : goal.node-child-requires
node-child-requires g t c κs within =
    let before = children_before c.args.self.now.draft.now _ _ c.node_at.ensures in
    elim c.match-node_at.branch [
      | node-in-Either w ↦ (omega (arith, (before _ _ (inl w.in-Either.is)).0, ap (λ p. p.0) w.first-is), search rules)
      | node-in-Both w ↦ (omega (arith, (before _ _ (inr w.in-Both.is)).0, ap (λ p. p.0) w.first-is), search rules)
    ]

pub node-child-requires-2 : goal.node-child-requires-2
node-child-requires-2 g t c κs within =
    let before = children_before c.args.self.now.draft.now _ _ c.node_at.ensures in
    elim c.match-node_at.branch [
      | node-in-Either w ↦ (omega (arith, (before _ _ (inl w.in-Either.is)).1, ap (λ p. p.2) w.first-is), search rules)
      | node-in-Both w ↦ (omega (arith, (before _ _ (inr w.in-Both.is)).1, ap (λ p. p.2) w.first-is), search rules)
    ]
