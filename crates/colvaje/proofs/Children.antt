-- The children of a node stand before it.
use Rattle.std.proofs.Common.{◌≡◌, ℕ, ◌<◌, ◌⊎◌, inl, inr, sym, ap, ◌∙◌, true}
use Rattle.draft.specs.declared.draft.Draft.{Draft}
use Rattle.draft.specs.declared.parts.Node.{Node}
use Rattle.draft.specs.declared.parts.Node.TheVariants.{Either, Both}
use Rattle.draft.specs.Automaton.{node_of}
use Rattle.draft.specs.Meaning.{meaning}
use Rattle.draft.specs.WellFormed.{is_child}
use Rattle.draft.proofs.Drafts.{draft_well_formed}
use Rattle.draft.proofs.Children.{left_child, right_child}

-- a node x of a draft, of the shape t
module _ (d : Draft) (x : ℕ) (t : Node) (at : t ≡ node_of (meaning d) x) where
  child_before : (y : ℕ) (n : Node) → t ≡ n → is_child n y ≡ true → y < x
  child_before y n is child = (draft_well_formed d).children x y (ap (λ m. is_child m y) (sym at ∙ is) ∙ child)

  pub children_before : (l r : ℕ) → (t ≡ Either l r) ⊎ (t ≡ Both l r) → (l < x) × (r < x)
  children_before l r (inl is) = (child_before l (Either l r) is (left_child l r), child_before r (Either l r) is (right_child l r))
  children_before l r (inr is) = (child_before l (Both l r) is (left_child l r), child_before r (Both l r) is (right_child l r))
