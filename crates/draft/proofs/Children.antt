-- The children of a node stand before it, and a leaf names a state.
use Rattle.std.proofs.Common.{◌≡◌, ℕ, ◌<◌, true, ◌||◌, eqb, refl, arith}
use Rattle.draft.specs.declared.parts.Node.{Node}
use Rattle.draft.specs.declared.parts.Node.TheVariants.{Leaf, Either, Both}
use Rattle.draft.specs.Automaton.{Automaton, node_count, state_count, node_of}
use Rattle.draft.specs.WellFormed.{WellFormed, Fits}

-- the left and the right of a node, "or" or "and", are its children
pub left_child : (l r : ℕ) → (eqb l l || eqb l r) ≡ true
left_child l r = grind arith

pub right_child : (l r : ℕ) → (eqb r l || eqb r r) ≡ true
right_child l r = grind arith

-- node x, of the shape t, fits its place
module _ (a : Automaton) (w : WellFormed a) (x : ℕ) (x< : x < node_count a) where
  pub fits_as : (t : Node) → node_of a x ≡ t → Fits (state_count a) x t
  fits_as (Leaf q) e = w.leaves x q x< e
  fits_as (Either l r) e = grind (arith, w.children x l, w.children x r)
  fits_as (Both l r) e = grind (arith, w.children x l, w.children x r)

  pub node_fits : Fits (state_count a) x (node_of a x)
  node_fits = fits_as (node_of a x) refl
