-- The walk down a formula: what each node gives, and one marked node more.
use Rattle.std.proofs.Common.{◌≡◌, ℕ, ◌<◌, Bool, true, false, ◌&&◌, leb, ◌⊎◌, List, set, replicate, sym, ap, ◌∙◌, inl, inr, arith}
use Rattle.std.proofs.lemmas.Simd.{get_or-replicate, length-replicate}
use Rattle.std.proofs.lemmas.List.{get_or_past}
use Rattle.std.proofs.lemmas.Grind.{common_steps}
use Rattle.draft.specs.declared.parts.Node.{Node}
use Rattle.draft.specs.declared.parts.Node.TheVariants.{Leaf, Either, Both}
use Rattle.draft.specs.Automaton.{Automaton, node_count, priority_of, node_of}
use Rattle.draft.specs.WellFormed.{WellFormed}
use Rattle.draft.proofs.Children.{fits_as}
use Rattle.inclusion.specs.Stratified.{node_low, is_low}
use Rattle.inclusion.proofs.Low.{is_low_by}
use Rattle.contain.specs.Marking.{MarkedLow}

-- node x of an automaton, of the shape n
module _ (a : Automaton) (w : WellFormed a) (x at : ℕ) (x< : x < node_count a) (same : at ≡ x) (n : Node) (read : n ≡ node_of a at) where
  is : n ≡ node_of a x
  is = cc

  by_shape : (b : ℕ) → is_low a b x ≡ node_low a b (is_low a b) n
  by_shape b = is_low_by a w b x x< ∙ ap (node_low a b (is_low a b)) (sym is)

  pub leaf_low : (b q : ℕ) → n ≡ Leaf q → is_low a b x ≡ leb (priority_of a q) b
  leaf_low b q e = by_shape b ∙ ap (node_low a b (is_low a b)) e

  module _ (l r : ℕ) (e : (n ≡ Either l r) ⊎ (n ≡ Both l r)) where
    pub pair_low : (b : ℕ) → is_low a b x ≡ (is_low a b l && is_low a b r)
    pair_low b = by_shape b ∙ elim e [ inl h ↦ ap (node_low a b (is_low a b)) h | inr h ↦ ap (node_low a b (is_low a b)) h ]

    -- the left child passes, and the right decides; or it doesn't
    pub left_passes : (b : ℕ) → true ≡ is_low a b l → is_low a b x ≡ is_low a b r
    left_passes b h = pair_low b ∙ ap (λ t. t && is_low a b r) (sym h)

    pub left_fails : (b : ℕ) → false ≡ is_low a b l → is_low a b x ≡ false
    left_fails b h = pair_low b ∙ ap (λ t. t && is_low a b r) (sym h)

    -- both children stand before the node
    pub parts_before : (l < x) × (r < x)
    parts_before = elim e [ inl h ↦ fits_as a w x x< (Either l r) (sym is ∙ h) | inr h ↦ fits_as a w x x< (Both l r) (sym is ∙ h) ]

-- a node that passes may be marked, and any mark may go
pub mark_low : (a : Automaton) (b x : ℕ) (marks : List Bool) (mark : Bool) → (mark ≡ true → is_low a b x ≡ true) → MarkedLow a b marks → MarkedLow a b (set marks x mark)
mark_low a b x marks mark here before y e = grind (arith, common_steps)

-- a walk starts with no marks
pub none_marked : (a : Automaton) (b n : ℕ) → MarkedLow a b (replicate n false)
none_marked a b n x e = grind (arith, get_or-replicate, get_or_past, length-replicate)
