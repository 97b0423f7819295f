-- Stratified automata: no rule leads to a larger priority.
use Rattle.std.specs.Prelude.{◌≡◌, ℕ, zero, suc, ◌≤◌, Bool, true, ◌&&◌, Some, None, Option, nat_le}
use Rattle.parity.specs.Below.{all_below}
use Rattle.draft.specs.declared.parts.Node.{Node}
use Rattle.draft.specs.declared.parts.Node.TheVariants.{Leaf, Either, Both}
use Rattle.draft.specs.Automaton.{Automaton, state_count, priority_of, rule_of, node_of}
use Rattle.draft.specs.WellFormed.{is_child, WellFormed}

-- a leaf at or below a node names the state q
pub data NamedBelow (a : Automaton) (q : ℕ) : ℕ → Type 0 where
  at_leaf : {x : ℕ} → node_of a x ≡ Leaf q → NamedBelow a q x
  at_child : {x y : ℕ} → is_child (node_of a x) y ≡ true → NamedBelow a q y → NamedBelow a q x

-- every state named by a leaf at or below the node of a rule has a priority no larger than the rule's own state
abbrev pub Stratified : Automaton → Type 0
Stratified a = (p letter x q : ℕ) → rule_of a p letter ≡ Some x → NamedBelow a q x → priority_of a q ≤ priority_of a p

-- the same as a test: a leaf names a state of priority at most b, and of the other nodes both children pass
abbrev pub node_low : Automaton → ℕ → (ℕ → Bool) → Node → Bool
node_low a b low (Leaf q) = nat_le (priority_of a q) b
node_low a b low (Either l r) = low l && low r
node_low a b low (Both l r) = low l && low r

-- down to a depth of d
unfoldable pub low_to : Automaton → ℕ → ℕ → ℕ → Bool
low_to a b zero x = true
low_to a b (suc d) x = node_low a b (low_to a b d) (node_of a x)

-- children stand before their parents, so a depth of x + 1 is all that is below x
abbrev pub is_low : Automaton → ℕ → ℕ → Bool
is_low a b x = low_to a b (suc x) x

abbrev pub rule_low : Automaton → ℕ → Option ℕ → Bool
rule_low a b (Some x) = is_low a b x
rule_low a b None = true

unfoldable pub state_low : Automaton → ℕ → Bool
state_low a p = all_below a.letters (λ letter. rule_low a (priority_of a p) (rule_of a p letter))

unfoldable pub is_stratified : Automaton → Bool
is_stratified a = all_below (state_count a) (state_low a)

-- the test holds exactly of the stratified automata
abbrev pub StratifiedTested : Type 0
StratifiedTested = (a : Automaton) → WellFormed a → (is_stratified a ≡ true → Stratified a) × (Stratified a → is_stratified a ≡ true)
