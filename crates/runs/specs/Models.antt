-- Models of a formula: the sets of states that satisfy it, and the minimal ones.
use Rattle.std.specs.Prelude.{◌≡◌, ℕ, Bool, true}
use Rattle.draft.specs.declared.parts.Node.TheVariants.{Leaf, Either, Both}
use Rattle.draft.specs.Automaton.{Automaton, node_of}

-- a set of states, given by its membership test
abbrev pub States : Type 0
States = ℕ → Bool

abbrev pub In : States → ℕ → Type 0
In M q = M q ≡ true

infixl 20 ◌⊆◌
abbrev pub ◌⊆◌ : States → States → Type 0
M ⊆ N = (q : ℕ) → In M q → In N q

-- The states of which M holds satisfy the formula of node x. M may be any predicate.
pub data Model (a : Automaton) (M : ℕ → Type 0) : ℕ → Type 0 where
  by_leaf : {x q : ℕ} → node_of a x ≡ Leaf q → M q → Model a M x
  by_left : {x l r : ℕ} → node_of a x ≡ Either l r → Model a M l → Model a M x
  by_right : {x l r : ℕ} → node_of a x ≡ Either l r → Model a M r → Model a M x
  by_both : {x l r : ℕ} → node_of a x ≡ Both l r → Model a M l → Model a M r → Model a M x

-- M satisfies the formula, and no smaller set does
pub record Minimal (a : Automaton) (M : States) (x : ℕ) : Type 0 where
  pub model : Model a (In M) x
  pub least : (N : States) → N ⊆ M → Model a (In N) x → M ⊆ N
