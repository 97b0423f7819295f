-- What holds of every automaton that the calls can make.
use Rattle.std.specs.Prelude.{◌≡◌, ℕ, ◌<◌, ◌≤◌, Bool, true, false, ◌||◌, List, length, get_or, Some, None, ◌==◌, slice_index_or}
use Rattle.draft.specs.declared.parts.Node.{Node}
use Rattle.draft.specs.declared.parts.Node.TheVariants.{Leaf, Either, Both}
use Rattle.draft.specs.declared.parts.State.{State}
use Rattle.draft.specs.Automaton.{Automaton, blank, state_count, node_count}

-- every priority is at most 999
abbrev pub Low : List State → Type 0
Low l = (q : ℕ) → q < length l → (get_or l q blank).priority ≤ 999

-- every state has 16 places for rules
abbrev pub Full : List State → Type 0
Full l = (q : ℕ) → q < length l → length (get_or l q blank).rules ≡ 16

-- every rule is for one of n letters
abbrev pub Lettered : ℕ → List State → Type 0
Lettered n l = (q letter x : ℕ) → slice_index_or (get_or l q blank).rules letter None ≡ Some x → letter < n

-- every rule names one of n nodes
abbrev pub Named : ℕ → List State → Type 0
Named n l = (q letter x : ℕ) → slice_index_or (get_or l q blank).rules letter None ≡ Some x → x < n

-- every leaf names one of n states
abbrev pub LeavesKnown : ℕ → List Node → Type 0
LeavesKnown n l = (x q : ℕ) → x < length l → slice_index_or l x (Leaf 0) ≡ Leaf q → q < n

abbrev pub is_child : Node → ℕ → Bool
is_child (Leaf q) y = false
is_child (Either l r) y = y == l || y == r
is_child (Both l r) y = y == l || y == r

-- children stand before their parents
abbrev pub ChildrenBefore : List Node → Type 0
ChildrenBefore l = (x y : ℕ) → is_child (slice_index_or l x (Leaf 0)) y ≡ true → y < x

pub record WellFormed (a : Automaton) : Type 0 where
  pub some_letters : 1 ≤ a.letters
  pub few_letters : a.letters ≤ 16
  pub few_states : state_count a ≤ 32
  pub few_nodes : node_count a ≤ 128
  pub low : Low a.states
  pub full : Full a.states
  pub lettered : Lettered a.letters a.states
  pub named : Named (node_count a) a.states
  pub leaves : LeavesKnown (state_count a) a.nodes
  pub children : ChildrenBefore a.nodes

-- a node of an automaton with n states, standing at place x
abbrev pub Fits : ℕ → ℕ → Node → Type 0
Fits n x (Leaf q) = q < n
Fits n x (Either l r) = (l < x) × (r < x)
Fits n x (Both l r) = (l < x) × (r < x)
