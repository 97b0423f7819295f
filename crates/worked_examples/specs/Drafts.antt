-- Small draft files, and the automata that they make.
use Rattle.std.specs.Prelude.{ℕ, List, [], ◌∷◌, ◌++◌, replicate, Some, None}
use Rattle.draft.specs.declared.parts.Node.TheVariants.{Leaf, Either, Both}
use Rattle.draft.specs.declared.parts.State.{State}
use Rattle.draft.specs.Automaton.{Automaton}

-- the record of a call whose numbers all fit a byte: the call, a rule's letter, and the first and second number
abbrev pub call : ℕ → ℕ → ℕ → ℕ → List ℕ
call kind letter first second = kind ∷ letter ∷ first ∷ 0 ∷ second ∷ 0 ∷ 0 ∷ 0 ∷ []

abbrev pub state : ℕ → List ℕ
state priority = call 1 0 priority 0

abbrev pub leaf : ℕ → List ℕ
leaf q = call 2 0 q 0

abbrev pub either : ℕ → ℕ → List ℕ
either left right = call 3 0 left right

abbrev pub both : ℕ → ℕ → List ℕ
both left right = call 4 0 left right

abbrev pub rule : ℕ → ℕ → ℕ → List ℕ
rule q letter node = call 5 letter q node

-- a state with rules for the first letter, and for the first two
abbrev pub one_rule : ℕ → ℕ → State
one_rule priority x = record { priority = priority; rules = Some x ∷ replicate 15 None }

abbrev pub two_rules : ℕ → ℕ → ℕ → State
two_rules priority x y = record { priority = priority; rules = Some x ∷ Some y ∷ replicate 14 None }

-- one letter: state 0 has the rule "0 or 1", state 1 the rule "0 and 1"
abbrev pub branching_bytes : List ℕ
branching_bytes =
    state 2 ++ state 1
    ++ leaf 0 ++ leaf 1 ++ either 0 1 ++ both 0 1
    ++ rule 0 0 2 ++ rule 1 0 3

abbrev pub branching : Automaton
branching = record {
  letters = 1;
  states = one_rule 2 2 ∷ one_rule 1 3 ∷ [];
  nodes = Leaf 0 ∷ Leaf 1 ∷ Either 0 1 ∷ Both 0 1 ∷ [];
}

-- the letters of the automata below
abbrev pub post : ℕ
post = 0

abbrev pub take : ℕ
take = 1

-- a mailbox with one place: empty in state 0, full in state 1; a post to the full one or a take from the empty one leads to
-- state 2, which it never leaves, and rejects
abbrev pub mailbox_bytes : List ℕ
mailbox_bytes =
    state 2 ++ state 2 ++ state 1
    ++ leaf 0 ++ leaf 1 ++ leaf 2
    ++ rule 0 post 1 ++ rule 1 post 2 ++ rule 2 post 2
    ++ rule 0 take 2 ++ rule 1 take 0 ++ rule 2 take 2

abbrev pub mailbox : Automaton
mailbox = record {
  letters = 2;
  states = two_rules 2 1 2 ∷ two_rules 2 2 0 ∷ two_rules 1 2 2 ∷ [];
  nodes = Leaf 0 ∷ Leaf 1 ∷ Leaf 2 ∷ [];
}

-- accepts from state 0 the words that have a post
abbrev pub posted_bytes : List ℕ
posted_bytes =
    state 1 ++ state 0
    ++ leaf 0 ++ leaf 1
    ++ rule 0 post 1 ++ rule 1 post 1
    ++ rule 0 take 0 ++ rule 1 take 1

abbrev pub posted : Automaton
posted = record {
  letters = 2;
  states = two_rules 1 1 0 ∷ two_rules 0 1 1 ∷ [];
  nodes = Leaf 0 ∷ Leaf 1 ∷ [];
}
