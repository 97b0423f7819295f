-- What each call answers, and what it makes of the automaton. A refused call leaves the automaton as it was.
use Rattle.std.specs.Prelude.{ℕ, ◌+◌, Bool, cond, ◌&&◌, ltb, List, [], ◌∷◌, ◌++◌, map, length, get_or, replicate, Some, None, Ok, Err, Result, nat_le, nat_lt, slice_index_or, slice_set}
use Rattle.refusal.specs.declared.Refusal.{Refusal}
use Rattle.refusal.specs.declared.Refusal.TheVariants.{Letters, Priority, States, NoState, Nodes, NoNode, NoLetter, Top}
use Rattle.parity.specs.Below.{all_below}
use Rattle.draft.specs.declared.parts.Node.{Node}
use Rattle.draft.specs.declared.parts.Node.TheVariants.{Leaf, Either, Both}
use Rattle.draft.specs.declared.parts.State.{State}
use Rattle.draft.specs.Automaton.{Automaton, empty, blank, state_count, node_count}

-- the answer, and the automaton afterwards
abbrev pub Outcome : Type 0 → Type 0
Outcome X = Result X Refusal × Automaton

abbrev pub with_states : Automaton → List State → Automaton
with_states a l = record { letters = a.letters; states = l; nodes = a.nodes }

abbrev pub with_nodes : Automaton → List Node → Automaton
with_nodes a l = record { letters = a.letters; states = a.states; nodes = l }

abbrev pub letters_fit : ℕ → Bool
letters_fit n = nat_le 1 n && nat_le n 16

abbrev pub begin_with : Automaton → ℕ → Outcome (Unit {0})
begin_with a n = cond (letters_fit n) (Ok tt, empty n) (Err Letters, a)

-- a state with no rule yet
abbrev pub fresh : ℕ → State
fresh p = record { priority = p; rules = replicate 16 None }

abbrev pub add_state : Automaton → ℕ → Outcome ℕ
add_state a p =
    cond (nat_le p 999)
    (cond (nat_lt (state_count a) 32) (Ok (state_count a), with_states a (a.states ++ fresh p ∷ [])) (Err States, a))
    (Err Priority, a)

abbrev pub add_node : Automaton → Node → Outcome ℕ
add_node a n = cond (nat_lt (node_count a) 128) (Ok (node_count a), with_nodes a (a.nodes ++ n ∷ [])) (Err Nodes, a)

abbrev pub add_leaf : Automaton → ℕ → Outcome ℕ
add_leaf a q = cond (nat_lt q (state_count a)) (add_node a (Leaf q)) (Err NoState, a)

abbrev pub are_nodes : Automaton → ℕ → ℕ → Bool
are_nodes a l r = nat_lt l (node_count a) && nat_lt r (node_count a)

abbrev pub add_either : Automaton → ℕ → ℕ → Outcome ℕ
add_either a l r = cond (are_nodes a l r) (add_node a (Either l r)) (Err NoNode, a)

abbrev pub add_both : Automaton → ℕ → ℕ → Outcome ℕ
add_both a l r = cond (are_nodes a l r) (add_node a (Both l r)) (Err NoNode, a)

abbrev pub ruled : State → ℕ → ℕ → State
ruled s letter x = record { priority = s.priority; rules = slice_set s.rules letter (Some x) }

abbrev pub set_rule : Automaton → ℕ → ℕ → ℕ → Outcome (Unit {0})
set_rule a q letter x =
    cond (nat_lt q (state_count a))
    (cond (nat_lt letter a.letters)
    (cond (nat_lt x (node_count a))
    (Ok tt, with_states a (slice_set a.states q (ruled (slice_index_or a.states q blank) letter x)))
    (Err NoNode, a))
    (Err NoLetter, a))
    (Err NoState, a)

abbrev pub graded : State → ℕ → State
graded s p = record { priority = p; rules = s.rules }

abbrev pub set_priority : Automaton → ℕ → ℕ → Outcome (Unit {0})
set_priority a q p =
    cond (nat_lt q (state_count a))
    (cond (nat_le p 999)
    (Ok tt, with_states a (slice_set a.states q (graded (slice_index_or a.states q blank) p)))
    (Err Priority, a))
    (Err NoState, a)

-- "or" and "and" exchanged
abbrev pub dual : Node → Node
dual (Leaf q) = Leaf q
dual (Either l r) = Both l r
dual (Both l r) = Either l r

abbrev pub raised : State → State
raised s = record { priority = s.priority + 1; rules = s.rules }

abbrev pub turned : Automaton → Automaton
turned a = record { letters = a.letters; states = map raised a.states; nodes = map dual a.nodes }

-- every priority can be raised
unfoldable pub can_turn : List State → Bool
can_turn l = all_below (length l) (λ q. ltb (get_or l q blank).priority 999)

abbrev pub turn_over : Automaton → Outcome (Unit {0})
turn_over a = cond (can_turn a.states) (Ok tt, turned a) (Err Top, a)
