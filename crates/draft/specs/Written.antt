-- An automaton as the records of a file: the calls that make it from an empty one, and their bytes.
use Rattle.std.specs.Prelude.{◌≡◌, ℕ, ◌+◌, ◌/◌, ◌%◌, List, [], ◌∷◌, ◌++◌, map, Some, None, Ok, Option}
use Rattle.std.specs.List.{flat_map}
use Rattle.draft.specs.declared.parts.Node.{Node}
use Rattle.draft.specs.declared.parts.Node.TheVariants.{Leaf as leaf, Either as either, Both as both}
use Rattle.draft.specs.declared.parts.State.{State as StateOf}
use Rattle.draft.specs.declared.records.Call.{Call}
use Rattle.draft.specs.declared.records.Call.TheVariants.{State, Leaf, Either, Both, Rule, Regrade, Turn}
use Rattle.draft.specs.Automaton.{Automaton}
use Rattle.draft.specs.Load.{Loaded, load_file}
use Rattle.draft.specs.WellFormed.{WellFormed}

-- the bytes of a record, from the number of its call, its letter, and its two numbers, low byte first
abbrev pub record_bytes : ℕ → ℕ → ℕ → ℕ → List ℕ
record_bytes kind letter n m = kind ∷ letter ∷ n % 256 ∷ n / 256 ∷ m % 256 ∷ m / 256 ∷ 0 ∷ 0 ∷ []

abbrev pub encoded : Call → List ℕ
encoded (State p) = record_bytes 1 0 p 0
encoded (Leaf q) = record_bytes 2 0 q 0
encoded (Either l r) = record_bytes 3 0 l r
encoded (Both l r) = record_bytes 4 0 l r
encoded (Rule q letter x) = record_bytes 5 letter q x
encoded (Regrade q p) = record_bytes 6 0 q p
encoded Turn = record_bytes 7 0 0 0

abbrev pub state_call : StateOf → Call
state_call s = State s.priority

abbrev pub node_call : Node → Call
node_call (leaf q) = Leaf q
node_call (either l r) = Either l r
node_call (both l r) = Both l r

abbrev pub rule_call : ℕ → ℕ → Option ℕ → List Call
rule_call q letter None = []
rule_call q letter (Some x) = Rule q letter x ∷ []

-- the rules of the state q, from a letter on
abbrev pub rule_calls : ℕ → ℕ → List (Option ℕ) → List Call
rule_calls q letter [] = []
rule_calls q letter (r ∷ rs) = rule_call q letter r ++ rule_calls q (letter + 1) rs

-- the rules of the states from q on
abbrev pub all_rule_calls : ℕ → List StateOf → List Call
all_rule_calls q [] = []
all_rule_calls q (s ∷ ss) = rule_calls q 0 s.rules ++ all_rule_calls (q + 1) ss

-- first the states, then the nodes, then the rules by state and letter
abbrev pub calls_of : Automaton → List Call
calls_of a = map state_call a.states ++ (map node_call a.nodes ++ all_rule_calls 0 a.states)

abbrev pub written : Automaton → List ℕ
written a = flat_map encoded (calls_of a)

-- what is written loads back to the same automaton, into whatever draft
abbrev pub WrittenLoads : Type 0
WrittenLoads = (a b : Automaton) → WellFormed b → ◌≡◌ {A = Loaded} (load_file a b.letters (written b)) (Ok tt, b)
