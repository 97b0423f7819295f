-- The questions of containment but for the room, in their order.
use Rattle.std.specs.Prelude.{ℕ, Bool, cond, Ok, Err, Result, ◌==◌, nat_lt}
use Rattle.refusal.specs.declared.Refusal.TheVariants.{NoState, Incomplete, Alphabets, NotStratified}
use Rattle.draft.specs.Automaton.{Automaton, state_count, is_complete}
use Rattle.inclusion.specs.Stratified.{is_stratified}
use Rattle.contain.specs.declared.fault.ContainFault.{ContainFault}
use Rattle.contain.specs.declared.fault.Which.TheVariants.{First, Second}
use Rattle.contain.specs.Answers.{of_draft, of_none}

-- the first question that is answered no decides
abbrev pub in_order : Bool → Bool → Bool → Bool → Bool → Bool → Bool → Result (Unit {0}) ContainFault
in_order complete complete' letters state state' stratified stratified' =
    cond complete
    (cond complete'
    (cond letters
    (cond state
    (cond state'
    (cond stratified
    (cond stratified' (Ok tt)
    (Err (of_draft Second NotStratified)))
    (Err (of_draft First NotStratified)))
    (Err (of_draft Second NoState)))
    (Err (of_draft First NoState)))
    (Err (of_none Alphabets)))
    (Err (of_draft Second Incomplete)))
    (Err (of_draft First Incomplete))

-- state p of a and state q of b: both complete; as many letters; both states exist; both stratified
abbrev pub asked : Automaton → ℕ → Automaton → ℕ → Result (Unit {0}) ContainFault
asked a p b q =
    in_order (is_complete a) (is_complete b) (a.letters == b.letters) (nat_lt p (state_count a)) (nat_lt q (state_count b))
    (is_stratified a) (is_stratified b)
