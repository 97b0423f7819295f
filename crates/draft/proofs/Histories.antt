-- Every call keeps an automaton well formed, so every history does.
use Rattle.std.proofs.Common.{ℕ, ◌+◌, ◌/◌, List, [], ◌∷◌, length, Ok, Err, Result, arith}
use Rattle.std.specs.Simd.{first_chunks}
use Rattle.refusal.specs.declared.Refusal.{Refusal}
use Rattle.draft.specs.declared.parts.Node.TheVariants.{Leaf as leaf, Either as either, Both as both}
use Rattle.draft.specs.declared.records.Call.{Call}
use Rattle.draft.specs.declared.records.Call.TheVariants.{State, Leaf, Either, Both, Rule, Regrade, Turn}
use Rattle.draft.specs.Automaton.{Automaton, empty}
use Rattle.draft.specs.Calls.{begin_with}
use Rattle.draft.specs.Records.{decoded, called}
use Rattle.draft.specs.Load.{Loaded, make_call, take_record, onward, take_records, load_file}
use Rattle.draft.specs.History.{begin, call, load, new, then, HistoriesKeep}
use Rattle.draft.specs.WellFormed.{WellFormed}
use Rattle.draft.proofs.Keeps.{empty_keeps, state_keeps, node_keeps, rule_keeps, priority_keeps, turn_keeps}

fine_begin : (a : Automaton) (n : ℕ) → WellFormed a → WellFormed (begin_with a n).1
fine_begin a n w = grind (arith, empty_keeps)

fine_call : (a : Automaton) (c : Call) → WellFormed a → WellFormed (called a c).1
fine_call a (State p) w = grind (arith, state_keeps a p w)
fine_call a (Leaf q) w = grind (arith, node_keeps a (leaf q) w)
fine_call a (Either l r) w = grind (arith, node_keeps a (either l r) w)
fine_call a (Both l r) w = grind (arith, node_keeps a (both l r) w)
fine_call a (Rule q letter x) w = grind (arith, rule_keeps a q letter x w)
fine_call a (Regrade q p) w = grind (arith, priority_keeps a q p w)
fine_call a Turn w = grind (arith, turn_keeps a w)

fine_make : (a : Automaton) (i : ℕ) (r : Result Call Refusal) → WellFormed a → WellFormed (make_call a i r).1
fine_make a i (Ok c) w = fine_call a c w
fine_make a i (Err e) w = w

fine_onward : (o rest : Loaded) → WellFormed o.1 → WellFormed rest.1 → WellFormed (onward o rest).1
fine_onward (Ok x, a) rest h h' = h'
fine_onward (Err e, a) rest h h' = h

fine_records : (a : Automaton) (i : ℕ) (rs : List (List ℕ)) → WellFormed a → WellFormed (take_records a i rs).1
fine_records a i [] w = w
fine_records a i (r ∷ rs) w =
    let h = fine_make a i (decoded r) w in
    fine_onward (take_record a i r) (take_records (take_record a i r).1 (i + 1) rs) h (fine_records (take_record a i r).1 (i + 1) rs h)

fine_load : (a : Automaton) (n : ℕ) (bs : List ℕ) → WellFormed a → WellFormed (load_file a n bs).1
fine_load a n bs w = grind (arith, empty_keeps, fine_records (empty n) 0 (first_chunks 8 (length bs / 8) bs))

pub histories_keep : HistoriesKeep
histories_keep _ new = empty_keeps 1 (omega arith) (omega arith)
histories_keep _ (then {a} (begin n) h) = fine_begin a n (histories_keep a h)
histories_keep _ (then {a} (call c) h) = fine_call a c (histories_keep a h)
histories_keep _ (then {a} (load n bs) h) = fine_load a n bs (histories_keep a h)
