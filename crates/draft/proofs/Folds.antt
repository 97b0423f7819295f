-- Steps of the fold over the records of a file.
use Rattle.std.proofs.Common.{◌≡◌, ℕ, ◌+◌, ◌/◌, ◌%◌, ◌<◌, true, List, [], length, get_or, drop, Ok, Err, sym, ap, ◌∙◌, arith}
use Rattle.std.specs.Simd.{first_chunks}
use Rattle.std.proofs.lemmas.List.{at_drop_more, at_drop_all}
use Rattle.draft.specs.Automaton.{Automaton, empty}
use Rattle.draft.specs.Calls.{letters_fit}
use Rattle.draft.specs.declared.fault.LoadFault.{LoadFault}
use Rattle.draft.specs.Load.{Loaded, take_record, take_records, load_file, onward}

-- a file without faults of its own is the fold over its records
pub whole_file : (a : Automaton) (n : ℕ) (bs : List ℕ) → letters_fit n ≡ true → length bs % 8 ≡ 0
    → load_file a n bs ≡ take_records (empty n) 0 (first_chunks 8 (length bs / 8) bs)
whole_file a n bs few whole = grind arith

pub take_more : (a b : Automaton) (i : ℕ) (rs : List (List ℕ)) → i < length rs
    → ◌≡◌ {A = Loaded} (Ok tt, b) (take_record a i (get_or rs i [])) → take_records b (i + 1) (drop (i + 1) rs) ≡ take_records a i (drop i rs)
take_more a b i rs l e =
    sym (at_drop_more (take_records a i) rs i [] l ∙ ap (λ (o : Loaded). onward o (take_records o.1 (i + 1) (drop (i + 1) rs))) (sym e))

pub take_stop : (a b : Automaton) (i : ℕ) (rs : List (List ℕ)) (f : LoadFault) → i < length rs
    → ◌≡◌ {A = Loaded} (Err f, b) (take_record a i (get_or rs i [])) → ◌≡◌ {A = Loaded} (Err f, b) (take_records a i (drop i rs))
take_stop a b i rs f l e =
    sym (at_drop_more (take_records a i) rs i [] l ∙ ap (λ (o : Loaded). onward o (take_records o.1 (i + 1) (drop (i + 1) rs))) (sym e))

-- what the loop over the records rests on
pub ruleset record_steps = (whole_file, take_more, take_stop, at_drop_all)
