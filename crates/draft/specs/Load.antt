-- What a file of records makes of an automaton.
use Rattle.std.specs.Prelude.{ℕ, ◌+◌, ◌/◌, ◌%◌, cond, List, [], ◌∷◌, length, Ok, Err, Result, ◌==◌}
use Rattle.std.specs.Simd.{first_chunks}
use Rattle.refusal.specs.declared.Refusal.{Refusal}
use Rattle.refusal.specs.declared.Refusal.TheVariants.{Letters, Length}
use Rattle.draft.specs.declared.fault.LoadFault.{LoadFault}
use Rattle.draft.specs.declared.fault.Layer.{Layer}
use Rattle.draft.specs.declared.fault.Layer.TheVariants.{File, Record, Draft}
use Rattle.draft.specs.declared.loading.Placed.{Placed}
use Rattle.draft.specs.declared.records.Call.{Call}
use Rattle.draft.specs.Automaton.{Automaton, empty}
use Rattle.draft.specs.Calls.{letters_fit}
use Rattle.draft.specs.Records.{decoded, called}

abbrev pub Loaded : Type 0
Loaded = Result (Unit {0}) LoadFault × Automaton

abbrev pub fault : Layer → ℕ → Refusal → LoadFault
fault where-refused i e = record { refusal = e; place = i; layer = where-refused }

-- a draft's answer to the record at place i
abbrev pub at_place : ℕ → Result (Unit {0}) Refusal → Result (Unit {0}) LoadFault
at_place i (Ok x) = Ok tt
at_place i (Err e) = Err (fault Draft i e)

abbrev pub make_call : Automaton → ℕ → Result Call Refusal → Loaded
make_call a i (Ok c) = (at_place i (called a c).0, (called a c).1)
make_call a i (Err e) = (Err (fault Record i e), a)

-- the record at place i, taken as the call that it names
abbrev pub take_record : Automaton → ℕ → List ℕ → Loaded
take_record a i bs = make_call a i (decoded bs)

abbrev pub onward : Loaded → Loaded → Loaded
onward (Ok x, a) rest = rest
onward (Err e, a) rest = (Err e, a)

-- the records in order, from place i on, up to the first fault
abbrev pub take_records : Automaton → ℕ → List (List ℕ) → Loaded
take_records a i [] = (Ok tt, a)
take_records a i (r ∷ rs) = onward (take_record a i r) (take_records (take_record a i r).1 (i + 1) rs)

-- a file with the letters that are given
abbrev pub load_file : Automaton → ℕ → List ℕ → Loaded
load_file a n bs =
    cond (letters_fit n)
    (cond (length bs % 8 == 0) (take_records (empty n) 0 (first_chunks 8 (length bs / 8) bs)) (Err (fault File 0 Length), a))
    (Err (fault File 0 Letters), a)

-- a refusal, with the place of its record
abbrev pub with_place : ℕ → Result (Unit {0}) Refusal → Result (Unit {0}) Placed
with_place i (Ok x) = Ok tt
with_place i (Err e) = Err (record { refusal = e; place = i })
