-- The 8-byte records of a draft file, the calls that they name, and what a file makes of an automaton.
use Rattle.std.specs.Prelude.{ℕ, ◌+◌, ◌*◌, Bool, cond, ◌&&◌, List, Ok, Err, Result, ◌==◌, slice_index}
use Rattle.refusal.specs.declared.Refusal.{Refusal}
use Rattle.refusal.specs.declared.Refusal.TheVariants.{RecordKind, RecordUnused}
use Rattle.draft.specs.declared.records.Call.{Call}
use Rattle.draft.specs.declared.records.Call.TheVariants.{State, Leaf, Either, Both, Rule, Regrade, Turn}
use Rattle.draft.specs.Automaton.{Automaton}
use Rattle.draft.specs.Calls.{Outcome, add_state, add_leaf, add_either, add_both, set_rule, set_priority, turn_over}

-- the bytes of a record: 0 names the call, 1 is a rule's letter, 2 and 3 are the first number and 4 and 5 the
-- second, low byte first
abbrev pub byte : List ℕ → ℕ → ℕ
byte bs i = slice_index bs i

abbrev pub first : List ℕ → ℕ
first bs = byte bs 2 + 256 * byte bs 3

abbrev pub second : List ℕ → ℕ
second bs = byte bs 4 + 256 * byte bs 5

abbrev pub zero_at : List ℕ → ℕ → Bool
zero_at bs i = byte bs i == 0

abbrev pub no_letter : List ℕ → Bool
no_letter bs = zero_at bs 1

abbrev pub no_first : List ℕ → Bool
no_first bs = zero_at bs 2 && zero_at bs 3

abbrev pub no_second : List ℕ → Bool
no_second bs = zero_at bs 4 && zero_at bs 5

abbrev pub no_rest : List ℕ → Bool
no_rest bs = zero_at bs 6 && zero_at bs 7

-- a call, if the bytes that it does not use are zero
abbrev pub only_if : Bool → Call → Result Call Refusal
only_if unused-zero c = cond unused-zero (Ok c) (Err RecordUnused)

-- the call that a record names
abbrev pub decoded : List ℕ → Result Call Refusal
decoded bs =
    cond (byte bs 0 == 1) (only_if (no_letter bs && no_second bs && no_rest bs) (State (first bs)))
    (cond (byte bs 0 == 2) (only_if (no_letter bs && no_second bs && no_rest bs) (Leaf (first bs)))
    (cond (byte bs 0 == 3) (only_if (no_letter bs && no_rest bs) (Either (first bs) (second bs)))
    (cond (byte bs 0 == 4) (only_if (no_letter bs && no_rest bs) (Both (first bs) (second bs)))
    (cond (byte bs 0 == 5) (only_if (no_rest bs) (Rule (first bs) (byte bs 1) (second bs)))
    (cond (byte bs 0 == 6) (only_if (no_letter bs && no_rest bs) (Regrade (first bs) (second bs)))
    (cond (byte bs 0 == 7) (only_if (no_letter bs && no_first bs && no_second bs && no_rest bs) Turn)
    (Err RecordKind)))))))

-- an answer without the new number
abbrev pub unnumbered : {X : Type 0} → Result X Refusal → Result (Unit {0}) Refusal
unnumbered (Ok x) = Ok tt
unnumbered (Err e) = Err e

abbrev pub without_number : Outcome ℕ → Outcome (Unit {0})
without_number o = (unnumbered o.0, o.1)

-- the call made on an automaton
abbrev pub called : Automaton → Call → Outcome (Unit {0})
called a (State p) = without_number (add_state a p)
called a (Leaf q) = without_number (add_leaf a q)
called a (Either l r) = without_number (add_either a l r)
called a (Both l r) = without_number (add_both a l r)
called a (Rule q letter x) = set_rule a q letter x
called a (Regrade q p) = set_priority a q p
called a Turn = turn_over a
