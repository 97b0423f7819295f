-- Calls that are heeded one after the other, and the file of their records.
use Rattle.std.proofs.Common.{◌≡◌, ℕ, ◌+◌, List, [], ◌∷◌, ◌++◌, map, Ok, sym, ap, ◌∙◌, subst}
use Rattle.draft.specs.declared.records.Call.{Call}
use Rattle.draft.specs.Automaton.{Automaton}
use Rattle.draft.specs.Calls.{Outcome}
use Rattle.draft.specs.Records.{called}
use Rattle.draft.specs.Load.{Loaded, at_place, make_call, take_record, onward, take_records}
use Rattle.draft.specs.Written.{encoded}
use Rattle.draft.proofs.Encodes.{Decoded, decoded_encoded}

-- the call is heeded, and makes b of a
abbrev pub Heeds : Automaton → Call → Automaton → Type 0
Heeds a c b = ◌≡◌ {A = Outcome (Unit {0})} (called a c) (Ok tt, b)

abbrev pub Runs : Automaton → List Call → Automaton → Type 0
Runs a [] d = a ≡ d
Runs a (c ∷ cs) d = (b : Automaton) × Heeds a c b × Runs b cs d

pub runs_append : (cs ds : List Call) (a b d : Automaton) → Runs a cs b → Runs b ds d → Runs a (cs ++ ds) d
runs_append [] ds a b d e r = subst (λ (x : Automaton). Runs x ds d) (sym e) r
runs_append (c ∷ cs) ds a b d (x, e, rest) r = (x, e, runs_append cs ds x b d rest r)

pub runs_load : (cs : List Call) (a d : Automaton) (i : ℕ) → Runs a cs d → ◌≡◌ {A = Loaded} (take_records a i (map encoded cs)) (Ok tt, d)
runs_load [] a d i e = ap (λ (x : Automaton). (Ok tt, x)) e
runs_load (c ∷ cs) a d i (b, e, rest) =
    let t : ◌≡◌ {A = Loaded} (take_record a i (encoded c)) (Ok tt, b) =
    ap (λ (r : Decoded). make_call a i r) (decoded_encoded c) ∙ ap (λ (o : Outcome (Unit {0})). (at_place i o.0, o.1)) e in
    ap (λ (o : Loaded). onward o (take_records o.1 (i + 1) (map encoded cs))) t ∙ runs_load cs b d (i + 1) rest
