-- A record decodes to the call that it encodes, and a file of such records is cut into them.
use Rattle.std.proofs.Common.{◌≡◌, ◌*◌, List, [], ◌∷◌, map, length, Ok, Result, refl, ap, ◌∙◌, ap₂, arith}
use Rattle.std.specs.List.{flat_map}
use Rattle.std.specs.Simd.{first_chunks}
use Rattle.std.proofs.lemmas.List.{length-append, take_at, drop_at}
use Rattle.refusal.specs.declared.Refusal.{Refusal}
use Rattle.draft.specs.declared.records.Call.{Call}
use Rattle.draft.specs.Records.{decoded}
use Rattle.draft.specs.Written.{encoded}

abbrev pub Decoded : Type 0
Decoded = Result Call Refusal

pub decoded_encoded : (c : Call) → ◌≡◌ {A = Decoded} (decoded (encoded c)) (Ok c)
decoded_encoded c = grind arith

eight : (c : Call) → length (encoded c) ≡ 8
eight c = grind arith

pub file_length : (cs : List Call) → length (flat_map encoded cs) ≡ 8 * length cs
file_length [] = refl
file_length (c ∷ cs) = grind (arith, length-append, eight, file_length cs)

pub file_cut : (cs : List Call) → first_chunks 8 (length cs) (flat_map encoded cs) ≡ map encoded cs
file_cut [] = refl
file_cut (c ∷ cs) =
    ap₂ ◌∷◌ (take_at (encoded c) (flat_map encoded cs) 8 (eight c))
    (ap (first_chunks 8 (length cs)) (drop_at (encoded c) (flat_map encoded cs) 8 (eight c)) ∙ file_cut cs)
