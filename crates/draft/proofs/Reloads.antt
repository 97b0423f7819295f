-- What is written loads back to the same automaton.
use Rattle.std.proofs.Common.{◌≡◌, ℕ, ◌/◌, map, length, ap, ◌∙◌, arith}
use Rattle.std.specs.Simd.{first_chunks}
use Rattle.std.proofs.lemmas.Bool.{and_from, le-leb}
use Rattle.draft.specs.Automaton.{empty}
use Rattle.draft.specs.Load.{take_records}
use Rattle.draft.specs.Written.{encoded, calls_of, written, WrittenLoads}
use Rattle.draft.proofs.Encodes.{file_length, file_cut}
use Rattle.draft.proofs.Folds.{whole_file}
use Rattle.draft.proofs.Rebuilds.{rebuilds}
use Rattle.draft.proofs.Runs.{runs_load}

pub written_loads : WrittenLoads
written_loads a b w =
    let long = file_length (calls_of b) in
    let count : length (written b) / 8 ≡ length (calls_of b) = omega arith in
    let cut : first_chunks 8 (length (written b) / 8) (written b) ≡ map encoded (calls_of b) = ap (λ (k : ℕ). first_chunks 8 k (written b)) count ∙ file_cut (calls_of b) in
    whole_file a b.letters (written b) (and_from _ _ (le-leb 1 b.letters w.some_letters) (le-leb b.letters 16 w.few_letters)) (omega arith)
    ∙ (ap (take_records (empty b.letters) 0) cut ∙ runs_load (calls_of b) (empty b.letters) b 0 (rebuilds b w))
