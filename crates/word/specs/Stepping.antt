-- What step answers.
use Rattle.std.specs.Prelude.{ℕ, cond, List, length, Ok, Err, Result, nat_lt}
use Rattle.std.specs.Borrow.{Bor}
use Rattle.refusal.specs.declared.Refusal.{Refusal}
use Rattle.refusal.specs.declared.Refusal.TheVariants.{Word}
use Rattle.runs.specs.Step.{step}

-- the rest of the piece that holds letter k, unless the period has no letter
abbrev pub stepped : List ℕ → List ℕ → ℕ → Result (List ℕ) Refusal
stepped prefix period k = cond (nat_lt 0 (length period)) (Ok (step prefix period k)) (Err Word)

-- the letters that an answer shows
abbrev pub shown : Result (Bor (List ℕ)) Refusal → Result (List ℕ) Refusal
shown (Ok piece) = Ok piece.now
shown (Err refusal) = Err refusal
