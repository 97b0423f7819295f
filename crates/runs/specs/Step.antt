-- The rest of the piece of a repeating word that holds a letter.
use Rattle.std.specs.Prelude.{◌≡◌, ℕ, ◌+◌, ◌-◌, ◌%◌, ◌<◌, cond, List, length, drop, nat_lt, slice_index}
use Rattle.runs.specs.Word.{letter}

-- the prefix from letter k on, or the period from that letter on
abbrev pub step : List ℕ → List ℕ → ℕ → List ℕ
step prefix period k = cond (nat_lt k (length prefix)) (drop k prefix) (drop ((k - length prefix) % length period) period)

-- it is not empty, and holds the letters of the word from k on
abbrev pub StepIsRest : Type 0
StepIsRest =
    (prefix period : List ℕ) (k : ℕ) → 0 < length period →
    (0 < length (step prefix period k))
    × ((j : ℕ) → j < length (step prefix period k) → slice_index (step prefix period k) j ≡ letter prefix period (k + j))
