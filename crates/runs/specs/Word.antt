-- Repeating words: a prefix, followed by a period for ever.
use Rattle.std.specs.Prelude.{ℕ, ◌-◌, ◌%◌, ◌<◌, cond, List, length, nat_lt, slice_index}

-- the word, letter by letter
abbrev pub letter : List ℕ → List ℕ → ℕ → ℕ
letter prefix period k = cond (nat_lt k (length prefix)) (slice_index prefix k) (slice_index period ((k - length prefix) % length period))

-- a word over so many letters
pub record Readable (letters : ℕ) (prefix period : List ℕ) : Type 0 where
  pub some : 0 < length period
  pub prefix_in : (k : ℕ) → k < length prefix → slice_index prefix k < letters
  pub period_in : (k : ℕ) → k < length period → slice_index period k < letters
