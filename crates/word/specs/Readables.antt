-- Letters that are known make a readable word.
use Rattle.std.specs.Prelude.{◌≡◌, ℕ, ◌<◌, true, ◌&&◌, List, length, slice_index}
use Rattle.std.proofs.lemmas.Bool.{and_parts, ltb-true}
use Rattle.parity.proofs.Below.{all_gives}
use Rattle.runs.specs.Word.{Readable}
use Rattle.word.specs.Asking.{letters_known}

known_in : (letters : ℕ) (piece : List ℕ) → letters_known letters piece ≡ true → (k : ℕ) → k < length piece → slice_index piece k < letters
unfolding letters_known
known_in letters piece e k l = ltb-true _ _ (all_gives (length piece) _ e k l)

pub readable : (letters : ℕ) (prefix period : List ℕ) → 0 < length period → (letters_known letters prefix && letters_known letters period) ≡ true → Readable letters prefix period
readable letters prefix period some known =
    let both = and_parts (letters_known letters prefix) (letters_known letters period) known in
    record { some = some; prefix_in = known_in letters prefix both.0; period_in = known_in letters period both.1 }
