-- The records of a list of bytes, one by one.
use Rattle.std.proofs.Common.{◌≡◌, ℕ, zero, suc, ◌+◌, ◌*◌, ◌<◌, List, [], ◌∷◌, take, drop, get_or, slice_index, sym, ap, ◌∙◌, arith}
use Rattle.std.proofs.lemmas.List.{drop-drop, get_or-take, get_or-drop}
use Rattle.std.specs.Simd.{first_chunks}
use Rattle.arena.specs.Records.{record_in}
use Rattle.arena.specs.declared.stored.record.Record.{Record}

chunk_at : (n k v : ℕ) (b d : List ℕ) → v < k → get_or (first_chunks n k b) v d ≡ take n (drop (n * v) b)
chunk_at n zero v b d l = absurd (omega arith)
chunk_at n (suc k) zero b d l = let e : n * 0 ≡ 0 = omega arith in ap (λ m. take n (drop m b)) (sym e)
chunk_at n (suc k) (suc v) b d l =
    let e : n + n * v ≡ n * suc v = grind arith in
    chunk_at n k v (drop n b) d (omega arith) ∙ ap (take n) (drop-drop (n * v) n b ∙ ap (λ m. drop m b) e)

-- a record alone is read as where it stands
byte_in : (b : List ℕ) (m j : ℕ) → j < 8 → slice_index (take 8 (drop m b)) j ≡ slice_index b (m + j)
byte_in b m j l = get_or-take 8 (drop m b) j 0 l ∙ get_or-drop m b j 0

-- the sums in the definition of a record
places : (b : List ℕ) (m : ℕ) → ◌≡◌ {A = Record} (record { owner = slice_index b (m + 0); zero = slice_index b (m + 1); priority = slice_index b (m + 2) + 256 * slice_index b (m + 3); targets = (slice_index b (m + 4) + 256 * slice_index b (m + 5)) ∷ (slice_index b (m + 6) + 256 * slice_index b (m + 7)) ∷ [] }) (record { owner = slice_index b m; zero = slice_index b (m + 1); priority = slice_index b (m + 2) + 256 * slice_index b (m + 2 + 1); targets = (slice_index b (m + 4 + 0) + 256 * slice_index b (m + 4 + 0 + 1)) ∷ (slice_index b (m + 4 + 2) + 256 * slice_index b (m + 4 + 2 + 1)) ∷ [] })
places b m =
    let e0 : m + 0 ≡ m = omega arith in
    let e3 : m + 3 ≡ m + 2 + 1 = omega arith in
    let e4 : m + 4 ≡ m + 4 + 0 = omega arith in
    let e5 : m + 5 ≡ m + 4 + 0 + 1 = omega arith in
    let e6 : m + 6 ≡ m + 4 + 2 = omega arith in
    let e7 : m + 7 ≡ m + 4 + 2 + 1 = omega arith in
    cc

record_alone : (b : List ℕ) (v : ℕ) → record_in (take 8 (drop (8 * v) b)) 0 ≡ record_in b v
record_alone b v = rw (byte_in b (8 * v) 0 (omega arith), byte_in b (8 * v) 1 (omega arith), byte_in b (8 * v) 2 (omega arith), byte_in b (8 * v) 3 (omega arith), byte_in b (8 * v) 4 (omega arith), byte_in b (8 * v) 5 (omega arith), byte_in b (8 * v) 6 (omega arith), byte_in b (8 * v) 7 (omega arith)) (places b (8 * v))

-- record v, read from the chunks of eight
pub record_of_chunk : (b d : List ℕ) (cs : List (List ℕ)) (k v : ℕ) (r : Record) → v < k → cs ≡ first_chunks 8 k b → r ≡ record_in (get_or cs v d) 0 → r ≡ record_in b v
record_of_chunk b d cs k v r l chunks is =
    is ∙ ap (λ xs. record_in (get_or xs v d) 0) chunks ∙ ap (λ c. record_in c 0) (chunk_at 8 k v b d l) ∙ record_alone b v
