-- The questions of accept but for the room, in their order.
use Rattle.std.specs.Prelude.{ℕ, Bool, cond, ◌&&◌, ltb, List, length, Ok, Err, Result, nat_le, nat_lt, slice_index}
use Rattle.refusal.specs.declared.Refusal.{Refusal}
use Rattle.refusal.specs.declared.Refusal.TheVariants.{NoState, NoLetter, Incomplete, Word}
use Rattle.parity.specs.Below.{all_below}
use Rattle.draft.specs.Automaton.{Automaton, state_count, is_complete}
use Rattle.runs.specs.WordGame.{steps}

-- each letter of the piece is below the number of letters
unfoldable pub letters_known : ℕ → List ℕ → Bool
letters_known letters piece = all_below (length piece) (λ k. ltb (slice_index piece k) letters)

-- the first question that is answered no decides
abbrev pub in_order : Bool → Bool → Bool → Bool → Result (Unit {0}) Refusal
in_order complete state word letters =
    cond complete (cond state (cond word (cond letters (Ok tt) (Err NoLetter)) (Err Word)) (Err NoState)) (Err Incomplete)

-- the automaton is complete; the state exists; the period has a letter and the pieces at most 64 together; the letters exist
abbrev pub asked : Automaton → ℕ → List ℕ → List ℕ → Result (Unit {0}) Refusal
asked a q prefix period =
    in_order (is_complete a) (nat_lt q (state_count a)) (nat_lt 0 (length period) && nat_le (steps prefix period) 64)
    (letters_known a.letters prefix && letters_known a.letters period)
