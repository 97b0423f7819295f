-- Records that are right one by one are right as a list.
use Rattle.std.proofs.Common.{◌≡◌, ℕ, zero, suc, ◌-◌, ◌<◌, ◌≤◌, Bool, true, false, cond, leb, List, [], ◌∷◌, ◌++◌, map, length, add-one, get_or, drop, Ok, Err, Result, sym, refl, ap, ◌∙◌, inl, inr, arith, length-append, length-drop, ext_get_or}
use Rattle.std.proofs.lemmas.List.{get_or_append_left, get_or-append_right, get_or-drop}
use Rattle.std.specs.List.{range_with_len}
use Rattle.std.proofs.lemmas.List.FromFn.{length-map-range_with_len, get_or-map-range_with_len, map-range_with_len_more}
use Rattle.std.proofs.lemmas.Bool.{cases_lt, cond-true, cond-false, le-leb, lt-leb, leb-true}
use Rattle.refusal.specs.declared.Refusal.{Refusal}
use Rattle.refusal.specs.declared.Refusal.TheVariants.{Room}
use Rattle.parity.specs.Game.{Game}
use Rattle.game.specs.Outcomes.{blank, outcome, outcomes, solved}
use Rattle.game.specs.Filling.{Kept}
use Rattle.game.specs.declared.outcome.Outcome.{Outcome}

module _ (G : Game) where
  outcomes_is : (n : ℕ) → outcomes G n ≡ map (outcome G) (range_with_len 0 n)
  unfolding outcomes
  outcomes_is zero = refl
  outcomes_is (suc n) = ap (λ l. l ++ outcome G n ∷ []) (outcomes_is n) ∙ sym (rw add-one at (map-range_with_len_more (outcome G) 0 n n (omega arith)))

  length_outcomes : (n : ℕ) → length (outcomes G n) ≡ n
  length_outcomes n = rw (outcomes_is n) (length-map-range_with_len (outcome G) 0 n)

  at_outcomes : (n v : ℕ) → v < n → get_or (outcomes G n) v blank ≡ outcome G v
  at_outcomes n v v< = rw (outcomes_is n) (get_or-map-range_with_len (outcome G) 0 n v v blank v< (omega arith))

  written : (before after : List Outcome) → length after ≡ length before → G.count ≤ length before → ((v : ℕ) → v < G.count → get_or after v blank ≡ outcome G v) → Kept G.count before after → after ≡ outcomes G G.count ++ drop G.count before
  written before after same room new kept = ext_get_or blank after _ long each
    where
      long : length after ≡ length (outcomes G G.count ++ drop G.count before)
      long = simp (length-append, length-drop) (omega (arith, length_outcomes G.count))

      each : (v : ℕ) → v < length after → get_or after v blank ≡ get_or (outcomes G G.count ++ drop G.count before) v blank
      each v l =
          let here = length_outcomes G.count in
          elim (cases_lt v G.count) [
            | inl x ↦ new v x ∙ sym (get_or_append_left (outcomes G G.count) _ blank v (omega arith) ∙ at_outcomes G.count v x)
            | inr x ↦ kept v x ∙ sym (get_or-append_right (outcomes G G.count) (drop G.count before) G.count v blank here x ∙ get_or-drop G.count before (v - G.count) blank ∙ ap (λ k. get_or before k blank) (omega arith))
          ]

  -- the two ways of solve
  pub refused_is : (records : List Outcome) → length records < G.count → (Err Room, records) ≡ solved G records
  refused_is records few = sym (cond-false (leb G.count (length records)) _ _ (lt-leb G.count (length records) few))

  pub solved_is : (before after : List Outcome) → length after ≡ length before → G.count ≤ length before → ((v : ℕ) → v < G.count → get_or after v blank ≡ outcome G v) → Kept G.count before after → (Ok tt, after) ≡ solved G before
  solved_is before after same room new kept =
      ap (λ (l : List Outcome). (Ok tt, l)) (written before after same room new kept)
      ∙ sym (cond-true (leb G.count (length before)) _ _ (le-leb G.count (length before) room))

  -- what is known of the records after a solving that was not refused
  pub record Solved (before after : List Outcome) : Type 0 where
    pub room : G.count ≤ length before
    pub each : (v : ℕ) → v < G.count → get_or after v blank ≡ outcome G v

  by_room : (b : Bool) (before after new : List Outcome) → ◌≡◌ {A = Result (Unit {0}) Refusal × List Outcome} (Ok tt, after) (cond b (Ok tt, new) (Err Room, before)) → (b ≡ true) × (after ≡ new)
  by_room true before after new e = (refl, ap (λ r. r.1) e)
  by_room false before after new e = absurd (let f : ◌≡◌ {A = Result (Unit {0}) Refusal} (Ok tt) (Err Room) = ap (λ r. r.0) e in cc)

  pub solved_gives : (before after : List Outcome) → (Ok tt, after) ≡ solved G before → Solved before after
  solved_gives before after e =
      let h = by_room (leb G.count (length before)) before after _ e in
      record {
        room = leb-true _ _ h.0;
        each = λ v v<. (let here = length_outcomes G.count in ap (λ l. get_or l v blank) h.1 ∙ get_or_append_left (outcomes G G.count) _ blank v (omega arith) ∙ at_outcomes G.count v v<);
      }
