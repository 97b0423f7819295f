-- Two tables, one behind the other, numbered row by row: which row and column a number stands for.
use Rattle.std.proofs.Common.{◌≡◌, ℕ, ◌+◌, ◌-◌, ◌*◌, ◌/◌, ◌%◌, ◌<◌, ◌≤◌, cond, ltb, ap, ◌∙◌, eq-zero-or-pos, mul-zero, arith}
use lib.Arith.{digits_lt}
use Rattle.std.proofs.lemmas.Bool.{lt-ltb, le-ltb, ltb-true, ltb-false, cond-true, cond-false, cond_both}
use Rattle.std.proofs.lemmas.Nat.{div-mul-add, mod-mul-add, div_below, mod_below}

pub some_columns : (rows columns v : ℕ) → v < rows * columns → 0 < columns
some_columns rows columns v h = grind (arith, mul-zero rows, eq-zero-or-pos columns)

-- the first table has R rows of C numbers and the second R' rows of C'; f and g name what stands at a row and a column
module _ {P : Type 0} (f g : ℕ → ℕ → P) (R C R' C' : ℕ) where
  abbrev pub place : ℕ → P
  place v = cond (ltb v (R * C)) (f (v / C) (v % C)) (g ((v - R * C) / C') ((v - R * C) % C'))

  pub first_place : (r c : ℕ) → r < R → c < C → place (r * C + c) ≡ f r c
  first_place r c r< c< =
      let e = div-mul-add r C c c< in
      let e' = mod-mul-add r C c c< in
      cond-true (ltb (r * C + c) (R * C)) _ _ (lt-ltb _ _ (digits_lt r< c<)) ∙ (λ i. f (e i) (e' i))

  pub second_place : (r c : ℕ) → c < C' → place (R * C + (r * C' + c)) ≡ g r c
  second_place r c c< =
      let back : R * C + (r * C' + c) - R * C ≡ r * C' + c = omega arith in
      let e = ap (λ v. v / C') back ∙ div-mul-add r C' c c< in
      let e' = ap (λ v. v % C') back ∙ mod-mul-add r C' c c< in
      cond-false (ltb (R * C + (r * C' + c)) (R * C)) _ _ (le-ltb _ _ (omega arith)) ∙ (λ i. g (e i) (e' i))

  pub first_in : (r c : ℕ) → r < R → c < C → r * C + c < R * C + R' * C'
  first_in r c r< c< = omega (arith, digits_lt {q = r} {m = R} {r = c} {c = C} r< c<)

  pub second_in : (r c : ℕ) → r < R' → c < C' → R * C + (r * C' + c) < R * C + R' * C'
  second_in r c r< c< = omega (arith, digits_lt {q = r} {m = R'} {r = c} {c = C'} r< c<)

  -- what holds at each row and column holds at each number
  pub each_place : (Q : P → Type 0) → ((r c : ℕ) → r < R → c < C → Q (f r c)) → ((r c : ℕ) → r < R' → c < C' → Q (g r c)) →
      (v : ℕ) → v < R * C + R' * C' → Q (place v)
  each_place Q first second v v< = cond_both (ltb v (R * C)) _ _ Q (λ t. in_first (ltb-true v (R * C) t)) (λ t. in_second (ltb-false v (R * C) t))
    where
      in_first : v < R * C → Q (f (v / C) (v % C))
      in_first l = let h = some_columns R C v l in first _ _ (div_below v C R h l) (mod_below v C h)

      in_second : R * C ≤ v → Q (g ((v - R * C) / C') ((v - R * C) % C'))
      in_second l =
          let k : v - R * C < R' * C' = omega arith in
          let h = some_columns R' C' _ k in
          second _ _ (div_below _ C' R' h k) (mod_below _ C' h)
