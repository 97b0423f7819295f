-- The first fault among the records of a stored arena.
use Rattle.std.proofs.Common.{◌≡◌, ℕ, zero, suc, ◌+◌, ◌/◌, ◌%◌, ◌<◌, ◌≤◌, List, length, Some, None, Err, refl, ap, ◌∙◌, subst, inl, inr, eq-or-lt_of_le, add-one, arith}
use Rattle.std.proofs.lemmas.Bool.{cond-true, and_from, eq-eqb, le-leb}
use Rattle.refusal.specs.declared.Refusal.{Refusal}
use Rattle.arena.specs.Records.{record_refusal}
use Rattle.arena.specs.Stored.{first_of, first_fault, unless, asked}
use Rattle.arena.specs.declared.stored.StoredFault.{StoredFault}

module _ (b : List ℕ) (n : ℕ) where
  pub none_first : first_fault b n 0 ≡ None
  unfolding first_fault
  none_first = refl

  -- one record more
  pub none_more : (v : ℕ) → first_fault b n v ≡ None → record_refusal b n v ≡ None → first_fault b n (v + 1) ≡ None
  unfolding first_fault
  none_more v before here = rw (add-one, before, here)

  found : (v : ℕ) (r : Refusal) → first_fault b n v ≡ None → record_refusal b n v ≡ Some r → first_fault b n (suc v) ≡ Some (record { refusal = r; place = Some v })
  unfolding first_fault
  found v r before here = rw (before, here)

  -- a fault that is found stays the first
  stays : (v m : ℕ) (f : StoredFault) → v ≤ m → first_fault b n v ≡ Some f → first_fault b n m ≡ Some f
  unfolding first_fault
  stays v zero f le h = let e : v ≡ 0 = omega arith in subst (λ k. first_fault b n k ≡ Some f) e h
  stays v (suc m) f le h =
      elim (eq-or-lt_of_le le) [
        | inl e ↦ subst (λ k. first_fault b n k ≡ Some f) e h
        | inr l ↦ ap (λ o. first_of o (record_refusal b n m) m) (stays v m f (omega arith) h)
      ]

  pub first_is : (v : ℕ) (r : Refusal) → v < n → first_fault b n v ≡ None → record_refusal b n v ≡ Some r → unless (first_fault b n n) n ≡ Err (record { refusal = r; place = Some v })
  first_is v r l before here = ap (λ o. unless o n) (stays (suc v) n _ l (found v r before here))

-- with the first two questions answered yes, the records decide
pub asked_is : (b : List ℕ) → length b % 8 ≡ 0 → 1 ≤ length b / 8 → length b / 8 ≤ 4096 → asked b ≡ unless (first_fault b (length b / 8) (length b / 8)) (length b / 8)
asked_is b whole some few =
    cond-true _ _ _ (eq-eqb _ _ whole) ∙ cond-true _ _ _ (and_from _ _ (le-leb _ _ some) (le-leb _ _ few))
