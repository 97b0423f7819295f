-- What a stored arena keeps: all that the questions about its bytes ask.
use Rattle.std.specs.Prelude.{◌≡◌, ℕ, zero, suc, ◌*◌, ◌/◌, ◌%◌, ◌<◌, ◌≤◌, Bool, true, false, cond, ◌&&◌, List, length, Some, None, Ok, Err, Option, Result, ◌==◌, nat_le, IsOk, refl}
use Rattle.std.proofs.Common.{sym, subst, inl, inr, eq-or-lt_of_le, arith}
use Rattle.std.proofs.lemmas.Bool.{eqb-true, leb-true, and_parts, both_ways}
use Rattle.refusal.specs.declared.Refusal.{Refusal}
use Rattle.arena.specs.Records.{record_refusal, is_none}
use Rattle.arena.specs.Stored.{first_of, first_fault, unless, asked}
use Rattle.arena.specs.declared.stored.StoredFault.{StoredFault}

module _ (b : List ℕ) (n : ℕ) where
  -- where there is no fault, no record is refused
  before_none : (o : Option StoredFault) (r : Option Refusal) (v : ℕ) → first_of o r v ≡ None → (o ≡ None) × (is_none r ≡ true)
  before_none None None v e = (refl, refl)
  before_none None (Some r) v e = absurd (let z : ◌≡◌ {A = ℕ} 0 1 = cc in omega arith)
  before_none (Some f) r v e = absurd (let z : ◌≡◌ {A = ℕ} 0 1 = cc in omega arith)

  each_none : (m v : ℕ) → first_fault b n m ≡ None → v < m → is_none (record_refusal b n v) ≡ true
  unfolding first_fault
  each_none zero v h l = absurd (omega arith)
  each_none (suc m) v h l =
      let p = before_none (first_fault b n m) (record_refusal b n m) m h in
      let le : v ≤ m = omega arith in
      elim (eq-or-lt_of_le le) [ inl e ↦ subst (λ k. is_none (record_refusal b n k) ≡ true) (sym e) p.1 | inr less ↦ each_none m v p.0 less ]

unless_ok : (o : Option StoredFault) (m k : ℕ) → unless o m ≡ Ok k → (o ≡ None) × (m ≡ k)
unless_ok None m k e = (refl, cc)
unless_ok (Some f) m k e = absurd (let z : ◌≡◌ {A = ℕ} 0 1 = cc in omega arith)

-- what a stored arena keeps
pub record Passed (b : List ℕ) (n : ℕ) : Type 0 where
  pub whole : length b ≡ 8 * n
  pub some : 1 ≤ n
  pub few : n ≤ 4096
  pub each : (v : ℕ) → v < n → is_none (record_refusal b n v) ≡ true

-- two questions that were answered yes
both_yes : (x y : Bool) (o : Result ℕ StoredFault) (f g : StoredFault) (n : ℕ) → cond x (cond y o (Err f)) (Err g) ≡ Ok n → (x ≡ true) × (y ≡ true) × (o ≡ Ok n)
both_yes true true o f g n e = (refl, refl, e)
both_yes true false o f g n e = absurd (let z : ◌≡◌ {A = ℕ} 0 1 = cc in omega arith)
both_yes false y o f g n e = absurd (let z : ◌≡◌ {A = ℕ} 0 1 = cc in omega arith)

pub yes_passes : (b : List ℕ) (n : ℕ) → asked b ≡ Ok n → Passed b n
yes_passes b n e =
    let m = length b / 8 in
    let q = both_yes (length b % 8 == 0) (nat_le 1 m && nat_le m 4096) _ _ _ n e in
    let range = and_parts (nat_le 1 m) (nat_le m 4096) q.1 in
    let u = unless_ok (first_fault b m m) m n q.2 in
    let is = u.1 in
    record {
      whole = omega (arith, eqb-true (length b % 8) 0 q.0);
      some = omega (arith, leb-true 1 m range.0);
      few = omega (arith, leb-true m 4096 range.1);
      each = subst (λ k. (v : ℕ) → v < k → is_none (record_refusal b k v) ≡ true) is (λ v l. each_none b m m v u.0 l);
    }

-- the number that a yes gives is that of the records
counted : (x y : Bool) (o : Option StoredFault) (f g : StoredFault) (n : ℕ) → IsOk (cond x (cond y (unless o n) (Err f)) (Err g)) → cond x (cond y (unless o n) (Err f)) (Err g) ≡ Ok n
counted true true None f g n h = refl
counted true true (Some _) f g n h = absurd (both_ways false refl h)
counted true false o f g n h = absurd (both_ways false refl h)
counted false y o f g n h = absurd (both_ways false refl h)

pub whole_yes : (b : List ℕ) → IsOk (asked b) → asked b ≡ Ok (length b / 8)
whole_yes b h = counted _ _ (first_fault b (length b / 8) (length b / 8)) _ _ _ h
