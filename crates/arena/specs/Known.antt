-- A number that may be no vertex.
use Rattle.std.specs.Prelude.{◌≡◌, ℕ, ◌≤◌, Bool, true, false, cond, nat_lt, refl}
use Rattle.std.proofs.Common.{sym, ◌∙◌}
use Rattle.std.proofs.lemmas.Bool.{cond-false, le-ltb}

-- v where it is one of n vertices, else vertex 0: whose place is answered
abbrev pub known : ℕ → ℕ → ℕ
known n v = cond (nat_lt v n) v 0

pub known_elsewhere : (n v : ℕ) → n ≤ v → known n v ≡ known n 0
known_elsewhere n v h = cond-false (nat_lt v n) v 0 (le-ltb v n h) ∙ sym (zero_both (nat_lt 0 n))
  where
    zero_both : (t : Bool) → ◌≡◌ {A = ℕ} (cond t 0 0) 0
    zero_both true = refl
    zero_both false = refl
