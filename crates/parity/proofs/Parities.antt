-- Even and odd priorities, and whom they favour.
use Rattle.std.proofs.Common.{◌≡◌, ℕ, ◌%◌, eqb, ◌⊎◌, inl, inr, arith}
use Rattle.std.proofs.lemmas.Bool.{cases_eq, eq-eqb, ne_eqb, cond-true, cond-false}
use Rattle.parity.specs.Game.{Game, favoured}
use Rattle.parity.specs.Player.{other}

pub parity : (p : ℕ) → (p % 2 ≡ 0) ⊎ (p % 2 ≡ 1)
parity p = elim (cases_eq (p % 2) 0) [ inl e ↦ inl e | inr n ↦ inr (omega arith) ]

pub favoured_even : (G : Game) (p : ℕ) → p % 2 ≡ 0 → favoured G p ≡ G.even_side
unfolding favoured
favoured_even G p e = cond-true (eqb (p % 2) 0) _ _ (eq-eqb _ _ e)

pub favoured_odd : (G : Game) (p : ℕ) → p % 2 ≡ 1 → favoured G p ≡ other G.even_side
unfolding favoured
favoured_odd G p e = cond-false (eqb (p % 2) 0) _ _ (ne_eqb _ _ (λ z. omega arith))
