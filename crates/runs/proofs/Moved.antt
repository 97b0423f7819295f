-- Steps of a game in which one player moves by a fixed choice of positions.
use Rattle.std.proofs.Common.{◌≡◌, ℕ, ◌<◌, ◌⊎◌, sym, ap, ◌∙◌, subst, inl, inr, arith}
use Rattle.std.proofs.lemmas.Bool.{cases_eq}
use Rattle.parity.specs.Game.{Game}
use Rattle.parity.specs.declared.player.Player.{Player}
use Rattle.parity.specs.declared.player.Player.TheVariants.{Zero, One}
use Rattle.parity.proofs.Players.{apart}

-- a move from u to w, made by m where x is to move
abbrev pub Step : Game → (ℕ → ℕ) → Player → ℕ → ℕ → Type 0
Step G m x u w = (j : ℕ) × (j < G.degree u) × (w ≡ G.successor u j) × (G.owner u ≡ x → w ≡ G.successor u (m u))

-- u belongs to x and has two moves, to v and to w
abbrev pub Two : Game → Player → ℕ → ℕ → ℕ → Type 0
Two G x u v w = (G.owner u ≡ x) × (G.degree u ≡ 2) × (G.successor u 0 ≡ v) × (G.successor u 1 ≡ w)

pub not_zero : {x : Player} → x ≡ One → x ≡ Zero → ⊥
not_zero e z = apart Zero (sym z ∙ e)

pub not_one : {x : Player} → x ≡ Zero → x ≡ One → ⊥
not_one e z = apart Zero (sym e ∙ z)

module _ (G : Game) (m : ℕ → ℕ) (x : Player) (u : ℕ) where
  -- the other player's move
  pub free : (w j : ℕ) → j < G.degree u → G.successor u j ≡ w → (G.owner u ≡ x → ⊥) → Step G m x u w
  free w j l e n = (j, l, sym e, λ o. absurd (n o))

  -- the chosen move
  pub taken : (w j : ℕ) → m u < G.degree u → m u ≡ j → G.successor u j ≡ w → Step G m x u w
  taken w j l e s = (j, subst (λ k. k < G.degree u) e l, sym s, λ _. sym (ap (G.successor u) e ∙ s))

  -- the only move
  pub forced : (w : ℕ) → m u < G.degree u → G.degree u ≡ 1 → G.successor u 0 ≡ w → Step G m x u w
  forced w l d s = taken w 0 l (omega arith) s

  -- the chosen one of two moves
  pub of_two : (v w : ℕ) → m u < G.degree u → G.degree u ≡ 2 → G.successor u 0 ≡ v → G.successor u 1 ≡ w → Step G m x u v ⊎ Step G m x u w
  of_two v w l d ev ew = elim (cases_eq (m u) 0) [ inl e ↦ inl (taken v 0 l e ev) | inr n ↦ inr (taken w 1 l (omega arith) ew) ]
