-- Two players.
use Rattle.std.proofs.Common.{◌≡◌, true, false, ◌⊎◌, sym, refl, ap, ◌∙◌, inl, inr}
use Rattle.parity.specs.Player.{other, same}
use Rattle.parity.specs.declared.player.Player.{Player}
use Rattle.parity.specs.declared.player.Player.TheVariants.{Zero, One}

pub which : (a b : Player) → (a ≡ b) ⊎ (a ≡ other b)
which Zero Zero = inl refl
which Zero One = inr refl
which One Zero = inr refl
which One One = inl refl

pub apart : (a : Player) → a ≡ other a → ⊥
apart Zero e = cc
apart One e = cc

pub twice : (a : Player) → other (other a) ≡ a
twice Zero = refl
twice One = refl

pub same_other : (a b : Player) → other a ≡ other b → a ≡ b
same_other a b e = sym (twice a) ∙ ap other e ∙ twice b

pub same_true : (a b : Player) → same a b ≡ true → a ≡ b
same_true Zero Zero e = refl
same_true Zero One e = cc
same_true One Zero e = cc
same_true One One e = refl

pub same_false : (a b : Player) → same a b ≡ false → a ≡ other b
same_false Zero Zero e = cc
same_false Zero One e = refl
same_false One Zero e = refl
same_false One One e = cc

pub true_same : (a b : Player) → a ≡ b → same a b ≡ true
true_same a b e = rw e (self b)
  where
    self : (c : Player) → same c c ≡ true
    self Zero = refl
    self One = refl

pub false_same : (a b : Player) → a ≡ other b → same a b ≡ false
false_same a b e = rw e (opposed b)
  where
    opposed : (c : Player) → same (other c) c ≡ false
    opposed Zero = refl
    opposed One = refl
