-- One round of the grading: what pulls a vertex in.
use Rattle.std.proofs.Common.{◌≡◌, ℕ, suc, ◌<◌, ◌≤◌, Bool, true, false, cond, not, ◌⊎◌, Decides, sym, refl, inl, inr}
use Rattle.std.proofs.lemmas.Bool.{both_ways, not-true, not_from_false}
use Rattle.std.proofs.lemmas.Bool.Decides.{Decides-and, Decides-or, Decides-not}
use Rattle.parity.specs.Game.{Game, Sound, favoured}
use Rattle.parity.specs.Grading.{within}
use Rattle.parity.specs.Player.{other, same}
use Rattle.parity.proofs.Players.{same_true, same_false, true_same, false_same}
use Rattle.parity.proofs.Below.{some_decides, all_decides}
use Rattle.parity.specs.declared.player.Player.{Player}

-- of grade p, at a distance of at most d
abbrev pub Near : (ℕ → ℕ) → (ℕ → ℕ) → ℕ → ℕ → ℕ → Type 0
Near g δ p d u = (g u ≡ p) × (δ u ≤ d)

-- towards p, from the vertices Hit, where the others that count are In
abbrev pub Pull : Game → ℕ → (ℕ → Type 0) → (ℕ → Type 0) → ℕ → Type 0
Pull G p In Hit v =
    ((G.owner v ≡ favoured G p) × ((i : ℕ) × (i < G.degree v) × Hit (G.successor v i)))
    ⊎ ((G.owner v ≡ other (favoured G p)) × ((i : ℕ) → i < G.degree v → (In (G.successor v i) → ⊥) ⊎ Hit (G.successor v i)))

pub pull_map : (G : Game) → Sound G → (p : ℕ) (In Hit Hit' : ℕ → Type 0) → ((u : ℕ) → u < G.count → Hit u → Hit' u) → (v : ℕ) → v < G.count → Pull G p In Hit v → Pull G p In Hit' v
pull_map G sound p In Hit Hit' f v v< (inl (own, (i, i<, h))) = inl (own, (i, i<, f _ (sound.stays v i v< i<) h))
pull_map G sound p In Hit Hit' f v v< (inr (own, all)) = inr (own, λ i i<. elim (all i i<) [ inl out ↦ inl out | inr h ↦ inr (f _ (sound.stays v i v< i<) h) ])

pub cond_decides : (b x y : Bool) {A B P Q : Type 0} → Decides b A → Decides (not b) B → Decides x P → Decides y Q → Decides (cond b x y) ((A × P) ⊎ (B × Q))
cond_decides true x y a b p q = (λ e. inl (a.0 refl, p.0 e), λ s. elim s [ inl t ↦ p.1 t.1 | inr t ↦ absurd (both_ways true (sym (b.1 t.0)) refl) ])
cond_decides false x y a b p q = (λ e. inr (b.0 refl, q.0 e), λ s. elim s [ inl t ↦ absurd (both_ways false refl (a.1 t.0)) | inr t ↦ q.1 t.1 ])

pub same_decides : (a b : Player) → Decides (same a b) (a ≡ b)
same_decides a b = (same_true a b, true_same a b)

pub differ_decides : (a b : Player) → Decides (not (same a b)) (a ≡ other b)
differ_decides a b = (λ e. same_false a b (not-true (same a b) e), λ e. not_from_false (same a b) (false_same a b e))

-- where In says what R tests, and Hit what a distance of at most d does, a distance of at most d + 1
pub next_decides : (G : Game) → Sound G → (R : ℕ → Bool) (p : ℕ) (In Hit : ℕ → Type 0) → ((v : ℕ) → v < G.count → Decides (R v) (In v)) →
    (d : ℕ) → ((v : ℕ) → v < G.count → Decides (within G R p d v) (Hit v)) →
    (v : ℕ) → v < G.count → Decides (within G R p (suc d) v) (Hit v ⊎ (In v × Pull G p In Hit v))
unfolding within
next_decides G sound R p In Hit in_r d ih v v< =
    Decides-or _ _ (ih v v<)
    (Decides-and _ _ (in_r v v<)
    (cond_decides (same (G.owner v) (favoured G p)) _ _ (same_decides _ _) (differ_decides _ _)
    (some_decides (G.degree v) _ _ (λ i i<. ih (G.successor v i) (sound.stays v i v< i<)))
    (all_decides (G.degree v) _ _ (λ i i<. let s = sound.stays v i v< i< in Decides-or _ _ (Decides-not _ (in_r _ s)) (ih _ s)))))
