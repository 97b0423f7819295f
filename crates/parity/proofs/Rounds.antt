-- What a solver's rounds find: the tests that decide the next distance, and when a grade is done.
use Rattle.std.proofs.Common.{◌≡◌, ℕ, zero, suc, ◌<◌, ◌≤◌, sym, refl, ◌∙◌, inl, inr, eq-or-lt_of_le, arith}
use Rattle.std.proofs.lemmas.Bool.{cases_lt}
use Rattle.parity.specs.Grading.{level}
use Rattle.parity.specs.Game.{Game, Sound, favoured}
use Rattle.parity.proofs.Players.{which}
use Rattle.parity.specs.Certificate.{Certificate}
use Rattle.parity.proofs.Pull.{Near, Pull}
use Rattle.parity.proofs.Unique.{pulled, pulls}

module _ (G : Game) (sound : Sound G) (g δ : ℕ → ℕ) (table : Certificate G g δ) where
  -- of the vertices left at p, those of priority p get distance 0
  pub base_test : (p v : ℕ) → v < G.count → p ≤ g v → (level G v ≡ p → (g v ≡ p) × (δ v ≡ 0)) × ((g v ≡ p) × (δ v ≡ 0) → level G v ≡ p)
  base_test p v v< up = (λ e. (let s : g v ≡ p = omega (arith, (table v v<).low) in (s, (table v v<).top (s ∙ sym e))), λ n. sym ((table v v<).base n.1) ∙ n.0)

  -- of those left, the ones that are pulled in get the next distance
  pub round_test : (p d v : ℕ) → v < G.count → p ≤ g v → (Near g δ p d v → ⊥) →
      (Pull G p (λ u. p ≤ g u) (Near g δ p d) v → (g v ≡ p) × (δ v ≡ suc d)) × ((g v ≡ p) × (δ v ≡ suc d) → Pull G p (λ u. p ≤ g u) (Near g δ p d) v)
  round_test p d v v< up far = (there, λ n. pulls G sound g δ table p d v v< n.0 n.1)
    where
      there : Pull G p (λ u. p ≤ g u) (Near g δ p d) v → (g v ≡ p) × (δ v ≡ suc d)
      there h =
          let n = pulled G sound g δ table p d v v< up h in
          elim (cases_lt d (δ v)) [ inl l ↦ (n.0, omega (arith, n.1)) | inr l ↦ absurd (far (n.0, l)) ]

  -- one distance less, in the same grade
  before : (v : ℕ) → v < G.count → 0 < δ v → (u : ℕ) × (u < G.count) × (g u ≡ g v) × (suc (δ u) ≡ δ v)
  before v v< pos =
      let loc = table v v< in
      elim (which (G.owner v) (favoured G (g v))) [
        | inl own ↦ (let k = loc.mine own pos in (G.successor v k.0, sound.stays v k.0 v< k.1, k.2, omega (arith, k.3, loc.mine_least own k.0 k.1 k.2)))
        | inr own ↦ (let k = loc.theirs_least own pos in (G.successor v k.0, sound.stays v k.0 v< k.1, k.2, omega (arith, k.3, (loc.theirs own pos k.0 k.1 (omega (arith, k.2))).1)))
      ]

  -- no distance is left out
  pub each_distance : (n v k : ℕ) → v < G.count → δ v < n → k ≤ δ v → (u : ℕ) × (u < G.count) × (g u ≡ g v) × (δ u ≡ k)
  each_distance zero v k v< l h = absurd (omega arith)
  each_distance (suc n) v k v< l h =
      elim (eq-or-lt_of_le h) [
        | inl e ↦ (v, v<, refl, sym e)
        | inr less ↦ (let b = before v v< (omega arith) in let r = each_distance n b.0 k b.1 (omega (arith, b.3)) (omega (arith, b.3)) in (r.0, r.1, r.2 ∙ b.2, r.3))
      ]

  -- the next grade is the least priority left
  pub skip : (p p' : ℕ) → ((u : ℕ) → u < G.count → p ≤ g u → p' ≤ level G u) → (v : ℕ) → v < G.count → p ≤ g v → p' ≤ g v
  skip p p' h v v< up =
      let r = each_distance (suc (δ v)) v 0 v< (omega arith) (omega arith) in
      omega (arith, h r.0 r.1 (omega (arith, r.2)), (table r.0 r.1).base r.3, r.2)
