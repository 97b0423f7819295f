-- A table that fits at each vertex is the grading.
use Rattle.std.proofs.Common.{◌≡◌, ℕ, zero, suc, ◌<◌, ◌≤◌, Bool, eqb, ◌⊎◌, Decides, sym, refl, ap, ◌∙◌, inl, inr, eq-or-lt_of_le, arith}
use Rattle.std.proofs.lemmas.Bool.{cases_lt}
use Rattle.std.proofs.lemmas.Bool.Decides.{Decides-eqb, Decides-and, Decides-not, Decides-like}
use Rattle.parity.specs.Game.{Game, Sound, favoured}
use Rattle.parity.specs.Player.{other, same}
use Rattle.parity.specs.Below.{least}
use Rattle.parity.specs.Grading.{level, within, rest, grade, distance}
use Rattle.parity.proofs.Players.{which, apart}
use Rattle.parity.proofs.Below.{least_is, no_from}
use Rattle.parity.specs.Certificate.{Certificate}
use Rattle.parity.proofs.Pull.{Near, Pull, next_decides}

module _ (G : Game) (sound : Sound G) (g δ : ℕ → ℕ) (table : Certificate G g δ) where
  pub pulled : (p d v : ℕ) → v < G.count → p ≤ g v → Pull G p (λ u. p ≤ g u) (Near g δ p d) v → Near g δ p (suc d) v
  pulled p d v v< up (inl (own, (i, i<, near))) =
      let e = near.0 in
      let l = near.1 in
      let loc = table v v< in
      elim (eq-or-lt_of_le up) [
        | inl same ↦ (let m = loc.mine_least (own ∙ ap (favoured G) same) i i< (e ∙ same) in (sym same, omega arith))
        | inr less ↦ (let o = loc.lower i i< (omega arith) in absurd (apart (favoured G p) (sym own ∙ o ∙ ap (λ q. other (favoured G q)) e)))
      ]
  pulled p d v v< up (inr (own, all)) =
      let loc = table v v< in
      elim (eq-or-lt_of_le up) [
        | inr less ↦ (let k = loc.keep in elim (all k.0 k.1) [ inl out ↦ absurd (out (omega (arith, k.2))) | inr near ↦ absurd (omega (arith, near.0, k.2)) ])
        | inl same ↦
            elim (cases_lt 0 (δ v)) [
              | inr none ↦ (sym same, omega arith)
              | inl pos ↦
                  (let k = loc.theirs_least (own ∙ ap (λ q. other (favoured G q)) same) pos in
                  elim (all k.0 k.1) [ inl out ↦ absurd (out (omega (arith, k.2))) | inr near ↦ (sym same, omega (arith, near.1, k.3)) ])
            ]
      ]

  pub pulls : (p d v : ℕ) → v < G.count → g v ≡ p → δ v ≡ suc d → Pull G p (λ u. p ≤ g u) (Near g δ p d) v
  pulls p d v v< e far =
      let loc = table v v< in
      elim (which (G.owner v) (favoured G p)) [
        | inl own ↦ inl (own, (let k = loc.mine (own ∙ ap (favoured G) (sym e)) (omega arith) in (k.0, k.1, (k.2 ∙ e, omega (arith, k.3)))))
        | inr own ↦ inr (
          own,
          λ i i<.
              elim (cases_lt (g (G.successor v i)) p) [
                | inl out ↦ inl (λ h. omega arith)
                | inr h ↦ (let k = loc.theirs (own ∙ ap (λ q. other (favoured G q)) (sym e)) (omega arith) i i< (omega arith) in inr (k.0 ∙ e, omega (arith, k.1)))
              ],
        )
      ]

  module _ (R : ℕ → Bool) (p : ℕ) (in_r : (v : ℕ) → v < G.count → Decides (R v) (p ≤ g v)) where
    pub within_is : (d v : ℕ) → v < G.count → Decides (within G R p d v) (Near g δ p d v)
    unfolding within
    within_is zero v v< = Decides-like _ there back (Decides-and (R v) (eqb (level G v) p) (in_r v v<) (Decides-eqb (level G v) p))
      where
        there : (p ≤ g v) × (level G v ≡ p) → Near g δ p 0 v
        there (up, e) =
            let l = (table v v<).low in
            let same : g v ≡ p = omega arith in
            let z = (table v v<).top (same ∙ sym e) in
            (same, omega arith)

        back : Near g δ p 0 v → (p ≤ g v) × (level G v ≡ p)
        back (e, z) = (omega arith, sym ((table v v<).base (omega arith)) ∙ e)
    within_is (suc d) v v< =
        Decides-like _ there back (next_decides G sound R p (λ u. p ≤ g u) (Near g δ p d) in_r d (within_is d) v v<)
      where
        there : Near g δ p d v ⊎ ((p ≤ g v) × Pull G p (λ u. p ≤ g u) (Near g δ p d) v) → Near g δ p (suc d) v
        there (inl (e, l)) = (e, omega arith)
        there (inr (up, pull)) = pulled p d v v< up pull

        back : Near g δ p (suc d) v → Near g δ p d v ⊎ ((p ≤ g v) × Pull G p (λ u. p ≤ g u) (Near g δ p d) v)
        back (e, l) = elim (cases_lt d (δ v)) [ inl far ↦ inr (omega arith, pulls p d v v< e (omega arith)) | inr near ↦ inl (e, near) ]

  pub rest_is : (p v : ℕ) → v < G.count → Decides (rest G p v) (p ≤ g v)
  unfolding rest
  rest_is zero v v< = (λ _. omega arith, λ _. refl)
  rest_is (suc p) v v< =
      Decides-like _ there back
      (Decides-and (rest G p v) _ (rest_is p v v<) (Decides-not _ (within_is (rest G p) p (rest_is p) G.count v v<)))
    where
      there : (p ≤ g v) × (Near g δ p G.count v → ⊥) → suc p ≤ g v
      there (up, out) = elim (eq-or-lt_of_le up) [ inl e ↦ absurd (out (sym e, (let s = (table v v<).short in omega arith))) | inr less ↦ less ]

      back : suc p ≤ g v → (p ≤ g v) × (Near g δ p G.count v → ⊥)
      back h = (omega arith, λ n. omega (arith, n.0))

  pub grade_is : (v : ℕ) → v < G.count → grade G v ≡ g v
  unfolding grade
  grade_is v v< =
      let loc = table v v< in
      least_is (level G v) _ (g v) loc.low
      (λ _. (within_is (rest G (g v)) (g v) (rest_is (g v)) G.count v v<).1 (refl, (let s = loc.short in omega arith)))
      (λ j l. no_from _ (within_is (rest G j) j (rest_is j) G.count v v<) (λ n. omega (arith, n.0)))

  pub distance_is : (v : ℕ) → v < G.count → distance G v ≡ δ v
  unfolding distance
  distance_is v v< =
      let s = (table v v<).short in
      ap (λ q. least G.count (λ d. within G (rest G q) q d v)) (grade_is v v<)
      ∙ least_is G.count _ (δ v) (omega arith)
      (λ _. (within_is (rest G (g v)) (g v) (rest_is (g v)) (δ v) v v<).1 (refl, omega arith))
      (λ j l. no_from _ (within_is (rest G (g v)) (g v) (rest_is (g v)) j v v<) (λ n. omega (arith, n.1)))
