-- The rounds of one grade come to rest within as many as there are vertices.
use Rattle.std.proofs.Common.{◌≡◌, ℕ, zero, suc, ◌<◌, ◌≤◌, Bool, true, false, not, ◌&&◌, ◌⊎◌, Decides, refl, subst, inl, inr, eq-or-lt_of_le, arith}
use Rattle.std.proofs.lemmas.Bool.{cases_Bool, and_parts, not-true, both_ways}
use Rattle.parity.specs.Game.{Game, Sound}
use Rattle.parity.specs.Grading.{within}
use Rattle.parity.specs.Below.{some_below}
use Rattle.parity.proofs.Below.{itself, some_gives, some_from}
use Rattle.parity.proofs.Pull.{Pull, pull_map, next_decides}
use Rattle.parity.proofs.Size.{size, size_more, size_full}

module _ (G : Game) (sound : Sound G) (R : ℕ → Bool) (p : ℕ) where
  abbrev Hit : ℕ → ℕ → Type 0
  Hit d u = within G R p d u ≡ true

  abbrev In : ℕ → Type 0
  In u = R u ≡ true

  pub next : (d v : ℕ) → v < G.count → Decides (within G R p (suc d) v) (Hit d v ⊎ (In v × Pull G p In (Hit d) v))
  next d = next_decides G sound R p In (Hit d) (λ u _. itself (R u)) d (λ u _. itself (within G R p d u))

  pub more : (d e v : ℕ) → v < G.count → d ≤ e → Hit d v → Hit e v
  more d zero v v< le h = subst (λ k. Hit k v) (omega arith) h
  more d (suc e) v v< le h =
      elim (eq-or-lt_of_le le) [ inl same ↦ subst (λ k. Hit k v) same h | inr less ↦ (next e v v<).1 (inl (more d e v v< (omega arith) h)) ]

  pub in_set : (d v : ℕ) → v < G.count → Hit d v → In v
  unfolding within
  in_set zero v v< h = (and_parts (R v) _ h).0
  in_set (suc d) v v< h = elim ((next d v v<).0 h) [ inl h' ↦ in_set d v v< h' | inr s ↦ s.0 ]

  abbrev Stable : ℕ → Type 0
  Stable e = (v : ℕ) → v < G.count → Hit (suc e) v → Hit e v

  rests : (e : ℕ) → Stable e → (d v : ℕ) → v < G.count → Hit d v → Hit e v
  rests e st zero v v< h = more 0 e v v< (omega arith) h
  rests e st (suc d) v v< h = elim ((next d v v<).0 h) [ inl h' ↦ rests e st d v v< h' | inr s ↦ st v v< ((next e v v<).1 (inr (s.0, pull_map G sound p In (Hit d) (Hit e) (λ u u<. rests e st d u u<) v v< s.1))) ]

  grows : (d : ℕ) → ((e : ℕ) × (e ≤ d) × Stable e) ⊎ (d ≤ size G.count (within G R p d))
  grows zero = inr (omega arith)
  grows (suc d) = elim (grows d) [ inl s ↦ inl (s.0, omega arith, s.2) | inr l ↦ step l ]
    where
      new : ℕ → Bool
      new v = within G R p (suc d) v && not (within G R p d v)

      step : d ≤ size G.count (within G R p d) → ((e : ℕ) × (e ≤ suc d) × Stable e) ⊎ (suc d ≤ size G.count (within G R p (suc d)))
      step l = elim (cases_Bool (some_below G.count new)) [ inl t ↦ inr (larger (some_gives G.count new t)) | inr t ↦ inl (d, omega arith, stable t) ]
        where
          larger : (k : ℕ) × (k < G.count) × (new k ≡ true) → suc d ≤ size G.count (within G R p (suc d))
          larger (k, k<, t) =
              let q = and_parts (within G R p (suc d) k) _ t in
              omega (arith, size_more G.count (within G R p d) (within G R p (suc d)) (λ u u< h. (next d u u<).1 (inl h)) k k< (not-true _ q.1) q.0)

          stable : some_below G.count new ≡ false → Stable d
          stable t v v< h = elim (cases_Bool (within G R p d v)) [ inl e ↦ e | inr e ↦ absurd (both_ways _ t (some_from G.count new v v< (rw (h, e) refl))) ]

  pub saturated : (d v : ℕ) → v < G.count → Hit d v → Hit G.count v
  saturated d v v< h =
      elim (grows G.count) [
        | inl s ↦ more s.0 G.count v v< s.1 (rests s.0 s.2 d v v< h)
        | inr l ↦ size_full G.count (within G R p G.count) l v v<
      ]
