-- Two games alike: a map of vertices under which moves and priorities correspond. Then winners correspond.
use Rattle.std.proofs.Common.{◌≡◌, ℕ, zero, suc, ◌+◌, ◌<◌, refl, ◌⊎◌, sym, ap, ◌∙◌, subst, inl, inr, arith}
use Rattle.parity.specs.Game.{Game, Sound, favoured}
use Rattle.parity.specs.Player.{other}
use Rattle.parity.specs.Play.{Play, Wins, Plan, Follows, Winning}
use Rattle.parity.specs.Grading.{winner}
use Rattle.parity.specs.Move.{move}
use Rattle.parity.specs.Determinacy.{reported}
use Rattle.parity.specs.declared.player.Player.{Player}
use Rattle.parity.proofs.Players.{which, apart}
use Rattle.parity.proofs.Determined.{reported_wins, move_legal}
use Rattle.parity.proofs.Plans.{plan_wins}

-- Vertex u of H stands for vertex f u of G, and σ says whose part a player of G has in H. Owners correspond where there is a choice,
-- and moves correspond, there u k being the position in H of the move at position k in G.
pub record Alike (G H : Game) (σ : Player → Player) (f : ℕ → ℕ) (there : ℕ → ℕ → ℕ) : Type 0 where
  pub inside : (u : ℕ) → u < H.count → f u < G.count
  pub owners : (u : ℕ) → u < H.count → (H.owner u ≡ σ (G.owner (f u))) ⊎ (G.degree (f u) ≡ 1)
  pub forth : (u j : ℕ) → u < H.count → j < H.degree u → (k : ℕ) × (k < G.degree (f u)) × (f (H.successor u j) ≡ G.successor (f u) k)
  pub back : (u k : ℕ) → u < H.count → k < G.degree (f u) → (there u k < H.degree u) × (f (H.successor u (there u k)) ≡ G.successor (f u) k)

-- a play of H from v that stays among the vertices is won by the one who has the part of its image's winner
abbrev pub Carries : Game → Game → (Player → Player) → (ℕ → ℕ) → ℕ → Type 0
Carries G H σ f v = (x : Player) (π : ℕ → ℕ) → π 0 ≡ v → ((i : ℕ) → π i < H.count) → Wins G x (λ i. f (π i)) → Wins H (σ x) π

-- a part other than x's is the other player's
own_part : (σ : Player → Player) (x y : Player) → σ y ≡ other (σ x) → y ≡ other x
own_part σ x y e = elim (which y x) [ inr o ↦ o | inl o ↦ absurd (apart (σ x) (sym (ap σ o) ∙ e)) ]

-- each play is, where the priorities are the same and favour the same parts
pub same_carries : (G H : Game) (σ : Player → Player) (f : ℕ → ℕ) → ((p : ℕ) → favoured H p ≡ σ (favoured G p)) →
    ((u : ℕ) → u < H.count → H.priority u ≡ G.priority (f u)) → (v : ℕ) → Carries G H σ f v
same_carries G H σ f favours level v x π _ inside win i against =
    let at = λ (k : ℕ). level (π k) (inside k) in
    let w = win i (own_part σ x _ (sym (favours _) ∙ ap (favoured H) (sym (at i)) ∙ against)) in
    (w.0, omega (arith, w.1, at w.0, at i), ap (favoured H) (at w.0) ∙ favours _ ∙ ap σ w.2)

-- a priority p moved up by shift, below the top; the top itself stays
abbrev pub Raised : ℕ → ℕ → ℕ → ℕ → Type 0
Raised shift top p p' = ((p + shift < top) × (p' ≡ p + shift)) ⊎ ((p ≡ top) × (p' ≡ top))

-- H has the priorities of G, each moved up by shift, but for one above all others that both have
pub record Shifted (G H : Game) (σ : Player → Player) (f : ℕ → ℕ) (shift top : ℕ) : Type 0 where
  pub favours : (p : ℕ) → favoured H (p + shift) ≡ σ (favoured G p)
  pub levels : (u : ℕ) → u < H.count → Raised shift top (G.priority (f u)) (H.priority u)

module _ {G H : Game} {σ : Player → Player} {f : ℕ → ℕ} {shift top : ℕ} (s : Shifted G H σ f shift top) (v : ℕ) (low : G.priority (f v) < top) where
  module _ (x : Player) (π : ℕ → ℕ) (starts : π 0 ≡ v) (inside : (i : ℕ) → π i < H.count) (win : Wins G x (λ i. f (π i))) where
    -- a priority below b that favours x's part
    abbrev Goal : ℕ → Type 0
    Goal b = (j : ℕ) × (H.priority (π j) < b) × (favoured H (H.priority (π j)) ≡ σ x)

    lowered : (a : ℕ) → a < top → (j : ℕ) × (G.priority (f (π j)) < a) × (favoured G (G.priority (f (π j))) ≡ x) → Goal (a + shift)
    lowered a l (j, less, fav) =
        elim (s.levels (π j) (inside j)) [
          | inl t ↦ (j, omega (arith, t.1), ap (favoured H) t.1 ∙ s.favours (G.priority (f (π j))) ∙ ap σ fav)
          | inr t ↦ absurd (omega (arith, t.0))
        ]

    wins_over : Wins H (σ x) π
    wins_over k against = elim (s.levels (π k) (inside k)) [
      | inl t ↦ subst Goal (sym t.1) (lowered (G.priority (f (π k))) (omega (arith, t.0)) (win k (own_part σ x _ (sym (s.favours _) ∙ ap (favoured H) (sym t.1) ∙ against))))
      | inr t ↦ elim (s.levels (π 0) (inside 0)) [
        | inr t0 ↦ absurd (omega (arith, t0.0, low, ap (λ u. G.priority (f u)) starts))
        | inl t0 ↦ elim (which (favoured G (G.priority (f (π 0)))) x) [
          | inl o ↦ (0, omega (arith, t0.0, t0.1, t.1), ap (favoured H) t0.1 ∙ s.favours (G.priority (f (π 0))) ∙ ap σ o)
          | inr o ↦ (let r = lowered (G.priority (f (π 0))) (omega (arith, t0.0)) (win 0 o) in (r.0, omega (arith, r.1, t0.0, t.1), r.2))
        ]
      ]
    ]

  pub shifted_carries : Carries G H σ f v
  shifted_carries = wins_over

module _ {G H : Game} (sG : Sound G) (sH : Sound H) {σ : Player → Player} {f : ℕ → ℕ} {there : ℕ → ℕ → ℕ} (alike : Alike G H σ f there) (v : ℕ) (v< : v < H.count) (carries : Carries G H σ f v) where
  -- the reported moves of G, played in H
  plan : Plan
  plan past u = there u (move G (f u))

  module _ (π : ℕ → ℕ) (play : Play H v π) where
    inside : (i : ℕ) → π i < H.count
    inside zero = subst (λ u. u < H.count) (sym play.starts) v<
    inside (suc i) = (let s = play.goes i in subst (λ u. u < H.count) (sym s.2) (sH.stays (π i) s.0 (inside i) s.1))

    image : Play G (f v) (λ i. f (π i))
    image = record {
      starts = ap f play.starts;
      goes = λ i. (let s = play.goes i in let t = alike.forth (π i) s.0 (inside i) s.1 in (t.0, t.1, ap f s.2 ∙ t.2));
    }

    image_follows : (x : Player) → Follows H (σ x) plan π → Follows G x (reported G) (λ i. f (π i))
    unfolding plan
    image_follows x follows i own =
        let legal = move_legal G sG (f (π i)) (alike.inside (π i) (inside i)) in
        elim (alike.owners (π i) (inside i)) [
          | inl o ↦ ap f (follows i (o ∙ ap σ own)) ∙ (alike.back (π i) (move G (f (π i))) (inside i) legal).1
          | inr d ↦ (let s = image.goes i in let e : s.0 ≡ move G (f (π i)) = omega (arith, s.1, d, legal) in s.2 ∙ ap (G.successor (f (π i))) e)
        ]

  abbrev x : Player
  x = winner G (f v)

  taken_over : Winning H (σ x) plan v
  unfolding plan
  taken_over = record {
    legal = λ past u u< own. (alike.back u (move G (f u)) u< (move_legal G sG (f u) (alike.inside u u<))).0;
    wins = λ π play follows. carries x π play.starts (inside π play) ((reported_wins G sG (f v) (alike.inside v v<) x refl).wins (λ i. f (π i)) (image π play) (image_follows π play x follows));
  }

  pub transfer : winner H v ≡ σ (winner G (f v))
  transfer = plan_wins H sH v v< (σ x) (plan, taken_over)
