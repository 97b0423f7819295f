-- Plays that may stand still for a while: a joint play of several arenas, seen in one of them.
use Rattle.std.proofs.Common.{◌≡◌, ℕ, zero, suc, ◌<◌, ◌≤◌, ◌⊎◌, sym, ap, ◌∙◌, subst, inl, inr, eq-zero-or-pos, eq-or-lt_of_le, arith}
use Rattle.std.proofs.lemmas.Bool.{cases_lt}
use Rattle.parity.specs.Game.{Game, Sound, favoured}
use Rattle.parity.specs.Player.{other}
use Rattle.parity.specs.Play.{Wins}
use Rattle.parity.proofs.Players.{which, apart, same_other}
use Rattle.parity.specs.Certificate.{Certificate, Serves}
use Rattle.parity.specs.declared.player.Player.{Player}

-- at each step either the vertex stays, and the count of steps to wait falls, or a move is made, x's by m
pub record Loose (G : Game) (m : ℕ → ℕ) (x : Player) (v : ℕ) (π wait : ℕ → ℕ) : Type 0 where
  pub starts : π 0 ≡ v
  pub goes : (i : ℕ) →
      ((π (suc i) ≡ π i) × (wait (suc i) < wait i))
      ⊎ ((j : ℕ) × (j < G.degree (π i)) × (π (suc i) ≡ G.successor (π i) j) × (G.owner (π i) ≡ x → π (suc i) ≡ G.successor (π i) (m (π i))))

module _ (G : Game) (sound : Sound G) (g δ m : ℕ → ℕ) (table : Certificate G g δ) (serves : (v : ℕ) → v < G.count → Serves G g δ v (m v)) (x : Player) (v : ℕ) (v< : v < G.count) (π wait : ℕ → ℕ) (play : Loose G m x v π wait) where
  pub inside : (i : ℕ) → π i < G.count
  inside zero = subst (λ u. u < G.count) (sym play.starts) v<
  inside (suc i) =
      elim (play.goes i) [
        | inl s ↦ subst (λ u. u < G.count) (sym s.0) (inside i)
        | inr s ↦ subst (λ u. u < G.count) (sym s.2) (sound.stays (π i) s.0 (inside i) s.1)
      ]

  -- one step from u to u'
  abbrev Step : ℕ → ℕ → Type 0
  Step u u' = (j : ℕ) × (j < G.degree u) × (u' ≡ G.successor u j) × (G.owner u ≡ x → u' ≡ G.successor u (m u))

  falls : (u u' : ℕ) → u < G.count → Step u u' → g u' < g u → favoured G (g u') ≡ x
  falls u u' u< s h = elim (which (G.owner u) x) [
    | inl own ↦ absurd (let up : g u ≤ g u' = subst (λ w. g u ≤ g w) (sym (s.3 own)) (serves u u<).holds in omega arith)
    | inr not_own ↦
        (let o = (table u u<).lower s.0 s.1 (subst (λ w. g w < g u) s.2 h) in
        same_other _ _ (ap (λ w. other (favoured G (g w))) s.2 ∙ sym o ∙ not_own))
  ]

  nearer : (u u' : ℕ) → u < G.count → Step u u' → favoured G (g u) ≡ x → 0 < δ u → g u ≤ g u' → (g u' ≡ g u) × (δ u' < δ u)
  nearer u u' u< s f pos up = elim (which (G.owner u) x) [
    | inl own ↦ subst Nearer (sym (s.3 own)) ((serves u u<).nears (own ∙ sym f) pos)
    | inr not_own ↦ subst Nearer (sym s.2) ((table u u<).theirs (not_own ∙ sym (ap other f)) pos s.0 s.1 (subst (λ w. g u ≤ g w) s.2 up))
  ]
    where
      Nearer : ℕ → Type 0
      Nearer w = (g w ≡ g u) × (δ w < δ u)

  abbrev Met : ℕ → Type 0
  Met b = (k : ℕ) × (G.priority (π k) ≤ b) × (favoured G (G.priority (π k)) ≡ x)

  met_up : {a b : ℕ} → a ≤ b → Met a → Met b
  met_up h t = let e = t.1 in (t.0, omega arith, t.2)

  -- below the grade a; below it and the distance d; below these and the wait w
  abbrev Reaches : ℕ → Type 0
  Reaches a = (j : ℕ) → g (π j) < a → favoured G (g (π j)) ≡ x → Met (g (π j))

  abbrev Reaches₂ : ℕ → ℕ → Type 0
  Reaches₂ a d = (j : ℕ) → δ (π j) < d → g (π j) < a → favoured G (g (π j)) ≡ x → Met (g (π j))

  abbrev Reaches₃ : ℕ → ℕ → ℕ → Type 0
  Reaches₃ a d w = (j : ℕ) → wait j < w → δ (π j) < d → g (π j) < a → favoured G (g (π j)) ≡ x → Met (g (π j))

  closer : (a d w : ℕ) → Reaches a → Reaches₂ (suc a) d → Reaches₃ (suc a) (suc d) w → Reaches₃ (suc a) (suc d) (suc w)
  closer a d w smaller again later j hw h ha f = elim (eq-zero-or-pos (δ (π j))) [
    | inl none ↦ (let e = (table (π j) (inside j)).base none in (j, omega arith, ap (favoured G) (sym e) ∙ f))
    | inr pos ↦ elim (play.goes j) [
      | inl s ↦ (let eg = ap g s.0 in let eδ = ap δ s.0 in met_up (omega arith) (later (suc j) (omega (arith, s.1)) (omega arith) (omega arith) (ap (favoured G) eg ∙ f)))
      | inr s ↦ elim (cases_lt (g (π (suc j))) (g (π j))) [
        | inl less ↦ met_up (omega arith) (smaller (suc j) (omega arith) (falls (π j) (π (suc j)) (inside j) s less))
        | inr up ↦ (let n = nearer (π j) (π (suc j)) (inside j) s f pos up in met_up (omega arith) (again (suc j) (omega (arith, n.1)) (omega (arith, n.0)) (ap (favoured G) n.0 ∙ f)))
      ]
    ]
  ]

  reach₃ : (a d : ℕ) → Reaches a → Reaches₂ (suc a) d → (w : ℕ) → Reaches₃ (suc a) (suc d) w
  reach₃ a d smaller again zero = λ j l _ _ _. absurd (omega arith)
  reach₃ a d smaller again (suc w) = closer a d w smaller again (reach₃ a d smaller again w)

  reach₂ : (a : ℕ) → Reaches a → (d : ℕ) → Reaches₂ (suc a) d
  reach₂ a smaller zero = λ j l _ _. absurd (omega arith)
  reach₂ a smaller (suc d) = λ j h ha f. reach₃ a d smaller (reach₂ a smaller d) (suc (wait j)) j (omega arith) h ha f

  reach : (a : ℕ) → Reaches a
  reach zero = λ j l _. absurd (omega arith)
  reach (suc a) = λ j h f. reach₂ a (reach a) (suc (δ (π j))) j (omega arith) h f

  -- up to each position, a grade that favours x and is no larger
  covers : favoured G (g v) ≡ x → (i : ℕ) → (j : ℕ) × (g (π j) ≤ g (π i)) × (favoured G (g (π j)) ≡ x)
  covers f zero = (0, omega arith, ap (λ u. favoured G (g u)) play.starts ∙ f)
  covers f (suc i) =
      let c = covers f i in
      elim (cases_lt (g (π (suc i))) (g (π i))) [
        | inl less ↦ (suc i, omega arith, elim (play.goes i) [ inl s ↦ absurd (let e = ap g s.0 in omega arith) | inr s ↦ falls (π i) (π (suc i)) (inside i) s less ])
        | inr up ↦ (c.0, omega arith, c.2)
      ]

  pub won : favoured G (g v) ≡ x → Wins G x π
  won f i against =
      let c = covers f i in
      let r = reach (suc (g (π c.0))) c.0 (omega arith) c.2 in
      let l = (table (π i) (inside i)).low in
      let le : G.priority (π r.0) ≤ G.priority (π i) = omega (arith, r.1, c.1, l) in
      elim (eq-or-lt_of_le le) [ inl e ↦ absurd (apart x (sym r.2 ∙ ap (favoured G) e ∙ against)) | inr less ↦ (r.0, less, r.2) ]
