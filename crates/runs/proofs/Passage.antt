-- A play through given vertices, one after the other, with only vertices of the largest priority between them: it is won by the
-- player whom the smallest priority of the given vertices favours.
use Rattle.std.proofs.Common.{◌≡◌, ℕ, suc, ◌<◌, ◌⊎◌, List, [], ◌∷◌, sym, ap, ◌∙◌, inl, inr, arith}
use Rattle.std.specs.List.{AllByRecursion}
use Rattle.parity.specs.Game.{Game, favoured}
use Rattle.parity.specs.Play.{Play, Wins, Winning}
use Rattle.parity.specs.Player.{other}
use Rattle.parity.specs.declared.player.Player.{Player}
use Rattle.parity.proofs.Players.{which}
use Rattle.runs.proofs.Moved.{Step}
use Rattle.runs.proofs.Segments.{Chain, joined, joined_start, joined_step, joined_meets, joined_each}

abbrev pub High : Game → ℕ → Type 0
High G u = G.priority u ≡ 9999

-- from u to w through vertices of priority 9,999, x moving by m
abbrev pub Walk : Game → (ℕ → ℕ) → Player → ℕ → ℕ → Type 0
Walk G m x u w = (l : List ℕ) × Chain (Step G m x) u l w × AllByRecursion (High G) l

module _ (G : Game) (m : ℕ → ℕ) (x : Player) where
  pub last_step : (u w : ℕ) → Step G m x u w → Walk G m x u w
  last_step u w s = ([], s, tt)

  pub first_step : (u v w : ℕ) → Step G m x u v → High G v → Walk G m x v w → Walk G m x u w
  first_step u v w s h k = (v ∷ k.0, (s, k.1), (h, k.2))

-- the smallest of the priorities favours y
abbrev pub LeastFavours : Game → Player → (ℕ → ℕ) → Type 0
LeastFavours G y p = (i : ℕ) → favoured G (p i) ≡ other y → (j : ℕ) × (p j < p i) × (favoured G (p j) ≡ y)

module _ (G : Game) (m : ℕ → ℕ) (x : Player) (head p : ℕ → ℕ) (priorities : (i : ℕ) → G.priority (head i) ≡ p i) (low : (i : ℕ) → p i < 9999)
    (walks : (i : ℕ) → Walk G m x (head i) (head (suc i))) where
  abbrev tail : ℕ → List ℕ
  tail i = (walks i).0

  chain : (i : ℕ) → Chain (Step G m x) (head i) (tail i) (head (suc i))
  chain i = (walks i).1

  pub passage : ℕ → ℕ
  passage = joined (Step G m x) head tail chain

  step : (k : ℕ) → Step G m x (passage k) (passage (suc k))
  unfolding passage
  step = joined_step (Step G m x) head tail chain

  pub passage_plays : Play G (head 0) passage
  unfolding passage
  passage_plays = record { starts = joined_start (Step G m x) head tail chain; goes = λ k. (let s = step k in (s.0, s.1, s.2)) }

  pub passage_follows : (k : ℕ) → G.owner (passage k) ≡ x → passage (suc k) ≡ G.successor (passage k) (m (passage k))
  passage_follows k = (step k).3

  abbrev Seen : ℕ → Type 0
  Seen u = ((i : ℕ) × (G.priority u ≡ p i)) ⊎ High G u

  seen : (k : ℕ) → Seen (passage k)
  unfolding passage
  seen k = elim (joined_each (Step G m x) head tail chain (High G) (λ i. (walks i).2) k) [ inl h ↦ inl (h.0, ap G.priority h.1 ∙ priorities h.0) | inr e ↦ inr e ]

  meets : (i : ℕ) → (k : ℕ) × (G.priority (passage k) ≡ p i)
  unfolding passage
  meets i = (let h = joined_meets (Step G m x) head tail chain i in (h.0, ap G.priority h.1 ∙ priorities i))

  pub won_least : (y : Player) → Wins G y passage → LeastFavours G y p
  won_least y w i against =
      let k = meets i in
      let r = w k.0 (ap (favoured G) k.1 ∙ against) in
      elim (seen r.0) [
        | inl s ↦ (s.0, omega (arith, r.1, s.1, k.1), ap (favoured G) (sym s.1) ∙ r.2)
        | inr e ↦ absurd (omega (arith, r.1, e, k.1, low i))
      ]

  -- what x's winning moves make of it
  pub moves_least : Winning G x (λ past u. m u) (head 0) → LeastFavours G x p
  moves_least w = won_least x (w.wins passage passage_plays passage_follows)

  -- a priority of the passage below b that favours y
  abbrev Below : Player → ℕ → Type 0
  Below y b = (k : ℕ) × (G.priority (passage k) < b) × (favoured G (G.priority (passage k)) ≡ y)

  below_from : (y : Player) (b j : ℕ) → p j < b → favoured G (p j) ≡ y → Below y b
  below_from y b j l f = let k = meets j in (k.0, omega (arith, k.1), ap (favoured G) k.1 ∙ f)

  pub least_wins : (y : Player) → LeastFavours G y p → Wins G y passage
  least_wins y least k against = elim (seen k) [ inl s ↦ at_head s.0 s.1 | inr e ↦ between e ]
    where
      at_head : (i : ℕ) → G.priority (passage k) ≡ p i → Below y (G.priority (passage k))
      at_head i e = let r = least i (ap (favoured G) (sym e) ∙ against) in below_from y _ r.0 (omega (arith, r.1)) r.2

      between : High G (passage k) → Below y (G.priority (passage k))
      between e =
          elim (which (favoured G (p 0)) y) [
            | inl f ↦ below_from y _ 0 (omega (arith, low 0)) f
            | inr f ↦ (let r = least 0 f in below_from y _ r.0 (omega (arith, r.1, low 0)) r.2)
          ]
