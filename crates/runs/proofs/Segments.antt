-- Finite segments, each beginning where the one before ends, joined to one unending list.
use Rattle.std.proofs.Common.{◌≡◌, ℕ, zero, suc, List, [], ◌∷◌, ◌⊎◌, inl, inr, refl, ap}
use Rattle.std.specs.List.{AllByRecursion}

-- steps from u through the vertices of the list to w
abbrev pub Chain : (ℕ → ℕ → Type 0) → ℕ → List ℕ → ℕ → Type 0
Chain Step u [] w = Step u w
Chain Step u (t ∷ ts) w = Step u t × Chain Step t ts w

module _ (Step : ℕ → ℕ → Type 0) (head : ℕ → ℕ) (tail : ℕ → List ℕ) (chain : (i : ℕ) → Chain Step (head i) (tail i) (head (suc i))) where
  -- the segment, the vertex now, and the rest of the segment
  record At : Type 0 where
    segment : ℕ
    now : ℕ
    left : List ℕ
    ahead : Chain Step now left (head (suc segment))

  enter : ℕ → At
  enter i = record { segment = i; now = head i; left = tail i; ahead = chain i }

  on : (i u : ℕ) (l : List ℕ) → Chain Step u l (head (suc i)) → At
  on i u [] c = enter (suc i)
  on i u (t ∷ ts) c = record { segment = i; now = t; left = ts; ahead = c.1 }

  on_step : (i u : ℕ) (l : List ℕ) (c : Chain Step u l (head (suc i))) → Step u (on i u l c).now
  unfolding on enter
  on_step i u [] c = c
  on_step i u (t ∷ ts) c = c.0

  at : ℕ → At
  at zero = enter 0
  at (suc k) = let a = at k in on a.segment a.now a.left a.ahead

  pub joined : ℕ → ℕ
  joined k = (at k).now

  pub joined_start : joined 0 ≡ head 0
  unfolding joined at enter
  joined_start = refl

  pub joined_step : (k : ℕ) → Step (joined k) (joined (suc k))
  unfolding joined at
  joined_step k = (let a = at k in on_step a.segment a.now a.left a.ahead)

  -- from any point the next segment is entered
  leave : (l : List ℕ) (k i u : ℕ) (c : Chain Step u l (head (suc i))) → at k ≡ record { segment = i; now = u; left = l; ahead = c } → (j : ℕ) × (at j ≡ enter (suc i))
  unfolding at on
  leave [] k i u c e = (suc k, ap (λ a. on a.segment a.now a.left a.ahead) e)
  leave (t ∷ ts) k i u c e = leave ts (suc k) i t c.1 (ap (λ a. on a.segment a.now a.left a.ahead) e)

  enters : (i : ℕ) → (k : ℕ) × (at k ≡ enter i)
  unfolding at enter
  enters zero = (0, refl)
  enters (suc i) = (let h = enters i in leave (tail i) h.0 i (head i) (chain i) h.1)

  -- each head is met
  pub joined_meets : (i : ℕ) → (k : ℕ) × (joined k ≡ head i)
  unfolding joined enter
  joined_meets i = (let h = enters i in (h.0, ap (λ a. a.now) h.1))

  -- each vertex met is a head, or one of which holds what holds of those between heads
  module _ (P : ℕ → Type 0) (tails : (i : ℕ) → AllByRecursion P (tail i)) where
    abbrev pub Met : ℕ → Type 0
    Met u = ((i : ℕ) × (u ≡ head i)) ⊎ P u

    on_each : (i u : ℕ) (l : List ℕ) (c : Chain Step u l (head (suc i))) → AllByRecursion P l → Met (on i u l c).now × AllByRecursion P (on i u l c).left
    unfolding on enter
    on_each i u [] c e = (inl (suc i, refl), tails (suc i))
    on_each i u (t ∷ ts) c e = (inr e.0, e.1)

    at_each : (k : ℕ) → Met (at k).now × AllByRecursion P (at k).left
    unfolding at enter
    at_each zero = (inl (0, refl), tails 0)
    at_each (suc k) = (let a = at k in on_each a.segment a.now a.left a.ahead (at_each k).1)

    pub joined_each : (k : ℕ) → Met (joined k)
    unfolding joined
    joined_each k = (at_each k).0
