-- The games in which a word is read: what is used of a word game, with steps numbered for ever or folded in any way.
use Rattle.std.proofs.Common.{◌≡◌, ℕ, suc, ◌%◌, ◌<◌, sym, ap, ◌∙◌, inl, inr}
use Rattle.parity.specs.Game.{Game, Sound, favoured}
use Rattle.parity.specs.Player.{other}
use Rattle.parity.specs.declared.player.Player.TheVariants.{Zero, One}
use Rattle.parity.proofs.Players.{apart}
use Rattle.parity.proofs.Parities.{parity, favoured_even, favoured_odd}
use Rattle.draft.specs.declared.parts.Node.{Node}
use Rattle.draft.specs.declared.parts.Node.TheVariants.{Leaf, Either, Both}
use Rattle.draft.specs.Automaton.{Automaton, state_count, node_count, priority_of, node_of}
use Rattle.runs.specs.Run.{rule_node, LeastEven}
use Rattle.runs.proofs.Formed.{Formed}
use Rattle.runs.proofs.Moved.{Two}
use Rattle.runs.proofs.Passage.{LeastFavours}

-- st i q is the vertex of state q at step i, and nd i x that of node x
abbrev pub NodeAt : Game → (ℕ → ℕ → ℕ) → (ℕ → ℕ → ℕ) → ℕ → ℕ → Node → Type 0
NodeAt G st nd i x (Leaf q) = (G.degree (nd i x) ≡ 1) × (G.successor (nd i x) 0 ≡ st (suc i) q)
NodeAt G st nd i x (Either l r) = Two G Zero (nd i x) (nd i l) (nd i r)
NodeAt G st nd i x (Both l r) = Two G One (nd i x) (nd i l) (nd i r)

pub record WordArena (G : Game) (a : Automaton) (word : ℕ → ℕ) (st nd : ℕ → ℕ → ℕ) : Type 0 where
  pub sound : Sound G
  pub formed : Formed a
  pub reads : (i : ℕ) → word i < a.letters
  pub even_zero : G.even_side ≡ Zero
  pub state_in : (i q : ℕ) → q < state_count a → st i q < G.count
  pub node_in : (i x : ℕ) → x < node_count a → nd i x < G.count
  pub state_degree : (i q : ℕ) → q < state_count a → G.degree (st i q) ≡ 1
  pub state_next : (i q : ℕ) → q < state_count a → G.successor (st i q) 0 ≡ nd i (rule_node a q (word i))
  pub state_priority : (i q : ℕ) → q < state_count a → G.priority (st i q) ≡ priority_of a q
  pub node_high : (i x : ℕ) → x < node_count a → G.priority (nd i x) ≡ 9999
  pub node_at : (i x : ℕ) → x < node_count a → NodeAt G st nd i x (node_of a x)

-- with even side 0, player 0 is favoured by the even priorities
module _ (G : Game) (even_zero : G.even_side ≡ Zero) where
  pub even_favours : (p : ℕ) → p % 2 ≡ 0 → favoured G p ≡ Zero
  even_favours p z = favoured_even G p z ∙ even_zero

  pub odd_favours : (p : ℕ) → p % 2 ≡ 1 → favoured G p ≡ One
  odd_favours p o = favoured_odd G p o ∙ ap other even_zero

  favours_even : (p : ℕ) → favoured G p ≡ Zero → p % 2 ≡ 0
  favours_even p e = elim (parity p) [ inl z ↦ z | inr o ↦ absurd (apart Zero (sym e ∙ odd_favours p o)) ]

  favours_odd : (p : ℕ) → favoured G p ≡ One → p % 2 ≡ 1
  favours_odd p e = elim (parity p) [ inr o ↦ o | inl z ↦ absurd (apart Zero (sym (even_favours p z) ∙ e)) ]

  pub least_even : (a : Automaton) (ρ : ℕ → ℕ) → LeastFavours G Zero (λ i. priority_of a (ρ i)) → LeastEven a ρ
  least_even a ρ least i o = let r = least i (odd_favours _ o) in (r.0, r.1, favours_even _ r.2)

  pub even_least : (a : Automaton) (ρ : ℕ → ℕ) → LeastEven a ρ → LeastFavours G Zero (λ i. priority_of a (ρ i))
  even_least a ρ even i f = let r = even i (favours_odd _ f) in (r.0, r.1, even_favours _ r.2)
