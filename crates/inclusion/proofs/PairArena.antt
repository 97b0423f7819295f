-- The games on pairs: what is used of a pair game, and the three games that are played at once.
use Rattle.std.proofs.Common.{◌≡◌, ℕ, ◌<◌, ◌⊎◌, inl, inr, arith}
use Rattle.std.proofs.lemmas.Bool.{cases_eq}
use Rattle.parity.specs.Game.{Game, Sound}
use Rattle.parity.specs.declared.player.Player.{Player}
use Rattle.parity.specs.declared.player.Player.TheVariants.{Zero, One}
use Rattle.draft.specs.declared.parts.Node.{Node}
use Rattle.draft.specs.declared.parts.Node.TheVariants.{Leaf, Either, Both}
use Rattle.draft.specs.Automaton.{Automaton, state_count, node_count, priority_of, node_of}
use Rattle.runs.specs.Run.{rule_node}
use Rattle.runs.proofs.Moved.{Step, Two, taken}
use Rattle.runs.proofs.WordArena.{WordArena}
use Rattle.inclusion.specs.PairGame.{pair_priority}

-- u belongs to x and has four moves
abbrev pub Four : Game → Player → ℕ → ℕ → ℕ → ℕ → ℕ → Type 0
Four C x u k l m n =
    (C.owner u ≡ x) × (C.degree u ≡ 4) × (C.successor u 0 ≡ k) × (C.successor u 1 ≡ l) × (C.successor u 2 ≡ m) × (C.successor u 3 ≡ n)

-- the chosen one of four moves
pub of_four : (G : Game) (m : ℕ → ℕ) (x : Player) (u k l k' l' : ℕ) → m u < G.degree u → G.degree u ≡ 4 →
    G.successor u 0 ≡ k → G.successor u 1 ≡ l → G.successor u 2 ≡ k' → G.successor u 3 ≡ l' →
    (Step G m x u k ⊎ Step G m x u l) ⊎ (Step G m x u k' ⊎ Step G m x u l')
of_four G m x u k l k' l' legal d e0 e1 e2 e3 =
    elim (cases_eq (m u) 0) [
      | inl e ↦ inl (inl (taken G m x u k 0 legal e e0))
      | inr n ↦
          elim (cases_eq (m u) 1) [
            | inl e ↦ inl (inr (taken G m x u l 1 legal e e1))
            | inr n1 ↦
                elim (cases_eq (m u) 2) [ inl e ↦ inr (inl (taken G m x u k' 2 legal e e2)) | inr n2 ↦ inr (inr (taken G m x u l' 3 legal (omega arith) e3)) ]
          ]
    ]

-- sp p q is the vertex of two states, np x y that of two nodes
abbrev pub PairAt : Game → (ℕ → ℕ → ℕ) → (ℕ → ℕ → ℕ) → ℕ → ℕ → Node → Node → Type 0
PairAt C sp np x y (Leaf p) (Leaf q) = (C.degree (np x y) ≡ 1) × (C.successor (np x y) 0 ≡ sp p q)
PairAt C sp np x y (Leaf p) (Either c d) = Two C Zero (np x y) (np x c) (np x d)
PairAt C sp np x y (Leaf p) (Both c d) = Two C One (np x y) (np x c) (np x d)
PairAt C sp np x y (Either a b) (Leaf q) = Two C One (np x y) (np a y) (np b y)
PairAt C sp np x y (Either a b) (Either c d) = Two C One (np x y) (np a y) (np b y)
PairAt C sp np x y (Either a b) (Both c d) = Four C One (np x y) (np a y) (np b y) (np x c) (np x d)
PairAt C sp np x y (Both a b) (Leaf q) = Two C Zero (np x y) (np a y) (np b y)
PairAt C sp np x y (Both a b) (Either c d) = Four C Zero (np x y) (np a y) (np b y) (np x c) (np x d)
PairAt C sp np x y (Both a b) (Both c d) = Two C One (np x y) (np x c) (np x d)

pub record PairArena (C : Game) (a b : Automaton) (word : ℕ → ℕ) (sp np : ℕ → ℕ → ℕ) : Type 0 where
  pub sound : Sound C
  pub even_zero : C.even_side ≡ Zero
  pub state_in : (p q : ℕ) → p < state_count a → q < state_count b → sp p q < C.count
  pub node_in : (x y : ℕ) → x < node_count a → y < node_count b → np x y < C.count
  pub state_owner : (p q : ℕ) → p < state_count a → q < state_count b → C.owner (sp p q) ≡ One
  pub state_degree : (p q i : ℕ) → p < state_count a → q < state_count b → word i < C.degree (sp p q)
  pub state_next : (p q i : ℕ) → p < state_count a → q < state_count b →
      C.successor (sp p q) (word i) ≡ np (rule_node a p (word i)) (rule_node b q (word i))
  pub state_priority : (p q : ℕ) → p < state_count a → q < state_count b → C.priority (sp p q) ≡ pair_priority (priority_of a p) (priority_of b q)
  pub node_high : (x y : ℕ) → x < node_count a → y < node_count b → C.priority (np x y) ≡ 9999
  pub node_at : (x y : ℕ) → x < node_count a → y < node_count b → PairAt C sp np x y (node_of a x) (node_of b y)

-- a word game that is played beside the pair game: that of the automaton c, in which player x moves by a winning plan
pub record Side (c : Automaton) (x : Player) (word : ℕ → ℕ) : Type 0 where
  pub G : Game
  pub st : ℕ → ℕ → ℕ
  pub nd : ℕ → ℕ → ℕ
  pub arena : WordArena G c word st nd

-- the pair game, and the word games of both automata on one word; player 0 wins the first, and player 1 the second
pub record ThreeGames (a b : Automaton) (word : ℕ → ℕ) : Type 0 where
  pub C : Game
  pub sp : ℕ → ℕ → ℕ
  pub np : ℕ → ℕ → ℕ
  pub pairs : PairArena C a b word sp np
  pub first : Side a Zero word
  pub second : Side b One word
