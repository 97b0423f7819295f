-- The way of a word game from a node to a state at the next step, beside the pair game. The argument is the same for both automata,
-- whichever player x moves by a plan.
use Rattle.std.proofs.Common.{◌≡◌, ℕ, suc, ◌<◌, true, ◌⊎◌, ap, ◌∙◌, inl, inr, arith}
use Rattle.parity.specs.Move.{move}
use Rattle.parity.specs.declared.player.Player.{Player}
use Rattle.parity.proofs.Determined.{move_legal}
use Rattle.draft.specs.declared.parts.Node.{Node}
use Rattle.draft.specs.declared.parts.Node.TheVariants.{Leaf}
use Rattle.draft.specs.Automaton.{Automaton, state_count, node_count, node_of}
use Rattle.draft.specs.WellFormed.{is_child}
use Rattle.runs.proofs.Moved.{Step, Two, free, forced, of_two}
use Rattle.runs.proofs.Passage.{Walk, last_step, first_step}
use Rattle.runs.proofs.WordArena.{NodeAt}
use Rattle.inclusion.specs.Stratified.{NamedBelow, at_leaf, at_child}
use Rattle.inclusion.proofs.PairArena.{Side}

module _ {c : Automaton} {x : Player} {word : ℕ → ℕ} (S : Side c x word) where
  abbrev pub Moves : ℕ → ℕ → Type 0
  Moves = Step S.G (move S.G) x

  -- from node y at step i to state q at the next step
  pub record Way (i y q : ℕ) : Type 0 where
    pub inside : q < state_count c
    pub named : NamedBelow c q y
    pub walk : Walk S.G (move S.G) x (S.nd i y) (S.st (suc i) q)

  legal : (i y : ℕ) → y < node_count c → move S.G (S.nd i y) < S.G.degree (S.nd i y)
  legal i y y< = move_legal S.G S.arena.sound _ (S.arena.node_in i y y<)

  pub at_once : (i y q : ℕ) → y < node_count c → node_of c y ≡ Leaf q → q < state_count c → NodeAt S.G S.st S.nd i y (Leaf q) → Way i y q
  at_once i y q y< is q< at = record {
    inside = q<;
    named = at_leaf is;
    walk = last_step S.G (move S.G) x _ _ (forced S.G (move S.G) x _ _ (legal i y y<) at.0 at.1);
  }

  pub by_child : (i y z q : ℕ) → z < node_count c → is_child (node_of c y) z ≡ true → Moves (S.nd i y) (S.nd i z) → Way i z q → Way i y q
  by_child i y z q z< child s w = record {
    inside = w.inside;
    named = at_child child w.named;
    walk = first_step S.G (move S.G) x _ _ _ s (S.arena.node_high i z z<) w.walk;
  }

  -- Node y at step i has the children l and r. `Along z` is the move of the pair game to z in place of y; `on` goes on from there.
  module _ (i y : ℕ) (y< : y < node_count c) (n : Node) (is : node_of c y ≡ n) (l r : ℕ) (left : is_child n l ≡ true) (right : is_child n r ≡ true)
      (before : (l < y) × (r < y)) {w : Player} (at : Two S.G w (S.nd i y) (S.nd i l) (S.nd i r))
      (Along : ℕ → Type 0) {Goal : Type 0} (on : (z : ℕ) → z < y → is_child (node_of c y) z ≡ true → Along z → Moves (S.nd i y) (S.nd i z) → Goal) where
    to_left : Along l → Moves (S.nd i y) (S.nd i l) → Goal
    to_left = on l before.0 (ap (λ (k : Node). is_child k l) is ∙ left)

    to_right : Along r → Moves (S.nd i y) (S.nd i r) → Goal
    to_right = on r before.1 (ap (λ (k : Node). is_child k r) is ∙ right)

    -- the plan of the word game chooses, and the pair game goes along
    pub chosen_here : Along l × Along r → Goal
    chosen_here both =
        elim (of_two S.G (move S.G) x _ _ _ (legal i y y<) at.1 at.2 at.3) [ inl t ↦ to_left both.0 t | inr t ↦ to_right both.1 t ]

    -- the pair game chooses, and the word game goes along, in which the other is to move
    pub chosen_there : (S.G.owner (S.nd i y) ≡ x → ⊥) → Along l ⊎ Along r → Goal
    chosen_there other (inl al) = to_left al (free S.G (move S.G) x _ _ 0 (omega (arith, at.1)) at.2 other)
    chosen_there other (inr ar) = to_right ar (free S.G (move S.G) x _ _ 1 (omega (arith, at.1)) at.3 other)
