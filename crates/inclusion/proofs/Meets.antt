-- One step of three plays at once: player 0 moves by her plan in the pair game and in the first word game, player 1 by his in the
-- second word game. From the nodes of two rules the three plays get to the same two states.
use Rattle.std.proofs.Common.{◌≡◌, ℕ, zero, suc, ◌+◌, ◌<◌, true, refl, inl, inr, arith}
use Rattle.parity.specs.Move.{move}
use Rattle.parity.specs.declared.player.Player.TheVariants.{Zero, One}
use Rattle.parity.proofs.Determined.{move_legal}
use Rattle.draft.specs.declared.parts.Node.{Node}
use Rattle.draft.specs.declared.parts.Node.TheVariants.{Leaf, Either, Both}
use Rattle.draft.specs.Automaton.{Automaton, state_count, node_count, node_of}
use Rattle.draft.specs.WellFormed.{Fits, is_child}
use Rattle.draft.proofs.Children.{left_child, right_child}
use Rattle.runs.proofs.Moved.{Step, not_zero, not_one, free, forced, of_two}
use Rattle.runs.proofs.Passage.{Walk, last_step, first_step}
use Rattle.runs.proofs.WordArena.{NodeAt}
use Rattle.inclusion.proofs.PairArena.{of_four, PairAt, ThreeGames}
use Rattle.inclusion.proofs.Ways.{Moves, Way, at_once, by_child, chosen_here, chosen_there}

module _ (a b : Automaton) (word : ℕ → ℕ) (T : ThreeGames a b word) where
  abbrev np : ℕ → ℕ → ℕ
  np = T.np

  abbrev Pairs : ℕ → ℕ → Type 0
  Pairs = Step T.C (move T.C) Zero

  -- from nodes x and y at step i to states p and q
  pub record Meet (i x y : ℕ) : Type 0 where
    pub p : ℕ
    pub q : ℕ
    pub first : Way T.first i x p
    pub second : Way T.second i y q
    pub walk : Walk T.C (move T.C) Zero (np x y) (T.sp p q)

  module _ (i x y : ℕ) (x< : x < node_count a) (y< : y < node_count b)
      (rec : (x' y' : ℕ) → x' + y' < x + y → x' < node_count a → y' < node_count b → Meet i x' y') where
    abbrev u : ℕ
    u = np x y

    mine : move T.C u < T.C.degree u
    mine = move_legal T.C T.pairs.sound u (T.pairs.node_in x y x< y<)

    -- to a child of x, or of y
    on_x : (z : ℕ) → z < x → is_child (node_of a x) z ≡ true → Pairs u (np z y) → Moves T.first (T.first.nd i x) (T.first.nd i z) → Meet i x y
    on_x z z< child s t =
        let w = rec z y (omega arith) (omega arith) y< in
        record {
          p = w.p;
          q = w.q;
          first = by_child T.first i x z w.p (omega arith) child t w.first;
          second = w.second;
          walk = first_step T.C (move T.C) Zero _ _ _ s (T.pairs.node_high z y (omega arith) y<) w.walk;
        }

    on_y : (z : ℕ) → z < y → is_child (node_of b y) z ≡ true → Pairs u (np x z) → Moves T.second (T.second.nd i y) (T.second.nd i z) → Meet i x y
    on_y z z< child s t =
        let w = rec x z (omega arith) x< (omega arith) in
        record {
          p = w.p;
          q = w.q;
          first = w.first;
          second = by_child T.second i y z w.q (omega arith) child t w.second;
          walk = first_step T.C (move T.C) Zero _ _ _ s (T.pairs.node_high x z x< (omega arith)) w.walk;
        }

    -- player 1 of the pair game may make either of its first two moves
    along : (v w : ℕ) → T.C.owner u ≡ One → 1 < T.C.degree u → T.C.successor u 0 ≡ v → T.C.successor u 1 ≡ w → Pairs u v × Pairs u w
    along v w o many ev ew = (
      free T.C (move T.C) Zero u v 0 (omega arith) ev (not_zero o),
      free T.C (move T.C) Zero u w 1 many ew (not_zero o),
    )

    abbrev ToX : ℕ → Type 0
    ToX z = Pairs u (np z y)

    abbrev ToY : ℕ → Type 0
    ToY z = Pairs u (np x z)

    -- At "or" of the first automaton and at "and" of the second, the plan of that word game chooses, and player 1 of the pair game
    -- goes along; at "and" of the first and at "or" of the second, player 0's plan in the pair game chooses.
    meet_by : (n o : Node) → node_of a x ≡ n → node_of b y ≡ o → Fits (state_count a) x n → Fits (state_count b) y o →
        NodeAt T.first.G T.first.st T.first.nd i x n → NodeAt T.second.G T.second.st T.second.nd i y o → PairAt T.C T.sp np x y n o → Meet i x y
    meet_by (Leaf p) (Leaf q) en eo fn fo an ao at = record {
      p = p;
      q = q;
      first = at_once T.first i x p x< en fn an;
      second = at_once T.second i y q y< eo fo ao;
      walk = last_step T.C (move T.C) Zero _ _ (forced T.C (move T.C) Zero u _ mine at.0 at.1);
    }
    meet_by (Leaf p) (Either c d) en eo fn fo an ao at =
        chosen_there T.second i y y< (Either c d) eo c d (left_child c d) (right_child c d) fo ao ToY on_y (not_one ao.0) (of_two T.C (move T.C) Zero u _ _ mine at.1 at.2 at.3)
    meet_by (Leaf p) (Both c d) en eo fn fo an ao at =
        chosen_here T.second i y y< (Both c d) eo c d (left_child c d) (right_child c d) fo ao ToY on_y (along _ _ at.0 (omega (arith, at.1)) at.2 at.3)
    meet_by (Either l r) (Leaf q) en eo fn fo an ao at =
        chosen_here T.first i x x< (Either l r) en l r (left_child l r) (right_child l r) fn an ToX on_x (along _ _ at.0 (omega (arith, at.1)) at.2 at.3)
    meet_by (Either l r) (Either c d) en eo fn fo an ao at =
        chosen_here T.first i x x< (Either l r) en l r (left_child l r) (right_child l r) fn an ToX on_x (along _ _ at.0 (omega (arith, at.1)) at.2 at.3)
    meet_by (Either l r) (Both c d) en eo fn fo an ao at =
        chosen_here T.first i x x< (Either l r) en l r (left_child l r) (right_child l r) fn an ToX on_x (along _ _ at.0 (omega (arith, at.1)) at.2 at.3)
    meet_by (Both l r) (Leaf q) en eo fn fo an ao at =
        chosen_there T.first i x x< (Both l r) en l r (left_child l r) (right_child l r) fn an ToX on_x (not_zero an.0) (of_two T.C (move T.C) Zero u _ _ mine at.1 at.2 at.3)
    meet_by (Both l r) (Either c d) en eo fn fo an ao at =
        elim (of_four T.C (move T.C) Zero u _ _ _ _ mine at.1 at.2 at.3 at.4 at.5) [
          | inl s ↦ chosen_there T.first i x x< (Both l r) en l r (left_child l r) (right_child l r) fn an ToX on_x (not_zero an.0) s
          | inr s ↦ chosen_there T.second i y y< (Either c d) eo c d (left_child c d) (right_child c d) fo ao ToY on_y (not_one ao.0) s
        ]
    meet_by (Both l r) (Both c d) en eo fn fo an ao at =
        chosen_here T.second i y y< (Both c d) eo c d (left_child c d) (right_child c d) fo ao ToY on_y (along _ _ at.0 (omega (arith, at.1)) at.2 at.3)

  meet_to : (f i x y : ℕ) → x + y < f → x < node_count a → y < node_count b → Meet i x y
  meet_to zero i x y l x< y< = absurd (omega arith)
  meet_to (suc f) i x y l x< y< =
      meet_by i x y x< y< (λ x' y' l' x'< y'<. meet_to f i x' y' (omega arith) x'< y'<) (node_of a x) (node_of b y) refl refl
      (T.first.arena.formed.named x x<) (T.second.arena.formed.named y y<) (T.first.arena.node_at i x x<) (T.second.arena.node_at i y y<) (T.pairs.node_at x y x< y<)

  pub meet : (i x y : ℕ) → x < node_count a → y < node_count b → Meet i x y
  meet i x y = meet_to (suc (x + y)) i x y (omega arith)
