-- Where player 0 wins the pair game and the first word game, player 1 does not win the second word game: the three plays of the
-- winning plans would have priorities that fall for ever.
use Rattle.std.proofs.Common.{◌≡◌, ℕ, zero, suc, ◌<◌, ◌≤◌, arith}
use Rattle.parity.specs.Grading.{winner}
use Rattle.parity.specs.Move.{move}
use Rattle.parity.specs.declared.player.Player.{Player}
use Rattle.parity.specs.declared.player.Player.TheVariants.{Zero, One}
use Rattle.parity.proofs.Determined.{reported_wins, move_legal}
use Rattle.draft.specs.Automaton.{Automaton, state_count, node_count, priority_of}
use Rattle.runs.specs.Run.{rule_node}
use Rattle.runs.proofs.Moved.{not_zero, free}
use Rattle.runs.proofs.Passage.{Walk, first_step, LeastFavours, moves_least}
use Rattle.runs.proofs.StatePlays.{least}
use Rattle.runs.proofs.WordArena.{even_favours, odd_favours}
use Rattle.inclusion.specs.PairGame.{pair_priority}
use Rattle.inclusion.specs.Stratified.{NamedBelow}
use Rattle.inclusion.proofs.Descent.{pair_low, no_descent}
use Rattle.inclusion.proofs.Meets.{Meet, meet}
use Rattle.inclusion.proofs.PairArena.{Side, ThreeGames}
use Rattle.inclusion.proofs.Ways.{Way}

-- A word game on its own: the states q i at step i, and the ways between them. The argument is the same for both automata.
module _ {c : Automaton} {x : Player} {word : ℕ → ℕ} (S : Side c x word) (q : ℕ → ℕ) (q< : (i : ℕ) → q i < state_count c)
    (ways : (i : ℕ) → Way S i (rule_node c (q i) (word i)) (q (suc i))) where
  side_least : winner S.G (S.st 0 (q 0)) ≡ x → LeastFavours S.G x (λ i. priority_of c (q i))
  side_least won = least S.arena (move S.G) (move_legal S.G S.arena.sound) x q q< (λ i. (ways i).walk) (reported_wins S.G S.arena.sound _ (S.arena.state_in 0 (q 0) (q< 0)) x won)

module _ (a b : Automaton) (word : ℕ → ℕ) (T : ThreeGames a b word)
    (falls-a : (p i q : ℕ) → p < state_count a → NamedBelow a q (rule_node a p (word i)) → priority_of a q ≤ priority_of a p)
    (falls-b : (p i q : ℕ) → p < state_count b → NamedBelow b q (rule_node b p (word i)) → priority_of b q ≤ priority_of b p)
    (p₀ q₀ : ℕ) (p₀< : p₀ < state_count a) (q₀< : q₀ < state_count b) where
  abbrev Here : Type 0
  Here = (p : ℕ) × (q : ℕ) × (p < state_count a) × (q < state_count b)

  in_a : (i : ℕ) (h : Here) → rule_node a h.0 (word i) < node_count a
  in_a i h = T.first.arena.formed.ruled h.0 (word i) h.2 (T.first.arena.reads i)

  in_b : (i : ℕ) (h : Here) → rule_node b h.1 (word i) < node_count b
  in_b i h = T.second.arena.formed.ruled h.1 (word i) h.3 (T.second.arena.reads i)

  link : (i : ℕ) (h : Here) → Meet a b word T i (rule_node a h.0 (word i)) (rule_node b h.1 (word i))
  link i h = meet a b word T i _ _ (in_a i h) (in_b i h)

  -- the two states at step i
  here : ℕ → Here
  here zero = (p₀, q₀, p₀<, q₀<)
  here (suc i) = (let w = link i (here i) in (w.p, w.q, w.first.inside, w.second.inside))

  first_way : (i : ℕ) → Way T.first i (rule_node a (here i).0 (word i)) (here (suc i)).0
  unfolding here
  first_way i = (link i (here i)).first

  second_way : (i : ℕ) → Way T.second i (rule_node b (here i).1 (word i)) (here (suc i)).1
  unfolding here
  second_way i = (link i (here i)).second

  abbrev p : ℕ → ℕ
  p i = priority_of a (here i).0

  abbrev q : ℕ → ℕ
  q i = priority_of b (here i).1

  -- the play of the pair game
  abbrev head : ℕ → ℕ
  head i = T.sp (here i).0 (here i).1

  pair_walks : (i : ℕ) → Walk T.C (move T.C) Zero (head i) (head (suc i))
  unfolding here
  pair_walks i =
      let h = here i in
      first_step T.C (move T.C) Zero _ _ _
      (free T.C (move T.C) Zero _ _ (word i) (T.pairs.state_degree h.0 h.1 i h.2 h.3) (T.pairs.state_next h.0 h.1 i h.2 h.3) (not_zero (T.pairs.state_owner h.0 h.1 h.2 h.3)))
      (T.pairs.node_high _ _ (in_a i h) (in_b i h)) (link i h).walk

  pair_least : winner T.C (head 0) ≡ Zero → LeastFavours T.C Zero (λ i. pair_priority (p i) (q i))
  pair_least won =
      moves_least T.C (move T.C) Zero head (λ i. pair_priority (p i) (q i)) (λ i. T.pairs.state_priority _ _ (here i).2 (here i).3)
      (λ i. omega (arith, pair_low (p i) (q i) (T.first.arena.formed.low _ (here i).2) (T.second.arena.formed.low _ (here i).3))) pair_walks
      (reported_wins T.C T.pairs.sound (head 0) (T.pairs.state_in _ _ (here 0).2 (here 0).3) Zero won)

  pub clash : winner T.C (T.sp p₀ q₀) ≡ Zero → winner T.first.G (T.first.st 0 p₀) ≡ Zero → winner T.second.G (T.second.st 0 q₀) ≡ One → ⊥
  unfolding here
  clash won won-a won-b =
      no_descent p q (λ i. falls-a (here i).0 i _ (here i).2 (first_way i).named) (λ i. falls-b (here i).1 i _ (here i).3 (second_way i).named)
      (λ i o. (let r = side_least T.first (λ i. (here i).0) (λ i. (here i).2) first_way won-a i (odd_favours T.first.G T.first.arena.even_zero (p i) o) in (r.0, r.1)))
      (λ i z. (let r = side_least T.second (λ i. (here i).1) (λ i. (here i).3) second_way won-b i (even_favours T.second.G T.second.arena.even_zero (q i) z) in (r.0, r.1)))
      (λ i o. (let r = pair_least won i (odd_favours T.C T.pairs.even_zero _ o) in (r.0, r.1)))
