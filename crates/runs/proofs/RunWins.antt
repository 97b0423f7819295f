-- An accepting run wins the word game: player 0 leads the play along a path of the run.
use Rattle.std.proofs.Common.{◌≡◌, ℕ, zero, suc, ◌<◌, refl, subst, inl, inr, arith}
use Rattle.parity.specs.Game.{Game}
use Rattle.parity.specs.Play.{Play, Wins}
use Rattle.parity.specs.Grading.{winner}
use Rattle.parity.specs.Move.{move}
use Rattle.parity.specs.declared.player.Player.TheVariants.{Zero, One}
use Rattle.parity.proofs.Players.{which}
use Rattle.parity.proofs.Determined.{reported_wins, move_legal}
use Rattle.parity.proofs.Duel.{not_both}
use Rattle.draft.specs.declared.parts.Node.{Node}
use Rattle.draft.specs.declared.parts.Node.TheVariants.{Leaf, Either, Both}
use Rattle.draft.specs.Automaton.{Automaton, state_count, node_count, node_of}
use Rattle.draft.specs.WellFormed.{Fits}
use Rattle.runs.specs.Models.{In, Model, by_leaf, by_left, by_right, by_both}
use Rattle.runs.specs.Run.{rule_node, LeastEven, Accepts}
use Rattle.runs.proofs.Moved.{Step, not_one, free, forced, of_two}
use Rattle.runs.proofs.Passage.{Walk, last_step, first_step}
use Rattle.runs.proofs.StatePlays.{play, plays, follows, wins}
use Rattle.runs.proofs.WordArena.{NodeAt, WordArena, even_least}

module _ {G : Game} {a : Automaton} {word : ℕ → ℕ} {st nd : ℕ → ℕ → ℕ} (arena : WordArena G a word st nd)
    (m : ℕ → ℕ) (legal : (u : ℕ) → u < G.count → m u < G.degree u) where
  -- whatever player 1's moves are, the play gets from a node to a state of the model
  abbrev Reaches : (ℕ → Type 0) → ℕ → ℕ → Type 0
  Reaches M i x = (q : ℕ) × (q < state_count a) × M q × Walk G m One (nd i x) (st (suc i) q)

  further : (M : ℕ → Type 0) (i x y : ℕ) → y < node_count a → Step G m One (nd i x) (nd i y) → Reaches M i y → Reaches M i x
  further M i x y y< s w = (w.0, w.1, w.2, first_step G m One (nd i x) (nd i y) (st (suc i) w.0) s (arena.node_high i y y<) w.3)

  -- player 0 chooses the child y, at position k
  by_choice : (M : ℕ → Type 0) (i x y k : ℕ) → y < node_count a → k < G.degree (nd i x) → G.successor (nd i x) k ≡ nd i y → G.owner (nd i x) ≡ Zero → Reaches M i y → Reaches M i x
  by_choice M i x y k y< k< to own = further M i x y y< (free G m One (nd i x) _ k k< to (not_one own))

  -- node x, of the shape n
  shape : (i x : ℕ) → x < node_count a → (n : Node) → node_of a x ≡ n → Fits (state_count a) x n × NodeAt G st nd i x n
  shape i x x< n e = (subst (Fits (state_count a) x) e (arena.formed.named x x<), subst (NodeAt G st nd i x) e (arena.node_at i x x<))

  reaches : (M : ℕ → Type 0) (i x : ℕ) → x < node_count a → Model a M x → Reaches M i x
  reaches M i x x< (by_leaf {q = q} e h) =
      let (n, at) = shape i x x< (Leaf q) e in
      (q, n, h, last_step G m One _ _ (forced G m One (nd i x) _ (legal _ (arena.node_in i x x<)) at.0 at.1))
  reaches M i x x< (by_left {l = l} {r = r} e h) =
      let (n, at) = shape i x x< (Either l r) e in
      let l< : l < node_count a = omega (arith, n.0) in
      by_choice M i x l 0 l< (omega (arith, at.1)) at.2 at.0 (reaches M i l l< h)
  reaches M i x x< (by_right {l = l} {r = r} e h) =
      let (n, at) = shape i x x< (Either l r) e in
      let r< : r < node_count a = omega (arith, n.1) in
      by_choice M i x r 1 r< (omega (arith, at.1)) at.3 at.0 (reaches M i r r< h)
  reaches M i x x< (by_both {l = l} {r = r} e h h') =
      let (n, at) = shape i x x< (Both l r) e in
      let l< : l < node_count a = omega (arith, n.0) in
      let r< : r < node_count a = omega (arith, n.1) in
      let first : Reaches M i l = reaches M i l l< h in
      let second : Reaches M i r = reaches M i r r< h' in
      elim (of_two G m One (nd i x) _ _ (legal _ (arena.node_in i x x<)) at.1 at.2 at.3) [
        | inl s ↦ further M i x l l< s first
        | inr s ↦ further M i x r r< s second
      ]

  -- all that is used of a run: the successors of each vertex are a model, whatever kind of sets they are
  module _ (start : ℕ) (start< : start < state_count a) (V : ℕ → ℕ → Type 0) (E : ℕ → ℕ → ℕ → Type 0) (first : V 0 start)
      (onto : (i p q : ℕ) → E i p q → V (suc i) q) (models : (i p : ℕ) → V i p → Model a (E i p) (rule_node a p (word i))) where
    abbrev Here : ℕ → Type 0
    Here i = (p : ℕ) × (p < state_count a) × V i p

    rule_in : (i : ℕ) (h : Here i) → rule_node a h.0 (word i) < node_count a
    rule_in i h = arena.formed.ruled h.0 (word i) h.1 (arena.reads i)

    link : (i : ℕ) (h : Here i) → Reaches (E i h.0) i (rule_node a h.0 (word i))
    link i h = reaches (E i h.0) i (rule_node a h.0 (word i)) (rule_in i h) (models i h.0 h.2)

    here : (i : ℕ) → Here i
    here zero = (start, start<, first)
    here (suc i) = (let h = here i in let w = link i h in (w.0, w.1, onto i h.0 w.0 w.2))

    abbrev ρ : ℕ → ℕ
    ρ i = (here i).0

    path : (i : ℕ) → E i (ρ i) (ρ (suc i))
    unfolding here
    path i = (link i (here i)).2

    ways : (i : ℕ) → Walk G m One (nd i (rule_node a (ρ i) (word i))) (st (suc i) (ρ (suc i)))
    unfolding here
    ways i = (link i (here i)).3

    states : (i : ℕ) → ρ i < state_count a
    states i = (here i).1

    pub run_play : ℕ → ℕ
    run_play = play arena m legal One ρ states ways

    pub play_plays : Play G (st 0 start) run_play
    unfolding run_play here
    play_plays = plays arena m legal One ρ states ways

    pub play_follows : (k : ℕ) → G.owner (run_play k) ≡ One → run_play (suc k) ≡ G.successor (run_play k) (m (run_play k))
    unfolding run_play
    play_follows = follows arena m legal One ρ states ways

    pub play_won : ((ρ' : ℕ → ℕ) → ρ' 0 ≡ start → ((i : ℕ) → E i (ρ' i) (ρ' (suc i))) → LeastEven a ρ') → Wins G Zero run_play
    unfolding run_play here
    play_won accepted = wins arena m legal One ρ states ways Zero (even_least G arena.even_zero a ρ (accepted ρ refl path))

module _ {G : Game} {a : Automaton} {word : ℕ → ℕ} {st nd : ℕ → ℕ → ℕ} (arena : WordArena G a word st nd) where
  pub models-win : (start : ℕ) → start < state_count a → (V : ℕ → ℕ → Type 0) (E : ℕ → ℕ → ℕ → Type 0) → V 0 start →
      ((i p q : ℕ) → E i p q → V (suc i) q) → ((i p : ℕ) → V i p → Model a (E i p) (rule_node a p (word i))) →
      ((ρ : ℕ → ℕ) → ρ 0 ≡ start → ((i : ℕ) → E i (ρ i) (ρ (suc i))) → LeastEven a ρ) → winner G (st 0 start) ≡ Zero
  models-win start start< V E first onto models accepted =
      elim (which (winner G (st 0 start)) Zero) [
        | inl e ↦ e
        | inr e ↦ absurd (not_both G Zero _ (play_won arena (move G) legal start start< V E first onto models accepted)
            ((reported_wins G arena.sound (st 0 start) (arena.state_in 0 start start<) One e).wins _
            (play_plays arena (move G) legal start start< V E first onto models) (play_follows arena (move G) legal start start< V E first onto models)))
      ]
    where
      legal : (u : ℕ) → u < G.count → move G u < G.degree u
      legal = move_legal G arena.sound

  pub run_wins : (start : ℕ) → start < state_count a → Accepts a word start → winner G (st 0 start) ≡ Zero
  run_wins start start< acc =
      models-win start start< (λ i. In (acc.vertices i)) (λ i p. In (acc.edges i p)) acc.run.starts acc.run.to
      (λ i p h. (acc.run.minimal i p h).model) (λ ρ e steps. acc.even ρ (record { starts = e; goes = steps }))
