-- Where player 0 wins the word game, her moves are an accepting run.
use Rattle.std.proofs.Common.{◌≡◌, ℕ, zero, suc, ◌<◌, Bool, true, false, cond, ◌&&◌, ◌||◌, eqb, sym, refl, ap, ◌∙◌, subst, inl, inr, arith}
use Rattle.std.proofs.lemmas.Bool.{cases_lt, cases_eq, cases_Bool, eq-eqb, ne_eqb, eqb-true, cond-true, cond-false, and_parts, or_cases, or_left, or_right}
use Rattle.parity.specs.Below.{some_below}
use Rattle.parity.specs.Game.{Game}
use Rattle.parity.specs.Grading.{winner}
use Rattle.parity.specs.Move.{move}
use Rattle.parity.specs.Play.{Winning}
use Rattle.parity.specs.declared.player.Player.TheVariants.{Zero}
use Rattle.parity.proofs.Below.{some_gives, some_from}
use Rattle.parity.proofs.Determined.{reported_wins, move_legal}
use Rattle.draft.specs.declared.parts.Node.{Node}
use Rattle.draft.specs.declared.parts.Node.TheVariants.{Leaf, Either, Both}
use Rattle.draft.specs.Automaton.{Automaton, state_count, node_count, node_of}
use Rattle.draft.specs.WellFormed.{Fits}
use Rattle.runs.specs.Models.{States, In, ◌⊆◌, Model, by_leaf, by_left, by_right, by_both, Minimal}
use Rattle.runs.specs.Run.{rule_node, Run, RunPath, LeastEven, Accepts}
use Rattle.runs.proofs.Moved.{Step, not_zero, free, taken, forced}
use Rattle.runs.proofs.Passage.{Walk, last_step, first_step}
use Rattle.runs.proofs.StatePlays.{least}
use Rattle.runs.proofs.Sets.{grows, minimal_inside}
use Rattle.runs.proofs.WordArena.{NodeAt, WordArena, least_even}

-- the states picked at a node: by the left or right child at "or", by both at "and"
abbrev pick : Node → Bool → (ℕ → States) → States
pick (Leaf p) left picks q = eqb p q
pick (Either l r) left picks q = cond left (picks l q) (picks r q)
pick (Both l r) left picks q = picks l q || picks r q

module _ {G : Game} {a : Automaton} {word : ℕ → ℕ} {st nd : ℕ → ℕ → ℕ} (arena : WordArena G a word st nd)
    (m : ℕ → ℕ) (legal : (u : ℕ) → u < G.count → m u < G.degree u) where
  -- the states that player 0's moves lead to from node x at step i, down to a depth of f
  picks : ℕ → ℕ → ℕ → States
  picks zero i x q = false
  picks (suc f) i x q = pick (node_of a x) (eqb (m (nd i x)) 0) (picks f i) q

  picks_model : (f i x : ℕ) → x < f → x < node_count a → Model a (In (picks f i x)) x
  unfolding picks
  picks_model zero i x l x< = absurd (omega arith)
  picks_model (suc f) i x l x< = go (node_of a x) refl (arena.formed.named x x<) (λ y y<. picks_model f i y (omega arith) (omega arith))
    where
      left : Bool
      left = eqb (m (nd i x)) 0

      go : (n : Node) → node_of a x ≡ n → Fits (state_count a) x n → ((y : ℕ) → y < x → Model a (In (picks f i y)) y) → Model a (In (pick n left (picks f i))) x
      go (Leaf p) e _ rec = by_leaf e (eq-eqb p p refl)
      go (Either l r) e (l<, r<) rec =
          elim (cases_Bool left) [
            | inl t ↦ by_left e (grows a (In (picks f i l)) _ (λ q h. cond-true left _ _ t ∙ h) l (rec l l<))
            | inr t ↦ by_right e (grows a (In (picks f i r)) _ (λ q h. cond-false left _ _ t ∙ h) r (rec r r<))
          ]
      go (Both l r) e (l<, r<) rec = by_both e (grows a (In (picks f i l)) _ (λ q h. or_left _ _ h) l (rec l l<)) (grows a (In (picks f i r)) _ (λ q h. or_right _ _ h) r (rec r r<))

  -- whatever player 1 does, the play gets to a picked state
  abbrev Reaches : ℕ → ℕ → ℕ → Type 0
  Reaches i x q = (q < state_count a) × Walk G m Zero (nd i x) (st (suc i) q)

  further : (i x y q : ℕ) → y < node_count a → Step G m Zero (nd i x) (nd i y) → Reaches i y q → Reaches i x q
  further i x y q y< s w = (w.0, first_step G m Zero (nd i x) (nd i y) (st (suc i) q) s (arena.node_high i y y<) w.1)

  picks_reach : (f i x q : ℕ) → x < node_count a → picks f i x q ≡ true → Reaches i x q
  unfolding picks
  picks_reach zero i x q x< h = cc
  picks_reach (suc f) i x q x< h = go (node_of a x) h (arena.formed.named x x<) (arena.node_at i x x<) (λ y y< h'. picks_reach f i y q y< h')
    where
      left : Bool
      left = eqb (m (nd i x)) 0

      mine : m (nd i x) < G.degree (nd i x)
      mine = legal _ (arena.node_in i x x<)

      go : (n : Node) → pick n left (picks f i) q ≡ true → Fits (state_count a) x n → NodeAt G st nd i x n →
          ((y : ℕ) → y < node_count a → picks f i y q ≡ true → Reaches i y q) → Reaches i x q
      go (Leaf p) t n at rec =
          let e = eqb-true p q t in
          (subst (λ k. k < state_count a) e n, last_step G m Zero _ _ (forced G m Zero (nd i x) _ mine at.0 (at.1 ∙ ap (st (suc i)) e)))
      go (Either l r) t (l<, r<) at rec =
          elim (cases_eq (m (nd i x)) 0) [
            | inl e ↦ further i x l q (omega arith) (taken G m Zero (nd i x) _ 0 mine e at.2) (rec l (omega arith) (sym (cond-true left _ _ (eq-eqb _ _ e)) ∙ t))
            | inr n ↦ further i x r q (omega arith) (taken G m Zero (nd i x) _ 1 mine (omega (arith, mine, at.1)) at.3) (rec r (omega arith) (sym (cond-false left _ _ (ne_eqb _ _ n)) ∙ t))
          ]
      go (Both l r) t (l<, r<) at rec =
          elim (or_cases (picks f i l q) (picks f i r q) t) [
            | inl h' ↦ further i x l q (omega arith) (free G m Zero (nd i x) _ 0 (omega (arith, at.1)) at.2 (not_zero at.0)) (rec l (omega arith) h')
            | inr h' ↦ further i x r q (omega arith) (free G m Zero (nd i x) _ 1 (omega (arith, at.1)) at.3 (not_zero at.0)) (rec r (omega arith) h')
          ]

  abbrev rule : ℕ → ℕ → ℕ
  rule i p = rule_node a p (word i)

  rule_in : (i p : ℕ) → p < state_count a → rule i p < node_count a
  rule_in i p p< = arena.formed.ruled p (word i) p< (arena.reads i)

  abbrev picked : ℕ → ℕ → States
  picked i p = picks (node_count a) i (rule i p)

  -- a minimal model of the rule's formula among the picked states
  abbrev Best : ℕ → ℕ → Type 0
  Best i p = (N : States) × (p < state_count a → (N ⊆ picked i p) × Minimal a N (rule i p))

  best : (i p : ℕ) → Best i p
  best i p = elim (cases_lt p (state_count a)) [ inr out ↦ (picked i p, λ h. absurd (omega arith)) | inl h ↦ among h ]
    where
      among : p < state_count a → Best i p
      among h =
          let x< = rule_in i p h in
          let r = minimal_inside a arena.formed.named (rule i p) x< (picked i p) (picks_model (node_count a) i (rule i p) x< x<) (state_count a) (λ q e. (picks_reach (node_count a) i (rule i p) q x< e).0) in
          (r.0, λ _. (r.1, r.2))

  best_reach : (i p q : ℕ) → p < state_count a → (best i p).0 q ≡ true → Reaches i (rule i p) q
  best_reach i p q p< h = picks_reach (node_count a) i (rule i p) q (rule_in i p p<) (((best i p).1 p<).0 q h)

  module _ (start : ℕ) (start< : start < state_count a) where
    pub V : ℕ → States
    V zero q = eqb start q
    V (suc i) q = some_below (state_count a) (λ p. V i p && (best i p).0 q)

    pub E : ℕ → ℕ → States
    E i p q = V i p && (best i p).0 q

    VIn : (i q : ℕ) → V i q ≡ true → q < state_count a
    unfolding V
    VIn zero q h = subst (λ k. k < state_count a) (eqb-true start q h) start<
    VIn (suc i) q h =
        let s = some_gives (state_count a) _ h in
        (best_reach i s.0 q s.1 (and_parts (V i s.0) _ s.2).1).0

    pub run : Run a word start V E
    unfolding V E
    run = record {
      starts = eq-eqb start start refl;
      only = λ q h. sym (eqb-true start q h);
      reached = λ i q h. (let s = some_gives (state_count a) _ h in (s.0, s.2));
      from = λ i p q h. (and_parts (V i p) _ h).0;
      to = λ i p q h. some_from (state_count a) _ p (VIn i p (and_parts (V i p) _ h).0) h;
      minimal = λ i p h. subst (λ N. Minimal a N (rule i p)) (λ j q. sym h j && (best i p).0 q) ((best i p).1 (VIn i p h)).1;
    }

    module _ (ρ : ℕ → ℕ) (path : RunPath E start ρ) where
      ρ< : (i : ℕ) → ρ i < state_count a
      ρ< i = VIn i (ρ i) (run.from i (ρ i) (ρ (suc i)) (path.goes i))

      ways : (i : ℕ) → Walk G m Zero (nd i (rule i (ρ i))) (st (suc i) (ρ (suc i)))
      unfolding E
      ways i = (best_reach i (ρ i) (ρ (suc i)) (ρ< i) (and_parts (V i (ρ i)) _ (path.goes i)).1).1

      -- the play along a path of the run is one of player 0's moves
      pub path_even : Winning G Zero (λ past u. m u) (st 0 start) → LeastEven a ρ
      path_even w = least_even G arena.even_zero a ρ (least arena m legal Zero ρ ρ< ways (subst (λ q. Winning G Zero (λ past u. m u) (st 0 q)) (sym path.starts) w))

pub win_runs : {G : Game} {a : Automaton} {word : ℕ → ℕ} {st nd : ℕ → ℕ → ℕ} (arena : WordArena G a word st nd) →
    (start : ℕ) → start < state_count a → winner G (st 0 start) ≡ Zero → Accepts a word start
win_runs {G} {a} {word} {st} {nd} arena start start< won = record {
  vertices = V arena (move G) legal start start<;
  edges = E arena (move G) legal start start<;
  run = run arena (move G) legal start start<;
  even = λ ρ path. path_even arena (move G) legal start start< ρ path (reported_wins G arena.sound (st 0 start) (arena.state_in 0 start start<) Zero won);
}
  where
    legal : (u : ℕ) → u < G.count → move G u < G.degree u
    legal = move_legal G arena.sound
