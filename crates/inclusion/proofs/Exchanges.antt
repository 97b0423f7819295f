-- The law of exchange: the pair game of the two automata turned and exchanged is alike, so it has the same winners.
use Rattle.std.proofs.Common.{◌≡◌, ℕ, zero, suc, ◌+◌, ◌%◌, ◌<◌, true, sym, refl, ap, ◌∙◌, ap₂, inl, inr, arith}
use Rattle.std.proofs.lemmas.Bool.{lt-ltb}
use Rattle.parity.specs.Game.{Game, favoured}
use Rattle.parity.specs.Grading.{winner}
use Rattle.parity.proofs.Parities.{parity, favoured_even, favoured_odd}
use Rattle.parity.proofs.Transfer.{Alike, Raised, Shifted, shifted_carries, transfer}
use Rattle.draft.specs.declared.parts.Node.{Node}
use Rattle.draft.specs.declared.parts.Node.TheVariants.{Leaf, Either, Both}
use Rattle.draft.specs.Automaton.{Automaton, state_count, node_count, priority_of, node_of, is_complete}
use Rattle.draft.specs.Calls.{dual, turned}
use Rattle.draft.specs.WellFormed.{WellFormed, Fits}
use Rattle.runs.specs.Run.{rule_node}
use Rattle.runs.specs.WordGame.{side}
use Rattle.draft.proofs.Dual.{states_same, nodes_same, priority_raised, node_dual, complete_same}
use Rattle.runs.proofs.Dual.{rule_node_same, turned_formed}
use Rattle.runs.proofs.Formed.{Formed, formed}
use Rattle.runs.proofs.Insides.{inside_winner}
use Rattle.runs.proofs.WordGames.{side_below}
use Rattle.inclusion.specs.declared.place.PairPlace.{PairPlace}
use Rattle.inclusion.specs.declared.place.PairPlace.TheVariants.{AtStates, AtNodes}
use Rattle.inclusion.specs.Exchange.{Exchange}
use Rattle.inclusion.specs.PairGame.{pair_owner, pair_degree, pair_priority, states_at, nodes_at, pair_at, nodes_successor, place_owner, place_priority, place_degree, place_successor, pair_moves, pair_winner}
use Rattle.inclusion.proofs.Descent.{pair_low}
use Rattle.inclusion.proofs.DualPairs.{dual_same, position, position_in, priority_four}
use Rattle.inclusion.proofs.DualStratified.{stratified_same}
use Rattle.inclusion.proofs.PairGames.{pair_each, states_place, nodes_place, states_in, nodes_in, pair_sound}

module _ (a b : Automaton) (wa : WellFormed a) (wb : WellFormed b) (ca : is_complete a ≡ true) (cb : is_complete b ≡ true) (same : a.letters ≡ b.letters) where
  abbrev G : Game
  G = pair_moves a b

  abbrev H : Game
  H = pair_moves (turned b) (turned a)

  fa : Formed a
  fa = formed a wa ca

  fb : Formed b
  fb = formed b wb cb

  -- the vertex of G for which a vertex of H stands
  abbrev swapped : PairPlace → ℕ
  swapped (AtStates q p) = states_at a b p q
  swapped (AtNodes y x) = nodes_at a b x y

  f : ℕ → ℕ
  f u = swapped (pair_at (turned b) (turned a) u)

  -- the position in H of a move in G
  abbrev at_place : PairPlace → ℕ → ℕ
  at_place (AtStates q p) i = i
  at_place (AtNodes y x) i = position (node_of a x) (node_of b y) i

  there : ℕ → ℕ → ℕ
  there u i = at_place (pair_at (turned b) (turned a) u) i

  f_states : (p q : ℕ) → p < state_count a → q < state_count b → f (states_at (turned b) (turned a) q p) ≡ states_at a b p q
  unfolding f
  f_states p q p< q< = ap swapped (states_place (turned b) (turned a) q p (rw (states_same b) q<) (rw (states_same a) p<))

  f_nodes : (x y : ℕ) → x < node_count a → f (nodes_at (turned b) (turned a) y x) ≡ nodes_at a b x y
  unfolding f
  f_nodes x y x< = ap swapped (nodes_place (turned b) (turned a) y x (rw (nodes_same a) x<))

  module _ (x y : ℕ) (x< : x < node_count a) where
    in_x : (l r i : ℕ) → (l < x) × (r < x) → f (nodes_at (turned b) (turned a) y (side l r i)) ≡ nodes_at a b (side l r i) y
    in_x l r i h = f_nodes (side l r i) y (omega (arith, side_below l r x i h.0 h.1))

    in_y : (c : ℕ) → f (nodes_at (turned b) (turned a) c x) ≡ nodes_at a b x c
    in_y c = f_nodes x c x<

    next_same : (n o : Node) → Fits (state_count a) x n → Fits (state_count b) y o → (i : ℕ) → i < pair_degree n o →
        f (nodes_successor (turned b) (turned a) y x (dual o) (dual n) i) ≡ nodes_successor a b x y n o (position n o i)
    next_same (Leaf p) (Leaf q) h h' i i< = f_states p q h h'
    next_same (Leaf p) (Either c d) h h' i i< = rw (lt-ltb i 2 i<) (in_y (side c d (i % 2)))
    next_same (Leaf p) (Both c d) h h' i i< = rw (lt-ltb i 2 i<) (in_y (side c d (i % 2)))
    next_same (Either l r) (Leaf q) h h' i i< = rw (lt-ltb i 2 i<) (in_x l r (i % 2) h)
    next_same (Either l r) (Either c d) h h' i i< = rw (lt-ltb i 2 i<) (in_x l r (i % 2) h)
    next_same (Either l r) (Both c d) h h' zero i< = in_y c
    next_same (Either l r) (Both c d) h h' (suc zero) i< = in_y d
    next_same (Either l r) (Both c d) h h' (suc (suc zero)) i< = in_x l r 0 h
    next_same (Either l r) (Both c d) h h' (suc (suc (suc i))) i< = (let e : i ≡ 0 = omega arith in rw e (in_x l r 1 h))
    next_same (Both l r) (Leaf q) h h' i i< = rw (lt-ltb i 2 i<) (in_x l r (i % 2) h)
    next_same (Both l r) (Either c d) h h' zero i< = in_y c
    next_same (Both l r) (Either c d) h h' (suc zero) i< = in_y d
    next_same (Both l r) (Either c d) h h' (suc (suc zero)) i< = in_x l r 0 h
    next_same (Both l r) (Either c d) h h' (suc (suc (suc i))) i< = (let e : i ≡ 0 = omega arith in rw e (in_x l r 1 h))
    next_same (Both l r) (Both c d) h h' i i< = rw (lt-ltb i 2 i<) (in_y (side c d (i % 2)))

  -- a place P of H stands for a place Q of G
  record Stands (P Q : PairPlace) : Type 0 where
    own : place_owner (turned b) (turned a) P ≡ place_owner a b Q
    degree : place_degree (turned b) (turned a) P ≡ place_degree a b Q
    within : (i : ℕ) → i < place_degree a b Q → at_place P i < place_degree a b Q
    next : (i : ℕ) → i < place_degree a b Q → f (place_successor (turned b) (turned a) P i) ≡ place_successor a b Q (at_place P i)
    back : (i : ℕ) → i < place_degree a b Q → at_place P (at_place P i) ≡ i
    priorities : Raised 4 9999 (place_priority a b Q) (place_priority (turned b) (turned a) P)

  states_stand : (p q : ℕ) → p < state_count a → q < state_count b → Stands (AtStates q p) (AtStates p q)
  states_stand p q p< q< = record {
    own = refl;
    degree = sym same;
    within = λ i l. l;
    next = λ i l. ap₂ (λ y x. f (nodes_at (turned b) (turned a) y x)) (rule_node_same b q i) (rule_node_same a p i) ∙ f_nodes (rule_node a p i) (rule_node b q i) (fa.ruled p i p< l);
    back = λ i l. refl;
    priorities = inl (
      omega (arith, pair_low (priority_of a p) (priority_of b q) (fa.low p p<) (fb.low q q<)),
      ap₂ pair_priority (priority_raised b q q<) (priority_raised a p p<) ∙ priority_four (priority_of a p) (priority_of b q),
    );
  }

  nodes_stand : (x y : ℕ) → x < node_count a → y < node_count b → Stands (AtNodes y x) (AtNodes x y)
  nodes_stand x y x< y< = record {
    own = ap₂ pair_owner (node_dual b y) (node_dual a x) ∙ (dual_same (node_of a x) (node_of b y)).0;
    degree = ap₂ pair_degree (node_dual b y) (node_dual a x) ∙ (dual_same (node_of a x) (node_of b y)).1;
    within = λ i l. (position_in (node_of a x) (node_of b y) i l).0;
    next = λ i l. ap₂ (λ o n. f (nodes_successor (turned b) (turned a) y x o n i)) (node_dual b y) (node_dual a x)
        ∙ next_same x y x< (node_of a x) (node_of b y) (fa.named x x<) (fb.named y y<) i l;
    back = λ i l. (position_in (node_of a x) (node_of b y) i l).1;
    priorities = inr (refl, refl);
  }

  abbrev Vertex : PairPlace → Type 0
  Vertex P = (swapped P < G.count) × Stands P (pair_at a b (swapped P))

  vertex : (u : ℕ) → u < H.count → (f u < G.count) × Stands (pair_at (turned b) (turned a) u) (pair_at a b (f u))
  unfolding f
  vertex = pair_each (turned b) (turned a) Vertex
      (λ q p q< p<. states q p (rw (states_same b) at q<) (rw (states_same a) at p<))
      (λ y x y< x<. nodes y x (rw (nodes_same b) at y<) (rw (nodes_same a) at x<))
    where
      states : (q p : ℕ) → q < state_count b → p < state_count a → Vertex (AtStates q p)
      states q p q< p< = (states_in a b p q p< q<, rw (states_place a b p q p< q<) (states_stand p q p< q<))

      nodes : (y x : ℕ) → y < node_count b → x < node_count a → Vertex (AtNodes y x)
      nodes y x y< x< = (nodes_in a b x y x< y<, rw (nodes_place a b x y y<) (nodes_stand x y x< y<))

  alike : Alike G H (λ x. x) f there
  unfolding there
  alike = record {
    inside = λ u u<. (vertex u u<).0;
    owners = λ u u<. inl (vertex u u<).1.own;
    forth = λ u j u< l. (let s = (vertex u u<).1 in let l' = rw s.degree at l in (at_place (pair_at (turned b) (turned a) u) j, s.within j l', s.next j l'));
    back = λ u k u< l.
        (let s = (vertex u u<).1 in (
          rw s.degree (s.within k l),
          s.next (at_place (pair_at (turned b) (turned a) u) k) (s.within k l) ∙ ap (G.successor (f u)) (s.back k l),
        ));
  }

  favoured_four : (p : ℕ) → favoured H (p + 4) ≡ favoured G p
  favoured_four p = grind (arith, parity p, favoured_odd H (p + 4), favoured_even G p, favoured_even H (p + 4), favoured_odd G p)

  shifted : Shifted G H (λ x. x) f 4 9999
  shifted = record { favours = favoured_four; levels = λ u u<. (vertex u u<).1.priorities }

  pub exchanged_winner : (p q : ℕ) → p < state_count a → q < state_count b → pair_winner (turned b) (turned a) q p ≡ pair_winner a b p q
  exchanged_winner p q p< q< =
      let q<' : q < state_count (turned b) = rw (states_same b) q< in
      let p<' : p < state_count (turned a) = rw (states_same a) p< in
      let v = states_at (turned b) (turned a) q p in
      let v< = states_in (turned b) (turned a) q p q<' p<' in
      let to = f_states p q p< q< in
      let sound = pair_sound fa fb same wa.some_letters in
      let sound' = pair_sound (turned_formed b wb cb) (turned_formed a wa ca) (sym same) wb.some_letters in
      let level : G.priority (f v) ≡ pair_priority (priority_of a p) (priority_of b q) = ap G.priority to ∙ ap (place_priority a b) (states_place a b p q p< q<) in
      inside_winner sound' v v<
      ∙ transfer sound sound' alike v v<
      (shifted_carries shifted v (omega (arith, level, pair_low (priority_of a p) (priority_of b q) (fa.low p p<) (fb.low q q<))))
      ∙ ap (winner G) to
      ∙ sym (inside_winner sound (states_at a b p q) (states_in a b p q p< q<))

pub exchanged : Exchange
exchanged a b wa wb = record {
  first = record { complete = complete_same a; stratified = stratified_same a wa; states = states_same a };
  second = record { complete = complete_same b; stratified = stratified_same b wb; states = states_same b };
  winners = λ ca cb same p q p< q<. exchanged_winner a b wa wb ca cb same p q p< q<;
}
