-- The pair game of two automata, by numbers, is a game on pairs.
use Rattle.std.proofs.Common.{◌≡◌, ℕ, ◌+◌, ◌%◌, ◌<◌, ◌≤◌, Bool, true, false, cond, ◌||◌, ltb, refl, ap, arith}
use Rattle.std.proofs.lemmas.Bool.{cond_both, lt-ltb}
use Rattle.parity.specs.Game.{Game, Sound}
use Rattle.draft.specs.declared.parts.Node.{Node}
use Rattle.draft.specs.declared.parts.Node.TheVariants.{Leaf, Either, Both}
use Rattle.draft.specs.Automaton.{Automaton, state_count, node_count, node_of}
use Rattle.draft.specs.WellFormed.{Fits}
use Rattle.runs.specs.WordGame.{side}
use Rattle.runs.proofs.Formed.{Formed}
use Rattle.runs.proofs.Tables.{each_place, first_place, second_place, first_in, second_in}
use Rattle.runs.proofs.WordGames.{side_below}
use Rattle.inclusion.specs.declared.place.PairPlace.{PairPlace}
use Rattle.inclusion.specs.declared.place.PairPlace.TheVariants.{AtStates, AtNodes}
use Rattle.inclusion.specs.PairGame.{pair_owner, first_moves, second_moves, pair_degree, states_at, nodes_at, pair_at, nodes_successor, place_owner, place_priority, place_degree, place_successor, pair_moves}
use Rattle.inclusion.proofs.PairArena.{PairAt, PairArena}

-- two moves for each node that moves; where neither does, at two leaves, one
abbrev pub degree_by : Bool → Bool → ℕ
degree_by first second = cond (first || second) (cond first 2 0 + cond second 2 0) 1

pub degree_within : (f s : Bool) → (0 < degree_by f s) × (degree_by f s ≤ 4)
degree_within true true = (omega arith, omega arith)
degree_within true false = (omega arith, omega arith)
degree_within false true = (omega arith, omega arith)
degree_within false false = (omega arith, omega arith)

module _ (a b : Automaton) where
  abbrev pub C : Game
  C = pair_moves a b

  pub pair_each : (Q : PairPlace → Type 0) → ((p q : ℕ) → p < state_count a → q < state_count b → Q (AtStates p q)) →
      ((x y : ℕ) → x < node_count a → y < node_count b → Q (AtNodes x y)) → (v : ℕ) → v < C.count → Q (pair_at a b v)
  pair_each = each_place AtStates AtNodes (state_count a) (state_count b) (node_count a) (node_count b)

  pub states_place : (p q : ℕ) → p < state_count a → q < state_count b → pair_at a b (states_at a b p q) ≡ AtStates p q
  states_place = first_place AtStates AtNodes (state_count a) (state_count b) (node_count a) (node_count b)

  pub nodes_place : (x y : ℕ) → y < node_count b → pair_at a b (nodes_at a b x y) ≡ AtNodes x y
  nodes_place = second_place AtStates AtNodes (state_count a) (state_count b) (node_count a) (node_count b)

  pub states_in : (p q : ℕ) → p < state_count a → q < state_count b → states_at a b p q < C.count
  states_in = first_in AtStates AtNodes (state_count a) (state_count b) (node_count a) (node_count b)

  pub nodes_in : (x y : ℕ) → x < node_count a → y < node_count b → nodes_at a b x y < C.count
  nodes_in = second_in AtStates AtNodes (state_count a) (state_count b) (node_count a) (node_count b)

  nodes_kind : (x y : ℕ) → y < node_count b → PairAt C (states_at a b) (nodes_at a b) x y (node_of a x) (node_of b y)
  nodes_kind x y y< = go (node_of a x) (node_of b y) (ap (place_owner a b) here) (ap (place_degree a b) here) (λ i. ap (λ P. place_successor a b P i) here)
    where
      here : pair_at a b (nodes_at a b x y) ≡ AtNodes x y
      here = nodes_place x y y<

      go : (n o : Node) → C.owner (nodes_at a b x y) ≡ pair_owner n o → C.degree (nodes_at a b x y) ≡ pair_degree n o →
          ((i : ℕ) → C.successor (nodes_at a b x y) i ≡ nodes_successor a b x y n o i) → PairAt C (states_at a b) (nodes_at a b) x y n o
      go (Leaf p) (Leaf q) own degree next = (degree, next 0)
      go (Leaf p) (Either c d) own degree next = (own, degree, next 0, next 1)
      go (Leaf p) (Both c d) own degree next = (own, degree, next 0, next 1)
      go (Either l r) (Leaf q) own degree next = (own, degree, next 0, next 1)
      go (Either l r) (Either c d) own degree next = (own, degree, next 0, next 1)
      go (Either l r) (Both c d) own degree next = (own, degree, next 0, next 1, next 2, next 3)
      go (Both l r) (Leaf q) own degree next = (own, degree, next 0, next 1)
      go (Both l r) (Either c d) own degree next = (own, degree, next 0, next 1, next 2, next 3)
      go (Both l r) (Both c d) own degree next = (own, degree, next 0, next 1)

  module _ (x y : ℕ) (x< : x < node_count a) (y< : y < node_count b) where
    in_x : (l r i : ℕ) → (l < x) × (r < x) → nodes_at a b (side l r i) y < C.count
    in_x l r i h = nodes_in (side l r i) y (omega (arith, side_below l r x i h.0 h.1)) y<

    in_y : (l r i : ℕ) → (l < y) × (r < y) → nodes_at a b x (side l r i) < C.count
    in_y l r i h = nodes_in x (side l r i) x< (omega (arith, side_below l r y i h.0 h.1))

    -- both move
    first_then : (i w w' : ℕ) → w < C.count → w' < C.count → cond (ltb i 2) w w' < C.count
    first_then i w w' h h' = cond_both (ltb i 2) w w' (λ k. k < C.count) (λ _. h) (λ _. h')

    nodes_stay : (n o : Node) → Fits (state_count a) x n → Fits (state_count b) y o → (i : ℕ) → i < pair_degree n o → nodes_successor a b x y n o i < C.count
    nodes_stay (Leaf p) (Leaf q) h h' i i< = states_in p q h h'
    nodes_stay (Leaf p) (Either c d) h h' i i< = in_y c d (i % 2) h'
    nodes_stay (Leaf p) (Both c d) h h' i i< = in_y c d (i % 2) h'
    nodes_stay (Either l r) (Leaf q) h h' i i< = rw (lt-ltb i 2 i<) (in_x l r (i % 2) h)
    nodes_stay (Either l r) (Either c d) h h' i i< = rw (lt-ltb i 2 i<) (in_x l r (i % 2) h)
    nodes_stay (Either l r) (Both c d) h h' i i< = first_then i _ _ (in_x l r (i % 2) h) (in_y c d (i % 2) h')
    nodes_stay (Both l r) (Leaf q) h h' i i< = rw (lt-ltb i 2 i<) (in_x l r (i % 2) h)
    nodes_stay (Both l r) (Either c d) h h' i i< = first_then i _ _ (in_x l r (i % 2) h) (in_y c d (i % 2) h')
    nodes_stay (Both l r) (Both c d) h h' i i< = in_y c d (i % 2) h'

module _ {a b : Automaton} (fa : Formed a) (fb : Formed b) (same : a.letters ≡ b.letters) (some : 0 < a.letters) where
  pub pair_sound : Sound (pair_moves a b)
  pair_sound = record {
    moves = pair_each a b (λ P. 0 < place_degree a b P) (λ p q _ _. some)
        (λ x y _ _. (degree_within (first_moves (node_of a x) (node_of b y)) (second_moves (node_of a x) (node_of b y))).0);
    stays = λ v i v<. pair_each a b (λ P. i < place_degree a b P → place_successor a b P i < (C a b).count)
        (λ p q p< q< l. nodes_in a b _ _ (fa.ruled p i p< l) (fb.ruled q i q< (omega arith)))
        (λ x y x< y<. nodes_stay a b x y x< y< (node_of a x) (node_of b y) (fa.named x x<) (fb.named y y<) i) v v<;
  }

  pub pair_arena : (word : ℕ → ℕ) → ((i : ℕ) → word i < a.letters) → PairArena (pair_moves a b) a b word (states_at a b) (nodes_at a b)
  pair_arena word reads = record {
    sound = pair_sound;
    even_zero = refl;
    state_in = states_in a b;
    node_in = nodes_in a b;
    state_owner = λ p q p< q<. ap (place_owner a b) (states_place a b p q p< q<);
    state_degree = λ p q i p< q<. rw (states_place a b p q p< q<) (reads i);
    state_next = λ p q i p< q<. ap (λ P. place_successor a b P (word i)) (states_place a b p q p< q<);
    state_priority = λ p q p< q<. ap (place_priority a b) (states_place a b p q p< q<);
    node_high = λ x y x< y<. ap (place_priority a b) (nodes_place a b x y y<);
    node_at = λ x y x< y<. nodes_kind a b x y y<;
  }
