-- The turned automaton: the same moves win for the other player, so it accepts what the automaton does not.
use Rattle.std.proofs.Common.{◌≡◌, ℕ, ◌+◌, ◌*◌, ◌<◌, true, ◌⊎◌, List, sym, refl, ap, ◌∙◌, subst, inl, inr, arith}
use Rattle.parity.specs.Game.{Game, favoured}
use Rattle.parity.specs.Grading.{winner}
use Rattle.parity.specs.Player.{other}
use Rattle.parity.specs.declared.player.Player.TheVariants.{Zero}
use Rattle.parity.proofs.Parities.{parity, favoured_even, favoured_odd}
use Rattle.parity.proofs.Players.{which, apart}
use Rattle.parity.proofs.Transfer.{Alike, Raised, Shifted, shifted_carries, transfer}
use Rattle.draft.specs.declared.parts.Node.{Node}
use Rattle.draft.specs.declared.parts.Node.TheVariants.{Leaf, Either, Both}
use Rattle.draft.specs.Automaton.{Automaton, state_count, node_of, is_complete}
use Rattle.draft.specs.Calls.{dual, turned}
use Rattle.draft.specs.WellFormed.{WellFormed}
use Rattle.runs.specs.declared.place.WordPlace.{WordPlace}
use Rattle.runs.specs.declared.place.WordPlace.TheVariants.{AtState, AtNode}
use Rattle.runs.specs.Word.{letter, Readable}
use Rattle.runs.specs.WordGame.{steps, next_step, state_vertex, node_vertex, vertex_place, node_owner, node_degree, side, place_owner, place_priority, place_degree, state_at, place_at, node_successor, place_successor, word_moves}
use Rattle.runs.specs.Turning.{Turning}
use Rattle.runs.proofs.Accepted.{start_in, same_winner, accepted_wins, won_accepts}
use Rattle.draft.proofs.Dual.{states_same, nodes_same, priority_raised, node_dual}
use Rattle.runs.proofs.Dual.{rule_node_same, turned_formed}
use Rattle.runs.proofs.Formed.{Formed, formed}
use Rattle.runs.proofs.WordGames.{word_each, word_sound, state_place}

dual_degree : (n : Node) → node_degree (dual n) ≡ node_degree n
dual_degree (Leaf q) = refl
dual_degree (Either l r) = refl
dual_degree (Both l r) = refl

dual_owner : (n : Node) → (node_owner (dual n) ≡ other (node_owner n)) ⊎ (node_degree n ≡ 1)
dual_owner (Leaf q) = inr refl
dual_owner (Either l r) = inl refl
dual_owner (Both l r) = inl refl

module _ (a : Automaton) (w : WellFormed a) (c : is_complete a ≡ true) (prefix period : List ℕ) (readable : Readable a.letters prefix period) where
  abbrev G : Game
  G = word_moves a prefix period

  abbrev H : Game
  H = word_moves (turned a) prefix period

  abbrev n : ℕ
  n = steps prefix period

  f : Formed a
  f = formed a w c

  f' : Formed (turned a)
  f' = turned_formed a w c

  counts_same : H.count ≡ G.count
  counts_same = λ i. n * states_same a i + n * nodes_same a i

  places_same : (v : ℕ) → place_at (turned a) prefix period v ≡ place_at a prefix period v
  places_same v = λ i. vertex_place n (states_same a i) (nodes_same a i) v

  degree_same : (P : WordPlace) → place_degree (turned a) P ≡ place_degree a P
  degree_same (AtState k q) = refl
  degree_same (AtNode k x) = ap node_degree (node_dual a x) ∙ dual_degree (node_of a x)

  dual_successor : (k : ℕ) (t : Node) (j : ℕ) → node_successor (turned a) prefix period k (dual t) j ≡ node_successor a prefix period k t j
  dual_successor k (Leaf q) j = λ i. state_vertex (states_same a i) (next_step prefix period k) q
  dual_successor k (Either l r) j = λ i. node_vertex n (states_same a i) (nodes_same a i) k (side l r j)
  dual_successor k (Both l r) j = λ i. node_vertex n (states_same a i) (nodes_same a i) k (side l r j)

  successor_same : (P : WordPlace) (j : ℕ) → place_successor (turned a) prefix period P j ≡ place_successor a prefix period P j
  successor_same (AtState k q) j = λ i. node_vertex n (states_same a i) (nodes_same a i) k (rule_node_same a q (letter prefix period k) i)
  successor_same (AtNode k x) j = ap (λ t. node_successor (turned a) prefix period k t j) (node_dual a x) ∙ dual_successor k (node_of a x) j

  owner_turned : (P : WordPlace) → (place_owner (turned a) P ≡ other (place_owner a P)) ⊎ (place_degree a P ≡ 1)
  owner_turned (AtState k q) = inr refl
  owner_turned (AtNode k x) = elim (dual_owner (node_of a x)) [ inl e ↦ inl (ap node_owner (node_dual a x) ∙ e) | inr e ↦ inr e ]

  -- the same at a vertex
  degree_at : (v : ℕ) → H.degree v ≡ G.degree v
  degree_at v = ap (place_degree (turned a)) (places_same v) ∙ degree_same (place_at a prefix period v)

  successor_at : (v j : ℕ) → H.successor v j ≡ G.successor v j
  successor_at v j = ap (λ P. place_successor (turned a) prefix period P j) (places_same v) ∙ successor_same (place_at a prefix period v) j

  below : (v : ℕ) → v < H.count → v < G.count
  below v = subst (λ k. v < k) counts_same

  alike : Alike G H other (λ v. v) (λ v k. k)
  alike = record {
    inside = below;
    owners = λ v v<. elim (owner_turned (place_at a prefix period v)) [ inl e ↦ inl (ap (place_owner (turned a)) (places_same v) ∙ e) | inr e ↦ inr e ];
    forth = λ v j v< j<. (j, rw (degree_at v) at j<, successor_at v j);
    back = λ v k v< k<. (rw (degree_at v) k<, successor_at v k);
  }

  favoured_next : (p : ℕ) → favoured H (p + 1) ≡ other (favoured G p)
  favoured_next p =
      grind (arith, parity p, favoured_odd H (p + 1), favoured_even G p, favoured_even H (p + 1), favoured_odd G p)

  -- each state has the next priority, each node the same
  priorities : (v : ℕ) → v < G.count → Raised 1 9999 (G.priority v) (H.priority v)
  priorities v v< =
      subst (λ P. Raised 1 9999 (G.priority v) (place_priority (turned a) P)) (sym (places_same v))
      (word_each f readable (λ P. Raised 1 9999 (place_priority a P) (place_priority (turned a) P))
      (λ k q _ q<. inl (omega (arith, f.low q q<), priority_raised a q q<)) (λ k x _ _. inr (refl, refl)) v v<)

  shifted : Shifted G H other (λ v. v) 1 9999
  shifted = record { favours = favoured_next; levels = λ v v<. priorities v (below v v<) }

  module _ (q : ℕ) (q< : q < state_count a) where
    abbrev v : ℕ
    v = state_at a prefix period 0 q

    low : G.priority v < 9999
    low = rw (state_place f readable 0 q (let h = readable.some in omega arith) q<) (omega (arith, f.low q q<))

    pub moves_turned : winner H v ≡ other (winner G v)
    moves_turned =
        transfer (word_sound f readable) (word_sound f' readable) alike v
        (rw counts_same (start_in a f prefix period readable q q<)) (shifted_carries shifted v low)

pub turning : Turning
turning a w c prefix period r q q< =
    let f = formed a w c in
    let f' = turned_formed a w c in
    let q<' : q < state_count (turned a) = rw (states_same a) q< in
    let start : state_at (turned a) prefix period 0 q ≡ state_at a prefix period 0 q = (λ i. state_vertex (states_same a i) 0 q) in
    let t = same_winner f' r q q<' ∙ ap (winner (word_moves (turned a) prefix period)) start ∙ moves_turned a w c prefix period r q q< ∙ ap other (sym (same_winner f r q q<)) in (
      t,
      (λ acc' acc. apart Zero (sym (accepted_wins f' r q q<' acc') ∙ t ∙ ap other (accepted_wins f r q q< acc))),
      λ none. elim (which (winner (word_moves a prefix period) (state_at a prefix period 0 q)) Zero) [
        | inl e ↦ absurd (none (won_accepts f r q q< (same_winner f r q q< ∙ e)))
        | inr e ↦ won_accepts f' r q q<' (t ∙ ap other (same_winner f r q q< ∙ e))
      ],
    )
