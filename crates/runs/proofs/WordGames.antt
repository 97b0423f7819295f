-- The word game of an automaton and a repeating word is a game in which that word is read.
use Rattle.std.proofs.Common.{◌≡◌, ℕ, zero, suc, ◌<◌, ◌≤◌, List, refl, ap, ◌∙◌, arith}
use Rattle.parity.specs.Game.{Game, Sound}
use Rattle.draft.specs.declared.parts.Node.{Node}
use Rattle.draft.specs.declared.parts.Node.TheVariants.{Leaf, Either, Both}
use Rattle.draft.specs.Automaton.{Automaton, state_count, node_count, node_of}
use Rattle.draft.specs.WellFormed.{Fits}
use Rattle.runs.specs.declared.place.WordPlace.{WordPlace}
use Rattle.runs.specs.declared.place.WordPlace.TheVariants.{AtState, AtNode}
use Rattle.runs.specs.Word.{letter, Readable}
use Rattle.runs.specs.Run.{rule_node}
use Rattle.runs.specs.WordGame.{steps, next_step, node_owner, node_degree, side, place_owner, place_priority, place_degree, state_at, node_at, place_at, node_successor, place_successor, word_moves}
use Rattle.runs.proofs.Folds.{fold, fold_in, next_in, letter_same, letter_in}
use Rattle.runs.proofs.Formed.{Formed}
use Rattle.runs.proofs.Tables.{each_place, first_place, second_place, first_in, second_in}
use Rattle.runs.proofs.WordArena.{NodeAt, WordArena}

pub side_below : (l r x i : ℕ) → l < x → r < x → side l r i < x
side_below l r x zero h h' = h
side_below l r x (suc i) h h' = h'

pub degree_within : (n : Node) → (0 < node_degree n) × (node_degree n ≤ 2)
degree_within (Leaf q) = (omega arith, omega arith)
degree_within (Either l r) = (omega arith, omega arith)
degree_within (Both l r) = (omega arith, omega arith)

module _ {a : Automaton} (formed : Formed a) {prefix period : List ℕ} (readable : Readable a.letters prefix period) where
  abbrev G : Game
  G = word_moves a prefix period

  abbrev n : ℕ
  n = steps prefix period

  abbrev s : ℕ
  s = state_count a

  abbrev m : ℕ
  m = node_count a

  pub word_each : (Q : WordPlace → Type 0) → ((k q : ℕ) → k < n → q < s → Q (AtState k q)) → ((k x : ℕ) → k < n → x < m → Q (AtNode k x)) →
      (v : ℕ) → v < G.count → Q (place_at a prefix period v)
  word_each = each_place AtState AtNode n s n m

  pub state_place : (k q : ℕ) → k < n → q < s → place_at a prefix period (state_at a prefix period k q) ≡ AtState k q
  state_place = first_place AtState AtNode n s n m

  node_place : (k x : ℕ) → x < m → place_at a prefix period (node_at a prefix period k x) ≡ AtNode k x
  node_place = second_place AtState AtNode n s n m

  pub state_in : (k q : ℕ) → k < n → q < s → state_at a prefix period k q < G.count
  state_in = first_in AtState AtNode n s n m

  node_in : (k x : ℕ) → k < n → x < m → node_at a prefix period k x < G.count
  node_in = second_in AtState AtNode n s n m

  letter_fits : (k : ℕ) → letter prefix period k < a.letters
  letter_fits = letter_in prefix period a.letters readable

  node_stays : (k x i : ℕ) → k < n → x < m → (t : Node) → Fits s x t → node_successor a prefix period k t i < G.count
  node_stays k x i k< x< (Leaf q) h = state_in (next_step prefix period k) q (next_in prefix period readable.some k k<) h
  node_stays k x i k< x< (Either l r) (l<, r<) = node_in k (side l r i) k< (omega (arith, side_below l r x i l< r<))
  node_stays k x i k< x< (Both l r) (l<, r<) = node_in k (side l r i) k< (omega (arith, side_below l r x i l< r<))

  pub word_sound : Sound G
  word_sound = record {
    moves = word_each (λ P. 0 < place_degree a P) (λ k q _ _. omega arith) (λ k x _ _. (degree_within (node_of a x)).0);
    stays = λ v i v< _. word_each (λ P. place_successor a prefix period P i < G.count)
        (λ k q k< q<. node_in k _ k< (formed.ruled q _ q< (letter_fits k)))
        (λ k x k< x<. node_stays k x i k< x< (node_of a x) (formed.named x x<)) v v<;
  }

  -- the vertices at step i of the unending word
  abbrev pub st : ℕ → ℕ → ℕ
  st i q = state_at a prefix period (fold prefix period i) q

  abbrev pub nd : ℕ → ℕ → ℕ
  nd i x = node_at a prefix period (fold prefix period i) x

  folded_in : (i : ℕ) → fold prefix period i < n
  folded_in = fold_in prefix period readable.some

  folded_state : (i q : ℕ) → q < s → place_at a prefix period (st i q) ≡ AtState (fold prefix period i) q
  folded_state i q q< = state_place (fold prefix period i) q (folded_in i) q<

  folded_node : (i x : ℕ) → x < m → place_at a prefix period (nd i x) ≡ AtNode (fold prefix period i) x
  folded_node i x x< = node_place (fold prefix period i) x x<

  node_kind : (i x : ℕ) → x < m → NodeAt G st nd i x (node_of a x)
  node_kind i x x< = go (node_of a x) (ap (place_owner a) here) (ap (place_degree a) here) (λ j. ap (λ P. place_successor a prefix period P j) here)
    where
      here : place_at a prefix period (nd i x) ≡ AtNode (fold prefix period i) x
      here = folded_node i x x<

      go : (t : Node) → G.owner (nd i x) ≡ node_owner t → G.degree (nd i x) ≡ node_degree t →
          ((j : ℕ) → G.successor (nd i x) j ≡ node_successor a prefix period (fold prefix period i) t j) → NodeAt G st nd i x t
      go (Leaf q) own degree next = (degree, next 0 ∙ (unfold fold in refl))
      go (Either l r) own degree next = (own, degree, next 0, next 1)
      go (Both l r) own degree next = (own, degree, next 0, next 1)

  pub word_arena : WordArena G a (letter prefix period) st nd
  word_arena = record {
    sound = word_sound;
    formed = formed;
    reads = letter_fits;
    even_zero = refl;
    state_in = λ i q q<. state_in (fold prefix period i) q (folded_in i) q<;
    node_in = λ i x x<. node_in (fold prefix period i) x (folded_in i) x<;
    state_degree = λ i q q<. ap (place_degree a) (folded_state i q q<);
    state_next = λ i q q<. ap (λ P. place_successor a prefix period P 0) (folded_state i q q<) ∙ ap (λ c. nd i (rule_node a q c)) (letter_same prefix period readable.some i);
    state_priority = λ i q q<. ap (place_priority a) (folded_state i q q<);
    node_high = λ i x x<. ap (place_priority a) (folded_node i x x<);
    node_at = node_kind;
  }
