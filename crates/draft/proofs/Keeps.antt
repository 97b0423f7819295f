-- Each change that a heeded call makes keeps an automaton well formed.
use Rattle.std.proofs.Common.{◌≡◌, ℕ, ◌<◌, ◌≤◌, true, List, [], ◌∷◌, ◌++◌, map, length, get_or, set, sym, ap, ◌∙◌, arith, rules}
use Rattle.std.proofs.lemmas.Grind.{common_steps}
use Rattle.std.proofs.lemmas.List.{length_push, get_or_append_left, get_or_push}
use Rattle.parity.proofs.Below.{all_gives}
use Rattle.draft.specs.declared.parts.Node.{Node}
use Rattle.draft.specs.declared.parts.Node.TheVariants.{Leaf, Either, Both}
use Rattle.draft.specs.declared.parts.State.{State}
use Rattle.draft.specs.Automaton.{Automaton, empty, blank, state_count, node_count, node_of}
use Rattle.draft.specs.Calls.{with_states, with_nodes, fresh, ruled, graded, dual, raised, turned, can_turn}
use Rattle.draft.specs.WellFormed.{WellFormed, Fits, is_child}
use Rattle.draft.proofs.Dual.{states_same, nodes_same, state_raised, rule_same, node_dual}

pub empty_keeps : (n : ℕ) → 1 ≤ n → n ≤ 16 → WellFormed (empty n)
empty_keeps n l h = search rules

pub state_keeps : (a : Automaton) (p : ℕ) → WellFormed a → p ≤ 999 → state_count a < 32 → WellFormed (with_states a (a.states ++ fresh p ∷ []))
state_keeps a p w p≤ few = record {
  some_letters = w.some_letters;
  few_letters = w.few_letters;
  few_states = grind (arith, common_steps);
  few_nodes = w.few_nodes;
  low = λ q q<. grind (arith, common_steps, w.low);
  full = λ q q<. grind (arith, common_steps, w.full);
  lettered = λ q letter x e. grind (arith, common_steps, w.lettered);
  named = λ q letter x e. grind (arith, common_steps, w.named);
  leaves = λ x q x< e. grind (arith, common_steps, w.leaves);
  children = w.children;
}

pub rule_keeps : (a : Automaton) (q letter x : ℕ) → WellFormed a → q < state_count a → letter < a.letters → x < node_count a
    → WellFormed (with_states a (set a.states q (ruled (get_or a.states q blank) letter x)))
rule_keeps a q letter x w q< l< x< = grind (arith, common_steps, w.low, w.full, w.lettered, w.named, w.leaves)

pub priority_keeps : (a : Automaton) (q p : ℕ) → WellFormed a → q < state_count a → p ≤ 999
    → WellFormed (with_states a (set a.states q (graded (get_or a.states q blank) p)))
priority_keeps a q p w q< p≤ = record {
  some_letters = w.some_letters;
  few_letters = w.few_letters;
  few_states = grind (arith, common_steps);
  few_nodes = w.few_nodes;
  low = λ k k<. grind (arith, common_steps, w.low);
  full = λ k k<. grind (arith, common_steps, w.full);
  lettered = λ k letter x e. grind (arith, common_steps, w.lettered);
  named = λ k letter x e. grind (arith, common_steps, w.named);
  leaves = λ x k x< e. grind (arith, common_steps, w.leaves);
  children = w.children;
}

fits_child : (n x : ℕ) (t : Node) (y : ℕ) → Fits n x t → is_child t y ≡ true → y < x
fits_child n x (Leaf k) y h e = grind arith
fits_child n x (Either l r) y h e = grind arith
fits_child n x (Both l r) y h e = grind arith

pub node_keeps : (a : Automaton) (t : Node) → WellFormed a → node_count a < 128 → Fits (state_count a) (node_count a) t → WellFormed (with_nodes a (a.nodes ++ t ∷ []))
node_keeps a t w few fits = record {
  some_letters = w.some_letters;
  few_letters = w.few_letters;
  few_states = w.few_states;
  few_nodes = grind (arith, common_steps);
  low = w.low;
  full = w.full;
  lettered = w.lettered;
  named = λ q letter x e. grind (arith, common_steps, w.named);
  leaves = λ x q x< e. grind (arith, w.leaves, length_push, get_or_append_left, get_or_push);
  children = λ x y e. grind (arith, common_steps, w.children, fits_child);
}

pub can_raise : (l : List State) (q : ℕ) → can_turn l ≡ true → q < length l → (get_or l q blank).priority < 999
unfolding can_turn
can_raise l q can q< = let h = all_gives (length l) _ can q q< in grind arith

dual_leaf : (t : Node) (q : ℕ) → dual t ≡ Leaf q → t ≡ Leaf q
dual_leaf (Leaf k) q e = e
dual_leaf (Either l r) q e = grind arith
dual_leaf (Both l r) q e = grind arith

dual_child : (t : Node) (y : ℕ) → is_child (dual t) y ≡ is_child t y
dual_child t y = grind arith

pub turn_keeps : (a : Automaton) → WellFormed a → can_turn a.states ≡ true → WellFormed (turned a)
turn_keeps a w can = record {
  some_letters = w.some_letters;
  few_letters = w.few_letters;
  few_states = omega (arith, states_same a, w.few_states);
  few_nodes = omega (arith, nodes_same a, w.few_nodes);
  low = λ q q<. grind (arith, states_same a, state_raised a, can_raise);
  full = λ q q<. grind (arith, states_same a, state_raised a, w.full);
  lettered = λ q letter x h. w.lettered q letter x (sym (rule_same a q letter) ∙ h);
  named = λ q letter x h. omega (arith, nodes_same a, w.named q letter x (sym (rule_same a q letter) ∙ h));
  leaves = λ x q x< h. omega (arith, states_same a, w.leaves x q (omega (arith, nodes_same a)) (dual_leaf (node_of a x) q (sym (node_dual a x) ∙ h)));
  children = λ x y h. w.children x y (sym (dual_child (node_of a x) y) ∙ (ap (λ n. is_child n y) (sym (node_dual a x)) ∙ h));
}

pub turn_keeps_as : (a : Automaton) (states : List State) (nodes : List Node) → WellFormed a → can_turn a.states ≡ true
    → states ≡ map raised a.states → nodes ≡ map dual a.nodes → WellFormed (record { letters = a.letters; states = states; nodes = nodes })
turn_keeps_as a states nodes w can e e' = rw (e, e') (turn_keeps a w can)
