-- Runs whose vertices, edges and models are any predicates, decidable or not, accept the same repeating words. The statement ranges
-- over predicates, so it lies in a larger universe than a contract can name.
use Rattle.std.proofs.Common.{◌≡◌, ℕ, suc, ◌<◌, true, List, inl, inr}
use Rattle.draft.specs.Automaton.{Automaton, state_count, is_complete}
use Rattle.draft.specs.WellFormed.{WellFormed}
use Rattle.runs.specs.Models.{States, In, Model, Minimal}
use Rattle.runs.specs.Run.{rule_node, LeastEven, Accepts}
use Rattle.runs.specs.Word.{letter, Readable}
use Rattle.runs.proofs.Formed.{formed}
use Rattle.runs.proofs.RunWins.{models-win}
use Rattle.runs.proofs.Sets.{without, minus, minus_sub, minus_not, minus_from}
use Rattle.runs.proofs.WinRuns.{win_runs}
use Rattle.runs.proofs.WordGames.{word_arena}

pub record AnyMinimal (a : Automaton) (M : ℕ → Type 0) (x : ℕ) : Type 1 where
  pub model : Model a M x
  pub least : (N : ℕ → Type 0) → ((q : ℕ) → N q → M q) → Model a N x → (q : ℕ) → M q → N q

pub record AnyRun (a : Automaton) (word : ℕ → ℕ) (start : ℕ) (V : ℕ → ℕ → Type 0) (E : ℕ → ℕ → ℕ → Type 0) : Type 1 where
  pub starts : V 0 start
  pub only : (q : ℕ) → V 0 q → q ≡ start
  pub reached : (i q : ℕ) → V (suc i) q → (p : ℕ) × E i p q
  pub from : (i p q : ℕ) → E i p q → V i p
  pub to : (i p q : ℕ) → E i p q → V (suc i) q
  pub minimal : (i p : ℕ) → V i p → AnyMinimal a (E i p) (rule_node a p (word i))

pub record AcceptsByAny (a : Automaton) (word : ℕ → ℕ) (start : ℕ) : Type 1 where
  pub vertices : ℕ → ℕ → Type 0
  pub edges : ℕ → ℕ → ℕ → Type 0
  pub run : AnyRun a word start vertices edges
  pub even : (ρ : ℕ → ℕ) → ρ 0 ≡ start → ((i : ℕ) → edges i (ρ i) (ρ (suc i))) → LeastEven a ρ

-- a set that is minimal among the decidable ones is minimal among all: a model has finitely many leaves
minimal_of_all : (a : Automaton) (M : States) (x : ℕ) → Minimal a M x → AnyMinimal a (In M) x
minimal_of_all a M x m = record {
  model = m.model;
  least = λ N sub fit q e. elim (without a N (In (minus M q)) q (λ p h n. minus_from M q p n (sub p h)) x fit) [ inl h ↦ h | inr rest ↦ absurd (minus_not M q (m.least (minus M q) (minus_sub M q) rest q e)) ];
}

pub any_from : (a : Automaton) (word : ℕ → ℕ) (q : ℕ) → Accepts a word q → AcceptsByAny a word q
any_from a word q acc = record {
  vertices = λ i. In (acc.vertices i);
  edges = λ i p. In (acc.edges i p);
  run = record {
    starts = acc.run.starts;
    only = acc.run.only;
    reached = acc.run.reached;
    from = acc.run.from;
    to = acc.run.to;
    minimal = λ i p h. minimal_of_all a (acc.edges i p) (rule_node a p (word i)) (acc.run.minimal i p h);
  };
  even = λ ρ e steps. acc.even ρ (record { starts = e; goes = steps });
}

pub any_to : (a : Automaton) → WellFormed a → is_complete a ≡ true → (prefix period : List ℕ) → Readable a.letters prefix period →
    (q : ℕ) → q < state_count a → AcceptsByAny a (letter prefix period) q → Accepts a (letter prefix period) q
any_to a w c prefix period r q q< acc =
    let f = formed a w c in
    win_runs (word_arena f r) q q<
    (models-win (word_arena f r) q q<
    acc.vertices acc.edges acc.run.starts acc.run.to (λ i p h. (acc.run.minimal i p h).model) acc.even)
