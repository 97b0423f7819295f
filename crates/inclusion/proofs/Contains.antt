-- A pair that player 0 wins is one of containment.
use Rattle.std.proofs.Common.{◌≡◌, ℕ, ◌<◌, ◌≤◌, true, List, sym, ◌∙◌, subst, inl, inr}
use Rattle.parity.proofs.Players.{which}
use Rattle.parity.specs.declared.player.Player.TheVariants.{Zero, One}
use Rattle.draft.specs.Automaton.{Automaton, state_count, priority_of, is_complete}
use Rattle.draft.specs.WellFormed.{WellFormed}
use Rattle.runs.specs.Run.{rule_node, Accepts}
use Rattle.runs.specs.Word.{letter, Readable}
use Rattle.runs.specs.WordGame.{word_moves}
use Rattle.runs.specs.Accepting.{word_winner}
use Rattle.runs.proofs.Accepted.{same_winner, accepted_wins, won_accepts}
use Rattle.runs.proofs.Folds.{fold, letter_in}
use Rattle.runs.proofs.Formed.{Formed, formed, rule_is}
use Rattle.runs.proofs.Insides.{inside_winner}
use Rattle.runs.proofs.WordGames.{st, nd, word_arena}
use Rattle.inclusion.specs.Comparable.{Comparable}
use Rattle.inclusion.specs.PairGame.{states_at, nodes_at, pair_moves, pair_winner}
use Rattle.inclusion.specs.Safe.{Safe}
use Rattle.inclusion.specs.Stratified.{NamedBelow, Stratified}
use Rattle.inclusion.proofs.Clash.{clash}
use Rattle.inclusion.proofs.PairArena.{ThreeGames}
use Rattle.inclusion.proofs.PairGames.{states_in, pair_sound, pair_arena}

-- no rule leads to a larger priority, whatever is read
falls : (a : Automaton) → is_complete a ≡ true → Stratified a → (word : ℕ → ℕ) → ((i : ℕ) → word i < a.letters) →
    (p i q : ℕ) → p < state_count a → NamedBelow a q (rule_node a p (word i)) → priority_of a q ≤ priority_of a p
falls a c s word reads p i q p< n = s p (word i) (rule_node a p (word i)) q (rule_is a c p (word i) p< (reads i)) n

module _ (a b : Automaton) (wa : WellFormed a) (wb : WellFormed b) (k : Comparable a b) (prefix period : List ℕ) (r : Readable a.letters prefix period) where
  fa : Formed a
  fa = formed a wa k.first_complete

  fb : Formed b
  fb = formed b wb k.second_complete

  r' : Readable b.letters prefix period
  r' = subst (λ n. Readable n prefix period) k.same_letters r

  pub three_games : ThreeGames a b (letter prefix period)
  three_games = record {
    C = pair_moves a b;
    sp = states_at a b;
    np = nodes_at a b;
    pairs = pair_arena fa fb k.same_letters wa.some_letters (letter prefix period) (letter_in prefix period a.letters r);
    first = record { G = word_moves a prefix period; st = st fa r; nd = nd fa r; arena = word_arena fa r };
    second = record { G = word_moves b prefix period; st = st fb r'; nd = nd fb r'; arena = word_arena fb r' };
  }

  module _ (p q : ℕ) (p< : p < state_count a) (q< : q < state_count b) (won : pair_winner a b p q ≡ Zero) (acc : Accepts a (letter prefix period) p) where
    not_one : word_winner b prefix period q ≡ One → ⊥
    unfolding fold three_games
    not_one lost =
        clash a b (letter prefix period) three_games
        (falls a k.first_complete k.first_stratified (letter prefix period) (letter_in prefix period a.letters r))
        (falls b k.second_complete k.second_stratified (letter prefix period) (letter_in prefix period b.letters r'))
        p q p< q<
        (sym (inside_winner (pair_sound fa fb k.same_letters wa.some_letters) (states_at a b p q) (states_in a b p q p< q<)) ∙ won)
        (sym (same_winner fa r p p<) ∙ accepted_wins fa r p p< acc)
        (sym (same_winner fb r' q q<) ∙ lost)

    pub contains : Accepts b (letter prefix period) q
    contains =
        elim (which (word_winner b prefix period q) Zero) [ inl e ↦ won_accepts fb r' q q< e | inr e ↦ absurd (not_one e) ]

pub contained : Safe
contained a b wa wb k p q p< q< won prefix period r acc = contains a b wa wb k prefix period r p q p< q< won acc
