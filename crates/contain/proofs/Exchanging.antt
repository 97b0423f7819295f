-- Both automata turned and exchanged: the questions come to the same refusal or to the same verdict.
use Rattle.std.proofs.Common.{◌≡◌, ℕ, ◌+◌, ◌*◌, Bool, true, cond, eqb, ltb, leb, List, length, Ok, Err, ap, ◌∙◌, ap₂, mul_comm, arith}
use Rattle.std.proofs.lemmas.Bool.Decides.{nat_tests}
use Rattle.std.proofs.lemmas.Bool.{eqb-true, ltb-true}
use Rattle.refusal.specs.declared.Refusal.TheVariants.{Room}
use Rattle.game.specs.declared.outcome.Outcome.{Outcome}
use Rattle.game.specs.Outcomes.{solved}
use Rattle.draft.specs.Automaton.{Automaton, state_count, node_count, is_complete}
use Rattle.draft.specs.Calls.{turned}
use Rattle.draft.specs.WellFormed.{WellFormed}
use Rattle.draft.proofs.TurnLaws.{heeded}
use Rattle.draft.proofs.Dual.{nodes_same}
use Rattle.inclusion.specs.Exchange.{Exchanged}
use Rattle.inclusion.specs.PairGame.{pair_game, pair_winner}
use Rattle.inclusion.specs.Stratified.{is_stratified}
use Rattle.inclusion.proofs.Exchanges.{exchanged}
use Rattle.contain.specs.declared.fault.Containment.{Containment}
use Rattle.contain.specs.Asking.{in_order, asked}
use Rattle.contain.specs.Containing.{Answer, verdict_of, once_asked, once_solved, contain_answer}
use Rattle.contain.specs.ExchangeOfAnswers.{said, ExchangeOfAnswers}

eqb_exchanged : (m n : ℕ) → eqb m n ≡ eqb n m
eqb_exchanged m n = grind (arith, nat_tests)

-- the same answers, in the order of the one draft and then the other, and in the order exchanged
module _ (X Y : Answer) (xs ys : List Outcome) where
  Same : Bool → Bool → Bool → Bool → Bool → Bool → Bool → Type 0
  Same t u l v w y z = said (once_asked (in_order u t l w v z y) X xs).0 ≡ said (once_asked (in_order t u l v w y z) Y ys).0

  questions : (t u l v w y z : Bool) → (t ≡ true → u ≡ true → l ≡ true → v ≡ true → w ≡ true → said X.0 ≡ said Y.0) → Same t u l v w y z
  unfolding Same
  questions t u l v w y z h = grind arith

-- once the questions are answered, the room decides
by_room : (t u : Bool) (verdict : Containment) (l l' m m' : List Outcome) → t ≡ u → said (once_solved verdict (cond t (Ok tt, l) (Err Room, l'))).0 ≡ said (once_solved verdict (cond u (Ok tt, m) (Err Room, m'))).0
by_room t u verdict l l' m m' e = grind arith

module _ (a b : Automaton) (wa : WellFormed a) (wb : WellFormed b) (p q : ℕ) (records records' : List Outcome) (long : length records' ≡ length records) where
  alike : Exchanged a b
  alike = exchanged a b wa wb

  same_count : (pair_game (turned b) (turned a)).count ≡ (pair_game a b).count
  same_count =
      let states = ap₂ ◌*◌ alike.second.states alike.first.states ∙ mul_comm (state_count b) (state_count a) in
      let nodes = ap₂ ◌*◌ (nodes_same b) (nodes_same a) ∙ mul_comm (node_count b) (node_count a) in
      ap₂ ◌+◌ states nodes

  abbrev exchanged_game : Answer
  exchanged_game = once_solved (verdict_of (pair_winner (turned b) (turned a) q p)) (solved (pair_game (turned b) (turned a)) records')

  abbrev game : Answer
  game = once_solved (verdict_of (pair_winner a b p q)) (solved (pair_game a b) records)

  same_verdict : is_complete a ≡ true → is_complete b ≡ true → eqb a.letters b.letters ≡ true → ltb p (state_count a) ≡ true → ltb q (state_count b) ≡ true → said exchanged_game.0 ≡ said game.0
  same_verdict ca cb l p< q< =
      let won = alike.winners ca cb (eqb-true _ _ l) p q (ltb-true _ _ p<) (ltb-true _ _ q<) in
      ap (λ x. said (once_solved (verdict_of x) (solved (pair_game (turned b) (turned a)) records')).0) won
      ∙ by_room (leb (pair_game (turned b) (turned a)).count (length records')) (leb (pair_game a b).count (length records)) (verdict_of (pair_winner a b p q)) _ records' _ records (ap₂ leb same_count long)

  exchanged_asked : asked (turned b) q (turned a) p ≡ in_order (is_complete b) (is_complete a) (eqb a.letters b.letters) (ltb q (state_count b)) (ltb p (state_count a)) (is_stratified b) (is_stratified a)
  exchanged_asked = λ i. in_order (alike.second.complete i) (alike.first.complete i) (eqb_exchanged b.letters a.letters i) (ltb q (alike.second.states i)) (ltb p (alike.first.states i)) (alike.second.stratified i) (alike.first.stratified i)

  same_said : said (contain_answer (turned b) q (turned a) p records').0 ≡ said (contain_answer a p b q records).0
  unfolding Same
  same_said =
      ap (λ r. said (once_asked r exchanged_game records').0) exchanged_asked
      ∙ questions exchanged_game game records' records (is_complete a) (is_complete b) (eqb a.letters b.letters) (ltb p (state_count a)) (ltb q (state_count b)) (is_stratified a) (is_stratified b) same_verdict

pub exchange_of_answers : ExchangeOfAnswers
exchange_of_answers a b a' b' wa wb e e' p q records records' long =
    ap₂ (λ x y. said (contain_answer y q x p records').0) (heeded a a' e) (heeded b b' e') ∙ same_said a b wa wb p q records records' long
