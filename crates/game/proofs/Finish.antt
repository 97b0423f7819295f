-- The last pass.
use Rattle.std.proofs.Common.{◌≡◌, ℕ, ◌<◌, Bool, true, false, cond, ◌&&◌, ltb, ◌⊎◌, List, sym, refl, ap, ◌∙◌, inl, inr, arith}
use Rattle.std.proofs.lemmas.Bool.{cases_lt}
use Rattle.parity.specs.Game.{Game, favoured}
use Rattle.parity.specs.Player.{same}
use Rattle.parity.specs.Grading.{grade, distance}
use Rattle.parity.specs.Move.{move_by}
use denote.Enum.Bare.{sameb}
use Rattle.parity.specs.contracts.player.Player.{the_type}
use Rattle.parity.specs.declared.player.Player.{Player}
use Rattle.parity.specs.declared.player.Player.TheVariants.{Zero, One}
use Rattle.parity.proofs.Moves.{move_same}
use Rattle.arena.specs.Bounds.{Bounds}
use Rattle.game.specs.Outcomes.{outcome}
use Rattle.game.specs.Filling.{ranked}
use Rattle.game.specs.LastPass.{grade_in, distance_in, first_nearer, first_up, finished_by}
use Rattle.game.specs.declared.outcome.Outcome.{Outcome}
use Rattle.game.proofs.Passed.{Passed}
use Rattle.game.proofs.Rounds.{sound_of}

-- the last pass has come to v
abbrev pub Finishing : Game → ℕ → List Outcome → List Outcome → Type 0
Finishing G = Passed G.count (outcome G) (ranked G)

-- the records tell then what is reported of v
pub finished_is : (G : Game) (b : Bounds G) (v : ℕ) (before l : List Outcome) → v < G.count → Finishing G v before l → finished_by G l v ≡ outcome G v
finished_is G b v before l v< h = (λ i. record { winner = favoured G (grades v v< i); grade = grades v v< i; distance = distances v v< i; choice = moves i })
  where
    grades : (u : ℕ) → u < G.count → grade_in l u ≡ grade G u
    grades u u< = grind (arith, cases_lt u v, h.done u, h.ahead u)

    distances : (u : ℕ) → u < G.count → distance_in l u ≡ distance G u
    distances u u< = grind (arith, cases_lt u v, h.done u, h.ahead u)

    moves : move_by G (grade_in l) (distance_in l) v ≡ move_by G (grade G) (distance G) v
    moves = move_same G (sound_of G b) (grade_in l) (distance_in l) (grade G) (distance G) grades distances v v<

-- `==` on players, as the code has it
equals : (x y : Player) → sameb the_type x y ≡ same x y
equals Zero Zero = refl
equals Zero One = refl
equals One Zero = refl
equals One One = refl

-- which of the two rules gives the move, by the test r of the owner x and the favoured y
module _ (G : Game) (l : List Outcome) (v : ℕ) (x y : Player) (r nearer : Bool) (own : x ≡ G.owner v) (fav : y ≡ favoured G (grade_in l v)) (is : r ≡ sameb the_type x y) where
  test : same (G.owner v) (favoured G (grade_in l v)) ≡ r
  test = sym (λ i. same (own i) (fav i)) ∙ sym (equals x y) ∙ sym is

  both : ((r ≡ true) × (nearer ≡ ltb 0 (distance_in l v))) ⊎ ((r ≡ false) × (nearer ≡ r)) → (same (G.owner v) (favoured G (grade_in l v)) && ltb 0 (distance_in l v)) ≡ nearer
  both (inl (e, n)) = ap (λ b. b && ltb 0 (distance_in l v)) (test ∙ e) ∙ sym n
  both (inr (e, n)) = ap (λ b. b && ltb 0 (distance_in l v)) (test ∙ e) ∙ sym (n ∙ e)

  pub move_is : ((r ≡ true) × (nearer ≡ ltb 0 (distance_in l v))) ⊎ ((r ≡ false) × (nearer ≡ r)) → move_by G (grade_in l) (distance_in l) v ≡ cond nearer (first_nearer G l v) (first_up G l v)
  unfolding move_by
  move_is h = ap (λ b. cond b (first_nearer G l v) (first_up G l v)) (both h)
