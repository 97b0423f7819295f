-- A game that answers 0 outside itself: the same winners, and within the bounds of an arena.
use Rattle.std.proofs.Common.{◌≡◌, ℕ, ◌<◌, ◌≤◌, cond, ltb, refl, ap, ◌∙◌, subst, inl, inr, arith}
use Rattle.std.proofs.lemmas.Bool.{cases_lt, cond_both, cond-true, cond-false, lt-ltb, le-ltb, ltb-true}
use Rattle.parity.specs.Game.{Game, Sound, favoured}
use Rattle.parity.specs.Grading.{winner}
use Rattle.parity.proofs.Transfer.{Alike, Carries, same_carries, transfer}
use Rattle.arena.specs.Bounds.{Bounds}
use Rattle.arena.specs.Known.{known_elsewhere}
use Rattle.runs.specs.Inside.{inside, inside_place}

module _ (G : Game) where
  module _ (v : ℕ) (v< : v < G.count) where
    same_degree : (inside G).degree v ≡ G.degree v
    same_degree = cond-true (ltb v G.count) _ _ (lt-ltb v G.count v<)

    same_priority : (inside G).priority v ≡ G.priority v
    same_priority = cond-true (ltb v G.count) _ _ (lt-ltb v G.count v<)

    same_successor : (i : ℕ) → i < G.degree v → (inside G).successor v i ≡ G.successor v i
    same_successor i i< = cond-true (ltb v G.count) _ _ (lt-ltb v G.count v<) ∙ cond-true (ltb i (G.degree v)) _ _ (lt-ltb i (G.degree v) i<)

    less : (i : ℕ) → i < (inside G).degree v → i < G.degree v
    less i = subst (λ d. i < d) same_degree

  alike : Alike G (inside G) (λ x. x) (λ u. u) (λ u k. k)
  alike = record {
    inside = λ u u<. u<;
    owners = λ u u<. inl (cond-true (ltb u G.count) _ _ (lt-ltb u G.count u<));
    forth = λ u j u< l. (j, less u u< j l, same_successor u u< j (less u u< j l));
    back = λ u k u< l. (rw (same_degree u u<) l, same_successor u u< k l);
  }

  carries : (v : ℕ) → Carries G (inside G) (λ x. x) (λ u. u) v
  unfolding favoured
  carries = same_carries G (inside G) (λ x. x) (λ u. u) (λ p. refl) same_priority

  -- a number that is no vertex stands where vertex 0 stands
  pub inside_elsewhere : {P : Type 0} (place : ℕ → P) (v : ℕ) → G.count ≤ v → inside_place G place v ≡ inside_place G place 0
  inside_elsewhere place v h = ap place (known_elsewhere G.count v h)

module _ {G : Game} (sound : Sound G) where
  pub inside_sound : Sound (inside G)
  inside_sound = record {
    moves = λ v v<. rw (same_degree G v v<) (sound.moves v v<);
    stays = λ v i v< i<. let l = less G v v< i i< in rw (same_successor G v v< i l) (sound.stays v i v< l);
  }

  pub inside_winner : (v : ℕ) → v < G.count → winner (inside G) v ≡ winner G v
  inside_winner v v< = transfer sound inside_sound (alike G) v v< (carries G v)

  pub inside_bounds : 1 ≤ G.count → G.count ≤ 65535 → ((v : ℕ) → v < G.count → G.priority v ≤ 9999) →
      ((v : ℕ) → v < G.count → G.degree v ≤ 16) → Bounds (inside G)
  inside_bounds some few low narrow = record {
    some = some;
    few = few;
    priorities = λ v. cond_both (ltb v G.count) (G.priority v) 0 (λ p. p ≤ 9999) (λ e. low v (ltb-true v G.count e)) (λ _. omega arith);
    moves = inside_sound.moves;
    limit = λ v. cond_both (ltb v G.count) (G.degree v) 0 (λ d. d ≤ 16) (λ e. narrow v (ltb-true v G.count e)) (λ _. omega arith);
    inside = λ v i. cond_both (ltb v G.count) (cond (ltb i (G.degree v)) (G.successor v i) 0) 0 (λ w. w < G.count)
        (λ e. cond_both (ltb i (G.degree v)) (G.successor v i) 0 (λ w. w < G.count) (λ h. sound.stays v i (ltb-true v G.count e) (ltb-true i (G.degree v) h)) (λ _. omega arith))
        (λ _. omega arith);
    no_owner = λ v h. cond-false (ltb v G.count) _ _ (le-ltb v G.count h);
    no_priority = λ v h. cond-false (ltb v G.count) _ _ (le-ltb v G.count h);
    no_degree = λ v h. cond-false (ltb v G.count) _ _ (le-ltb v G.count h);
    no_successor = λ v i h. elim (cases_lt v G.count) [
      | inl l ↦ cond-true (ltb v G.count) _ _ (lt-ltb v G.count l) ∙ cond-false (ltb i (G.degree v)) _ _ (le-ltb i (G.degree v) (rw (same_degree G v l) at h))
      | inr l ↦ cond-false (ltb v G.count) _ _ (le-ltb v G.count l)
    ];
  }
