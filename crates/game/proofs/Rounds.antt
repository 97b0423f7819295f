-- What the records decide in a round.
use Rattle.std.proofs.Common.{◌≡◌, ℕ, zero, suc, ◌+◌, ◌<◌, ◌≤◌, true, false, cond, eqb, ltb, ◌⊎◌, List, get_or, Decides, sym, ap, ◌∙◌, inl, inr, arith}
use lib.Dec.{eqb-suc-zero}
use Rattle.std.proofs.lemmas.Bool.{cases_Bool, cases_lt, and_left, cond-true, cond-false, ne_eqb, eq-eqb, both_ways}
use Rattle.std.proofs.lemmas.Bool.Decides.{Decides-and, Decides-or, Decides-eqb, Decides-ltb, Decides-like, Decides-at, same_from_decides, not_from_Decides}
use Rattle.parity.specs.Game.{Game, Sound, favoured}
use Rattle.parity.specs.Player.{same}
use Rattle.parity.specs.Below.{some_below}
use Rattle.parity.specs.Grading.{grade, distance}
use Rattle.parity.proofs.Below.{some_decides, all_decides, some_gives, some_from, no_from}
use Rattle.parity.proofs.Pull.{Pull, cond_decides, same_decides, differ_decides}
use Rattle.parity.specs.Certificate.{Certificate}
use Rattle.parity.proofs.Graded.{graded}
use Rattle.parity.proofs.Rounds.{base_test, round_test, each_distance}
use Rattle.parity.proofs.Crowd.{below_count}
use Rattle.arena.specs.Bounds.{Bounds}
use Rattle.game.specs.Outcomes.{blank}
use Rattle.game.specs.Filling.{unnamed, unset, ranked, reached, gets, partly, is_near, some_near, all_behind, joins_now}
use Rattle.game.specs.declared.outcome.Outcome.{Outcome}
use Rattle.game.proofs.Passed.{Passed}

pub sound_of : (G : Game) → Bounds G → Sound G
sound_of G b = record { moves = λ v v<. omega (arith, b.moves v v<); stays = λ v i _ _. b.inside v i }

module _ (G : Game) (b : Bounds G) where
  abbrev g : ℕ → ℕ
  g = grade G

  abbrev δ : ℕ → ℕ
  δ = distance G

  sound : Sound G
  sound = sound_of G b

  table : Certificate G g δ
  table = graded G sound

  pub g_small : (v : ℕ) → v < G.count → g v ≤ 9999
  g_small v v< = omega (arith, (table v v<).low, b.priorities v)

  abbrev pub Reached : ℕ → ℕ → ℕ → Type 0
  Reached p d v = (g v < p) ⊎ ((g v ≡ p) × (δ v < d))

  reached_is : (p d v : ℕ) → Decides (reached G p d v) (Reached p d v)
  unfolding reached
  reached_is p d v = Decides-or (ltb (g v) p) _ (Decides-ltb (g v) p) (Decides-and (eqb (g v) p) (ltb (δ v) d) (Decides-eqb (g v) p) (Decides-ltb (δ v) d))

  gets_is : (p d v : ℕ) → Decides (gets G p d v) ((g v ≡ p) × (δ v ≡ d))
  unfolding gets
  gets_is p d v = Decides-and (eqb (g v) p) (eqb (δ v) d) (Decides-eqb (g v) p) (Decides-eqb (δ v) d)

  pub filled : (p d v : ℕ) → Reached p d v → partly G p d v ≡ ranked G v
  unfolding partly
  filled p d v h = cond-true (reached G p d v) (ranked G v) unset ((reached_is p d v).1 h)

  pub left : (p d v : ℕ) → (Reached p d v → ⊥) → partly G p d v ≡ unset
  unfolding partly
  left p d v h = cond-false (reached G p d v) (ranked G v) unset (no_from _ (reached_is p d v) h)

  pub cases_reached : (p d v : ℕ) → Reached p d v ⊎ (Reached p d v → ⊥)
  cases_reached p d v = elim (cases_Bool (reached G p d v)) [ inl e ↦ inl ((reached_is p d v).0 e) | inr e ↦ inr (not_from_Decides _ (reached_is p d v) e) ]

  pub same_partly : (p d p' d' v : ℕ) → (Reached p d v → Reached p' d' v) → (Reached p' d' v → Reached p d v) → partly G p d v ≡ partly G p' d' v
  same_partly p d p' d' v there back = elim (cases_reached p d v) [ inl r ↦ filled p d v r ∙ sym (filled p' d' v (there r)) | inr n ↦ left p d v n ∙ sym (left p' d' v (λ r. n (back r))) ]

  pub not_below : (p d v : ℕ) → (Reached p d v → ⊥) → p ≤ g v
  not_below p d v n = grind arith

  -- the record of a vertex, in a round or halfway through it
  module _ (p d : ℕ) (small : p ≤ 9999) (u : ℕ) (u< : u < G.count) (o : Outcome) (e : ℕ) (up : d ≤ e) (is : o ≡ partly G p e u) where
    shown : Reached p e u → (o.grade ≡ g u) × (o.distance ≡ δ u)
    shown r = let i = is ∙ filled p e u r in (ap (λ (w : Outcome). w.grade) i, ap (λ (w : Outcome). w.distance) i)

    hidden : (Reached p e u → ⊥) → o.grade ≡ 65535
    hidden n = ap (λ (w : Outcome). w.grade) (is ∙ left p e u n)

    pub near_is : Decides (is_near p d o) ((g u ≡ p) × (δ u < d))
    near_is = Decides-like _ (λ x. grind (arith, cases_reached p e u, shown, hidden)) (λ x. grind (arith, shown)) (Decides-and (eqb o.grade p) (ltb o.distance d) (Decides-eqb o.grade p) (Decides-ltb o.distance d))

    pub gone_is : Decides (ltb o.grade p) (g u < p)
    gone_is = Decides-like _ (λ x. grind (arith, cases_reached p e u, shown, hidden)) (λ x. grind (arith, shown)) (Decides-ltb o.grade p)

  abbrev pub Between : ℕ → ℕ → List Outcome → Type 0
  Between p d l = (u : ℕ) → u < G.count → (e : ℕ) × (d ≤ e) × (get_or l u blank ≡ partly G p e u)

  module _ (l : List Outcome) (p : ℕ) (small : p ≤ 9999) (v : ℕ) (v< : v < G.count) where
    abbrev to : ℕ → ℕ
    to i = G.successor v i

    pull_is : (d : ℕ) → Between p (suc d) l → Decides (cond (same (G.owner v) (favoured G p)) (some_near G l p (suc d) v) (all_behind G l p (suc d) v)) (Pull G p (λ u. p ≤ g u) (λ u. (g u ≡ p) × (δ u ≤ d)) v)
    pull_is d at =
        cond_decides _ _ _
        (same_decides (G.owner v) (favoured G p))
        (differ_decides (G.owner v) (favoured G p))
        (some_decides (G.degree v) _ _ (λ i i<. hit i))
        (all_decides (G.degree v) _ _ (λ i i<. Decides-or _ _ (out i) (hit i)))
      where
        hit : (i : ℕ) → Decides (is_near p (suc d) (get_or l (to i) blank)) ((g (to i) ≡ p) × (δ (to i) ≤ d))
        hit i = (let a = at (to i) (b.inside v i) in Decides-like _ (λ n. (n.0, omega (arith, n.1))) (λ n. (n.0, omega (arith, n.1))) (near_is p (suc d) small (to i) (b.inside v i) _ a.0 a.1 a.2))

        out : (i : ℕ) → Decides (ltb (get_or l (to i) blank).grade p) (p ≤ g (to i) → ⊥)
        out i = (let a = at (to i) (b.inside v i) in Decides-like _ (λ x h. omega arith) (λ n. omega arith) (gone_is p (suc d) small (to i) (b.inside v i) _ a.0 a.1 a.2))

    test_is : (d : ℕ) → Between p d l → (Reached p d v → ⊥) →
        Decides (cond (eqb d 0) (eqb (G.priority v) p) (cond (same (G.owner v) (favoured G p)) (some_near G l p d v) (all_behind G l p d v))) ((g v ≡ p) × (δ v ≡ d))
    test_is zero at n =
        let t = base_test G sound g δ table p v v< (not_below p 0 v n) in
        Decides-like _ t.0 t.1 (Decides-eqb (G.priority v) p)
    test_is (suc d) at n =
        let t = round_test G sound g δ table p d v v< (not_below p (suc d) v n) (λ h. n (inr (h.0, omega (arith, h.1)))) in
        Decides-at _ _ (cond-false (eqb (suc d) 0) _ _ (eqb-suc-zero d)) (Decides-like _ t.0 t.1 (pull_is d at))

    -- the records tell whether v gets distance d at grade p
    pub joins_is : (d : ℕ) → Between p d l → get_or l v blank ≡ partly G p d v → joins_now G l p d v ≡ gets G p d v
    joins_is d at here = elim (cases_reached p d v) [ inl r ↦ old r | inr n ↦ new n ]
      where
        old : Reached p d v → joins_now G l p d v ≡ gets G p d v
        old r =
            let s = ap (λ (w : Outcome). w.grade) (here ∙ filled p d v r) in
            and_left (eqb (get_or l v blank).grade 65535) _ (ne_eqb _ _ (λ x. omega (arith, g_small v v<)))
            ∙ sym (no_from _ (gets_is p d v) (λ h. grind arith))

        new : (Reached p d v → ⊥) → joins_now G l p d v ≡ gets G p d v
        new n =
            let s : eqb (get_or l v blank).grade 65535 ≡ true = eq-eqb _ _ (ap (λ (w : Outcome). w.grade) (here ∙ left p d v n)) in
            same_from_decides _ _ (Decides-like _ (λ h. h.1) (λ h. (s, h)) (Decides-and (eqb (get_or l v blank).grade 65535) _ ((λ x. x), (λ x. x)) (test_is d at n))) (gets_is p d v)

  -- one distance more
  pub next_new : (p d v : ℕ) → gets G p d v ≡ true → unnamed p d ≡ partly G p (d + 1) v
  next_new p d v e =
      let h = (gets_is p d v).0 e in
      sym (filled p (d + 1) v (inr (h.0, omega (arith, h.1))) ∙ (λ i. unnamed (h.0 i) (h.1 i)))

  pub next_old : (p d v : ℕ) → gets G p d v ≡ false → partly G p d v ≡ partly G p (d + 1) v
  next_old p d v e =
      let other = not_from_Decides _ (gets_is p d v) e in
      same_partly p d p (d + 1) v (λ r. grind arith) (λ r. grind arith)

-- a round has come to v
abbrev pub Halfway : Game → ℕ → ℕ → ℕ → List Outcome → List Outcome → Type 0
Halfway G p d = Passed G.count (partly G p (d + 1)) (partly G p d)

-- the records tell then whether v gets distance d
pub tells : (G : Game) (b : Bounds G) (p d v : ℕ) (before l : List Outcome) → v < G.count → Halfway G p d v before l → p ≤ 9999 → joins_now G l p d v ≡ gets G p d v
tells G b p d v before l v< h small = joins_is G b l p small v v< d between (h.ahead v (omega arith) v<)
  where
    between : Between G b p d l
    between u u< = elim (cases_lt u v) [ inl x ↦ (d + 1, omega arith, h.done u x) | inr x ↦ (d, omega arith, h.ahead u x u<) ]

module _ (G : Game) (b : Bounds G) (p d : ℕ) where
  -- a round that finds one has not passed the count
  pub found_below : some_below G.count (gets G p d) ≡ true → d < G.count
  found_below e =
      let r = some_gives G.count (gets G p d) e in
      omega (arith, ((gets_is G b p d r.0).0 r.2).1, below_count G (sound G b) (grade G) (distance G) (table G b) r.0 r.1)

  -- a round that finds none ends the stage
  pub stage_ends : some_below G.count (gets G p d) ≡ false → (v : ℕ) → v < G.count → partly G p (d + 1) v ≡ partly G (p + 1) 0 v
  stage_ends e v v< = same_partly G b p (d + 1) (p + 1) 0 v (λ r. grind arith) (λ r. grind (arith, lost))
    where
      lost : grade G v ≡ p → d ≤ distance G v → ⊥
      lost s z =
          let r = each_distance G (sound G b) (grade G) (distance G) (table G b) (suc (distance G v)) v d v< (omega arith) z in
          both_ways _ e (some_from G.count (gets G p d) r.0 r.1 ((gets_is G b p d r.0).1 (r.2 ∙ s, r.3)))
