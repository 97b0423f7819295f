-- The grading fits at each vertex.
use Rattle.std.proofs.Common.{◌≡◌, ℕ, zero, suc, pred, ◌<◌, ◌≤◌, Bool, true, false, not, ◌&&◌, eqb, leb, ◌⊎◌, Decides, sym, refl, ◌∙◌, subst, inl, inr, eq-or-lt_of_le, arith}
use Rattle.std.proofs.lemmas.Bool.{cases_lt, cases_Bool, not-true, not_from_false, both_ways, le-leb, leb-true}
use Rattle.std.proofs.lemmas.Bool.Decides.{Decides-and, Decides-eqb, Decides-below_and}
use Rattle.std.proofs.Math.Bool.{and_comm}
use Rattle.parity.specs.Game.{Game, Sound, favoured}
use Rattle.parity.specs.Player.{other}
use Rattle.parity.specs.Grading.{level, within, rest, grade, distance}
use Rattle.parity.specs.Below.{some_below}
use Rattle.parity.proofs.Players.{which, apart}
use Rattle.parity.proofs.Below.{itself, one_more, some_decides, least_le, least_miss, least_hit}
use Rattle.parity.proofs.Pull.{Near, Pull, next_decides}
use Rattle.parity.proofs.Saturate.{saturated, more, in_set}
use Rattle.parity.specs.Certificate.{Certificate}

-- the largest value up to n
largest : (n : ℕ) (f : ℕ → ℕ) → (k : ℕ) × (k < suc n) × ((i : ℕ) → i < suc n → f i ≤ f k)
largest zero f = (0, omega arith, one_more (λ i. f i ≤ f 0) 0 (λ i l. absurd (omega arith)) (omega arith))
largest (suc n) f =
    let (k, k<, all) = largest n f in
    elim (cases_lt (f k) (f (suc n))) [
      | inl less ↦ (suc n, omega arith, one_more (λ i. f i ≤ f (suc n)) (suc n) (λ i l. omega (arith, all i l)) (omega arith))
      | inr up ↦ (k, omega arith, one_more (λ i. f i ≤ f k) (suc n) all up)
    ]

module _ (G : Game) (sound : Sound G) where
  abbrev g : ℕ → ℕ
  g = grade G

  abbrev δ : ℕ → ℕ
  δ = distance G

  abbrev Got : ℕ → ℕ → ℕ → Type 0
  Got p d v = within G (rest G p) p d v ≡ true

  rest_tells : (v p : ℕ) → Decides (rest G p v) ((q : ℕ) → q < p → within G (rest G q) q G.count v ≡ false)
  unfolding rest
  rest_tells v = Decides-below_and (λ q. not (within G (rest G q) q G.count v)) (λ q. within G (rest G q) q G.count v ≡ false)
      (λ p. rest G p v) (λ q. (not-true _, not_from_false _)) refl (λ p. and_comm (rest G p v) _)

  g_low : (v : ℕ) → g v ≤ level G v
  unfolding grade
  g_low v = least_le (level G v) _

  g_miss : (v q : ℕ) → q < g v → within G (rest G q) q G.count v ≡ false
  unfolding grade
  g_miss v q l = least_miss (level G v) _ q l

  g_rest : (v : ℕ) → rest G (g v) v ≡ true
  g_rest v = (rest_tells v (g v)).1 (g_miss v)

  base_is : (p v : ℕ) → Decides (within G (rest G p) p 0 v) ((rest G p v ≡ true) × (level G v ≡ p))
  unfolding within
  base_is p v = Decides-and _ _ (itself (rest G p v)) (Decides-eqb (level G v) p)

  g_hit : (v : ℕ) → v < G.count → Got (g v) G.count v
  unfolding grade
  g_hit v v< =
      elim (eq-or-lt_of_le (g_low v)) [
        | inl e ↦ more G sound (rest G (g v)) (g v) 0 G.count v v< (omega arith) ((base_is (g v) v).1 (g_rest v, sym e))
        | inr l ↦ least_hit (level G v) _ l
      ]

  rest_is : (p v : ℕ) → v < G.count → Decides (rest G p v) (p ≤ g v)
  rest_is p v v< = (there, λ l. (rest_tells v p).1 (λ q l'. g_miss v q (omega arith)))
    where
      there : rest G p v ≡ true → p ≤ g v
      there r = elim (cases_lt (g v) p) [ inl l ↦ absurd (both_ways _ ((rest_tells v p).0 r (g v) l) (g_hit v v<)) | inr l ↦ l ]

  δ_short : (v : ℕ) → δ v ≤ G.count
  unfolding distance
  δ_short v = least_le G.count _

  δ_miss : (v d : ℕ) → d < δ v → within G (rest G (g v)) (g v) d v ≡ false
  unfolding distance
  δ_miss v d l = least_miss G.count _ d l

  δ_hit : (v : ℕ) → v < G.count → Got (g v) (δ v) v
  unfolding distance
  δ_hit v v< = elim (eq-or-lt_of_le (δ_short v)) [ inl e ↦ subst (λ d. Got (g v) d v) (sym e) (g_hit v v<) | inr l ↦ least_hit G.count _ l ]

  got_is : (p d v : ℕ) → v < G.count → Decides (within G (rest G p) p d v) (Near g δ p d v)
  got_is p d v v< = (there, back)
    where
      there : Got p d v → Near g δ p d v
      there h =
          let up = (rest_is p v v<).0 (in_set G sound (rest G p) p d v v< h) in
          let all = saturated G sound (rest G p) p d v v< h in
          elim (eq-or-lt_of_le up) [
            | inl e ↦ (sym e, elim (cases_lt d (δ v)) [ inl l ↦ absurd (both_ways _ (δ_miss v d l) (subst (λ q. Got q d v) e h)) | inr l ↦ l ])
            | inr l ↦ absurd (both_ways _ (g_miss v p l) all)
          ]

      back : Near g δ p d v → Got p d v
      back (e, l) = subst (λ q. Got q d v) e (more G sound (rest G (g v)) (g v) (δ v) d v v< l (δ_hit v v<))

  abbrev Pulled : ℕ → ℕ → ℕ → Type 0
  Pulled p d v = Pull G p (λ u. p ≤ g u) (Near g δ p d) v

  next_is : (p d v : ℕ) → v < G.count → Decides (within G (rest G p) p (suc d) v) (Near g δ p d v ⊎ ((p ≤ g v) × Pulled p d v))
  next_is p d = next_decides G sound (rest G p) p (λ u. p ≤ g u) (Near g δ p d) (rest_is p) d (got_is p d)

  pull_in : (p d v : ℕ) → v < G.count → p ≤ g v → Pulled p d v → Near g δ p (suc d) v
  pull_in p d v v< up h = (got_is p (suc d) v v<).0 ((next_is p d v v<).1 (inr (up, h)))

  pull_out : (d v : ℕ) → v < G.count → δ v ≡ suc d → Pulled (g v) d v
  pull_out d v v< e =
      elim ((next_is (g v) d v v<).0 ((got_is (g v) (suc d) v v<).1 (refl, omega arith)))
      [ inl n ↦ absurd (omega (arith, n.1)) | inr s ↦ s.1 ]

  module _ (v : ℕ) (v< : v < G.count) where
    abbrev s : ℕ → ℕ
    s i = G.successor v i

    at_lower : (i : ℕ) → i < G.degree v → g (s i) < g v → G.owner v ≡ other (favoured G (g (s i)))
    at_lower i i< l =
        elim (which (G.owner v) (favoured G (g (s i)))) [
          | inl own ↦ absurd (let n = pull_in (g (s i)) (δ (s i)) v v< (omega arith) (inl (own, (i, i<, (refl, omega arith)))) in omega (arith, n.0))
          | inr o ↦ o
        ]

    at_keep : (i : ℕ) × (i < G.degree v) × (g v ≤ g (s i))
    at_keep =
        let (k, l, all) = largest (pred (G.degree v)) (λ i. g (s i)) in
        let k< : k < G.degree v = omega (arith, sound.moves v v<) in
        elim (cases_lt (g (s k)) (g v)) [
          | inr up ↦ (k, k<, up)
          | inl l ↦ absurd (let n = pull_in (g (s k)) G.count v v< (omega arith) (inr (at_lower k k< l, λ i i<. elim (cases_lt (g (s i)) (g (s k))) [ inl less ↦ inl (λ h. omega arith) | inr h ↦ inr (omega (arith, all i (omega arith)), δ_short (s i)) ])) in omega (arith, n.0))
        ]

    at_mine : G.owner v ≡ favoured G (g v) → 0 < δ v → (i : ℕ) × (i < G.degree v) × (g (s i) ≡ g v) × (δ (s i) < δ v)
    at_mine own pos =
        elim (pull_out (pred (δ v)) v v< (omega arith)) [
          | inl (_, (i, i<, n)) ↦ (i, i<, n.0, omega (arith, n.1))
          | inr (o, _) ↦ absurd (apart (favoured G (g v)) (sym own ∙ o))
        ]

    at_mine_least : G.owner v ≡ favoured G (g v) → (i : ℕ) → i < G.degree v → g (s i) ≡ g v → δ v ≤ suc (δ (s i))
    at_mine_least own i i< e = (pull_in (g v) (δ (s i)) v v< (omega arith) (inl (own, (i, i<, (e, omega arith))))).1

    at_theirs : G.owner v ≡ other (favoured G (g v)) → 0 < δ v → (i : ℕ) → i < G.degree v → g v ≤ g (s i) → (g (s i) ≡ g v) × (δ (s i) < δ v)
    at_theirs o pos i i< up =
        elim (pull_out (pred (δ v)) v v< (omega arith)) [
          | inl (own, _) ↦ absurd (apart (favoured G (g v)) (sym own ∙ o))
          | inr (_, all) ↦ elim (all i i<) [ inl out ↦ absurd (out up) | inr n ↦ (n.0, omega (arith, n.1)) ]
        ]

    abbrev Far : ℕ → Type 0
    Far i = (g (s i) ≡ g v) × (δ v ≤ suc (δ (s i)))

    abbrev far : ℕ → Bool
    far i = eqb (g (s i)) (g v) && leb (δ v) (suc (δ (s i)))

    far_is : Decides (some_below (G.degree v) far) ((i : ℕ) × (i < G.degree v) × Far i)
    far_is = some_decides (G.degree v) far Far (λ i _. Decides-and _ _ (Decides-eqb (g (s i)) (g v)) (leb-true (δ v) (suc (δ (s i))), le-leb _ _))

    at_theirs_least : G.owner v ≡ other (favoured G (g v)) → 0 < δ v → (i : ℕ) × (i < G.degree v) × (g (s i) ≡ g v) × (δ v ≤ suc (δ (s i)))
    at_theirs_least o pos = elim (cases_Bool (some_below (G.degree v) far)) [ inl t ↦ (let r = far_is.0 t in (r.0, r.1, r.2.0, r.2.1)) | inr t ↦ absurd (some (λ i i< l. both_ways _ t (far_is.1 (i, i<, l)))) ]
      where
        some : ((i : ℕ) → i < G.degree v → Far i → ⊥) → ⊥
        some none =
            let near : (i : ℕ) → i < G.degree v → g v ≤ g (s i) → suc (δ (s i)) < δ v = λ i i< up.
            elim (cases_lt (suc (δ (s i))) (δ v)) [ inl l ↦ l | inr l ↦ absurd (none i i< ((at_theirs o pos i i< up).0, l)) ] in
            elim (cases_lt 1 (δ v)) [
              | inr small ↦ (let k = at_keep in omega (arith, near k.0 k.1 k.2))
              | inl big ↦ (let n = pull_in (g v) (pred (pred (δ v))) v v< (omega arith) (inr (o, λ i i<. elim (cases_lt (g (s i)) (g v)) [ inl less ↦ inl (λ h. omega arith) | inr up ↦ inr ((at_theirs o pos i i< up).0, omega (arith, near i i< up)) ])) in omega (arith, n.1))
            ]

  pub graded : Certificate G (grade G) (distance G)
  graded v v< = record {
    low = g_low v;
    base = λ z. sym ((base_is (g v) v).0 ((got_is (g v) 0 v v<).1 (refl, omega arith))).1;
    top = λ e. (let n = (got_is (g v) 0 v v<).0 ((base_is (g v) v).1 (g_rest v, sym e)) in omega (arith, n.1));
    short = δ_short v;
    keep = at_keep v v<;
    lower = at_lower v v<;
    mine = at_mine v v<;
    mine_least = at_mine_least v v<;
    theirs = at_theirs v v<;
    theirs_least = at_theirs_least v v<;
  }
