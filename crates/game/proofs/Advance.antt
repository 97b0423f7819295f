-- From one grade to the next.
use Rattle.std.proofs.Common.{◌≡◌, ℕ, ◌<◌, ◌≤◌, min, Bool, ◌==◌, List, get_or, Some, None, Option, MatchOption, sym, ap, ◌∙◌, subst, inl, arith}
use Rattle.std.specs.List.{reduce}
use Rattle.std.proofs.lemmas.Bool.{eq-eqb, eqb-true}
use Rattle.parity.specs.Game.{Game}
use Rattle.parity.specs.Grading.{level, grade, distance}
use Rattle.parity.proofs.Graded.{graded}
use Rattle.parity.proofs.Rounds.{skip}
use Rattle.arena.specs.Bounds.{Bounds}
use Rattle.game.specs.Outcomes.{blank}
use Rattle.game.specs.Filling.{unset, ranked, Filled, Open, LeastOpen, or_end}
use Rattle.game.specs.declared.outcome.Outcome.{Outcome}
use Rattle.game.proofs.Least.{passing, NonePasses, IsLow, IsMet, least_passing}
use Rattle.game.proofs.Rounds.{sound_of, g_small, filled as Filled-in, not_below, left as left_out, same_partly}

-- the records tell the least level of an open vertex
module _ (G : Game) (l : List Outcome) where
  abbrev pub is_open : ℕ → Bool
  is_open v = (get_or l v blank).grade == 65535

  abbrev pub least_level : Option ℕ
  least_level = reduce min (passing is_open (level G) 0 G.count)

  abbrev IsLeast : Option ℕ → Type 0
  IsLeast r = MatchOption r (NonePasses is_open (level G) 0 G.count) (λ p. IsLow is_open (level G) 0 G.count p × IsMet is_open (level G) 0 G.count p)

  pub least_open_is : (r : Option ℕ) → r ≡ least_level → LeastOpen G l r
  least_open_is r e = go r (subst IsLeast (sym e) (least_passing is_open (level G) 0 G.count))
    where
      go : (r : Option ℕ) → IsLeast r → LeastOpen G l r
      go None none = λ v (v<, o). none v (omega arith) (omega arith) (eq-eqb _ _ o)
      go (Some p) (low, (v, _, v<, o, is)) = (λ u (u<, e). low u (omega arith) (omega arith) (eq-eqb _ _ e), (v, (omega arith, eqb-true _ _ o), is))

module _ (G : Game) (b : Bounds G) where
  pub none_yet : (l : List Outcome) → ((v : ℕ) → v < G.count → get_or l v blank ≡ unset) → Filled G 0 0 l
  none_yet l h v v< = h v v< ∙ sym (left_out G b 0 0 v (λ r. grind arith))

  pub all_done : (p : ℕ) (l : List Outcome) → 65535 ≤ p → Filled G p 0 l → (v : ℕ) → v < G.count → get_or l v blank ≡ ranked G v
  all_done p l big f v v< = f v v< ∙ Filled-in G b p 0 v (inl (omega (arith, g_small G b v v<)))

  -- the next grade after those below q is the least priority of an open vertex
  module _ (q : ℕ) (l : List Outcome) (few : q ≤ 10000) (f : Filled G q 0 l) where
    opens : (v : ℕ) → v < G.count → q ≤ grade G v → Open G l v
    opens v v< up = (v<, ap (λ (w : Outcome). w.grade) (f v v< ∙ left_out G b q 0 v (λ r. grind arith)))

    opened : (v : ℕ) → Open G l v → q ≤ grade G v
    opened v (v<, e) = not_below G b q 0 v (λ r. omega (arith, g_small G b v v<, ap (λ (w : Outcome). w.grade) (f v v< ∙ Filled-in G b q 0 v r)))

    pub rises : (r : Option ℕ) → LeastOpen G l r → q ≤ or_end r
    rises None h = omega arith
    rises (Some p) (_, (v, o, e)) = omega (arith, opened v o, (graded G (sound_of G b) v o.0).low)

    skips : (r : Option ℕ) → LeastOpen G l r → (v : ℕ) → v < G.count → q ≤ grade G v → or_end r ≤ grade G v
    skips None h v v< up = absurd (h v (opens v v< up))
    skips (Some p) h v v< up = skip G (sound_of G b) (grade G) (distance G) (graded G (sound_of G b)) q p (λ u u< up. h.0 u (opens u u< up)) v v< up

    pub advance : (r : Option ℕ) → LeastOpen G l r → Filled G (or_end r) 0 l
    advance r h v v< =
        let up = rises r h in
        let over = skips r h v v< in
        f v v< ∙ same_partly G b q 0 (or_end r) 0 v (λ x. grind arith) (λ x. grind arith)

  pub small_open : (l : List Outcome) (p : ℕ) → LeastOpen G l (Some p) → p ≤ 9999
  small_open l p (_, (v, o, e)) = omega (arith, b.priorities v)

  pub no_lower : (l : List Outcome) (r : Option ℕ) (p : ℕ) → LeastOpen G l r → LeastOpen G l (Some p) → or_end r ≤ p
  no_lower l None p none (_, (v, o, e)) = absurd (none v o)
  no_lower l (Some q) p (low, _) (_, (v, o, e)) = omega (arith, low v o)
