-- Two plans played against each other; both cannot win.
use Rattle.std.proofs.Common.{◌≡◌, ℕ, zero, suc, ◌<◌, List, [], ◌∷◌, sym, refl, ap, ◌∙◌, inl, inr, arith}
use Rattle.parity.specs.Game.{Game, Sound, favoured}
use Rattle.parity.specs.Player.{other}
use Rattle.parity.specs.Play.{Play, Wins, Plan, before, Follows, Winning}
use Rattle.parity.proofs.Players.{which, twice}
use Rattle.parity.specs.declared.player.Player.{Player}
use Rattle.parity.specs.declared.player.Player.TheVariants.{Zero, One}

-- no play is won by both
module _ (G : Game) (x : Player) (π : ℕ → ℕ) (hers : Wins G x π) (his : Wins G (other x) π) where
  descent : (a i : ℕ) → G.priority (π i) < a → ⊥
  descent zero i h = omega arith
  descent (suc a) i h = elim (which (favoured G (G.priority (π i))) x) [ inl f ↦ (let s = his i (f ∙ sym (twice x)) in descent a s.0 (omega (arith, s.1))) | inr f ↦ (let s = hers i f in descent a s.0 (omega (arith, s.1))) ]

  pub not_both : ⊥
  not_both = descent (suc (G.priority (π 0))) 0 (omega arith)

-- the play from v in which each player moves by her plan
module _ (G : Game) (plans : Player → Plan) (v : ℕ) where
  -- the vertices before the i-th, and the i-th
  state : ℕ → List ℕ × ℕ
  state zero = ([], v)
  state (suc i) = let (past, u) = state i in (u ∷ past, G.successor u (plans (G.owner u) past u))

  pub duel : ℕ → ℕ
  duel i = (state i).1

  past_is : (i : ℕ) → before duel i ≡ (state i).0
  unfolding duel state
  past_is zero = refl
  past_is (suc i) = ap (λ l. (state i).1 ∷ l) (past_is i)

  abbrev choice : ℕ → ℕ
  choice i = plans (G.owner (duel i)) (before duel i) (duel i)

  duel_next : (i : ℕ) → duel (suc i) ≡ G.successor (duel i) (choice i)
  unfolding duel state
  duel_next i = ap (λ l. G.successor (state i).1 (plans (G.owner (state i).1) l (state i).1)) (sym (past_is i))

  pub duel_follows : (x : Player) → Follows G x (plans x) duel
  duel_follows x i own = duel_next i ∙ ap (λ y. G.successor (duel i) (plans y (before duel i) (duel i))) own

  module _ (sound : Sound G) (v< : v < G.count) (legal : (x : Player) (past : List ℕ) (u : ℕ) → u < G.count → G.owner u ≡ x → plans x past u < G.degree u) where
    inside : (i : ℕ) → duel i < G.count
    inside zero = unfold duel state in v<
    inside (suc i) = rw (duel_next i) (sound.stays (duel i) (choice i) (inside i) (legal (G.owner (duel i)) (before duel i) (duel i) (inside i) refl))

    pub duel_play : Play G v duel
    duel_play = record {
      starts = unfold duel state in refl;
      goes = λ i. (choice i, legal (G.owner (duel i)) (before duel i) (duel i) (inside i) refl, duel_next i);
    }

module _ (G : Game) (sound : Sound G) (v : ℕ) (v< : v < G.count) where
  each_wins : (plans : Player → Plan) → ((x : Player) → Winning G x (plans x) v) → ⊥
  each_wins plans w =
      let play = duel_play G plans v sound v< (λ x. (w x).legal) in
      not_both G Zero (duel G plans v) ((w Zero).wins _ play (duel_follows G plans v Zero)) ((w One).wins _ play (duel_follows G plans v One))

  abbrev each : Plan → Plan → Player → Plan
  each a b Zero = a
  each a b One = b

  each_of : (a b : Plan) → Winning G Zero a v → Winning G One b v → (x : Player) → Winning G x (each a b x) v
  each_of a b w w' Zero = w
  each_of a b w w' One = w'

  -- at most one player has a winning plan
  pub only_one : (x : Player) (hers his : Plan) → Winning G x hers v → Winning G (other x) his v → ⊥
  only_one Zero hers his w w' = each_wins (each hers his) (each_of hers his w w')
  only_one One hers his w w' = each_wins (each his hers) (each_of his hers w' w)
