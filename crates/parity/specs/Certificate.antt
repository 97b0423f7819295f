-- The rules of grading as facts about a table of grades g and distances δ, one vertex at a time. A table that fits at each vertex
-- is the grading (proofs/Unique), and the grading fits (proofs/Graded); all that is proved about winners rests on this.
use Rattle.std.specs.Prelude.{◌≡◌, ℕ, suc, ◌<◌, ◌≤◌}
use Rattle.parity.specs.Player.{other}
use Rattle.parity.specs.Game.{Game, favoured}
use Rattle.parity.specs.Grading.{level}

pub record Fits (G : Game) (g δ : ℕ → ℕ) (v : ℕ) : Type 0 where
  -- the grade is at most the level, and equal to it exactly at distance 0
  pub low : g v ≤ level G v
  pub base : δ v ≡ 0 → g v ≡ level G v
  pub top : g v ≡ level G v → δ v ≡ 0
  pub short : δ v ≤ G.count
  -- some move does not lose grade; a move that does cannot be made by one whom the smaller grade favours
  pub keep : (i : ℕ) × (i < G.degree v) × (g v ≤ g (G.successor v i))
  pub lower : (i : ℕ) → i < G.degree v → g (G.successor v i) < g v → G.owner v ≡ other (favoured G (g (G.successor v i)))
  -- an owner whom the grade favours: some move comes nearer, none by more than 1
  pub mine : G.owner v ≡ favoured G (g v) → 0 < δ v → (i : ℕ) × (i < G.degree v) × (g (G.successor v i) ≡ g v) × (δ (G.successor v i) < δ v)
  pub mine_least : G.owner v ≡ favoured G (g v) → (i : ℕ) → i < G.degree v → g (G.successor v i) ≡ g v → δ v ≤ suc (δ (G.successor v i))
  -- the other owner: each move that does not lose grade comes nearer, some by just 1
  pub theirs : G.owner v ≡ other (favoured G (g v)) → 0 < δ v → (i : ℕ) → i < G.degree v → g v ≤ g (G.successor v i) → (g (G.successor v i) ≡ g v) × (δ (G.successor v i) < δ v)
  pub theirs_least : G.owner v ≡ other (favoured G (g v)) → 0 < δ v → (i : ℕ) × (i < G.degree v) × (g (G.successor v i) ≡ g v) × (δ v ≤ suc (δ (G.successor v i)))

abbrev pub Certificate : Game → (ℕ → ℕ) → (ℕ → ℕ) → Type 0
Certificate G g δ = (v : ℕ) → v < G.count → Fits G g δ v

-- What a move must do, and all that is used of one: it does not lose grade, and a winner's above distance 0 comes nearer.
pub record Serves (G : Game) (g δ : ℕ → ℕ) (v k : ℕ) : Type 0 where
  pub here : k < G.degree v
  pub holds : g v ≤ g (G.successor v k)
  pub nears : G.owner v ≡ favoured G (g v) → 0 < δ v → (g (G.successor v k) ≡ g v) × (δ (G.successor v k) < δ v)
