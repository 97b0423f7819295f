-- Every distance is below the count: each smaller one stands at a vertex of its own.
use Rattle.std.proofs.Common.{◌≡◌, ℕ, zero, suc, ◌<◌, ◌≤◌, Bool, true, ◌&&◌, eqb, ltb, Decides, arith}
use Rattle.std.proofs.lemmas.Bool.Decides.{Decides-and, Decides-eqb, Decides-ltb}
use Rattle.parity.specs.Game.{Game, Sound}
use Rattle.parity.specs.Certificate.{Certificate}
use Rattle.parity.proofs.Below.{no_from}
use Rattle.parity.proofs.Size.{size, size_le, size_more}
use Rattle.parity.proofs.Rounds.{each_distance}

module _ (G : Game) (sound : Sound G) (g δ : ℕ → ℕ) (table : Certificate G g δ) (v : ℕ) (v< : v < G.count) where
  abbrev near : ℕ → ℕ → Bool
  near k u = eqb (g u) (g v) && ltb (δ u) k

  near_is : (k u : ℕ) → Decides (near k u) ((g u ≡ g v) × (δ u < k))
  near_is k u = Decides-and _ _ (Decides-eqb (g u) (g v)) (Decides-ltb (δ u) k)

  crowd : (k : ℕ) → k ≤ suc (δ v) → k ≤ size G.count (near k)
  crowd zero h = omega arith
  crowd (suc k) h =
      let r = each_distance G sound g δ table (suc (δ v)) v k v< (omega arith) (omega arith) in
      let more = λ (u : ℕ) (u< : u < G.count) (e : near k u ≡ true). (let n = (near_is k u).0 e in (near_is (suc k) u).1 (n.0, omega (arith, n.1))) in
      omega (arith, crowd k (omega arith), size_more G.count (near k) (near (suc k)) more r.0 r.1 (no_from _ (near_is k r.0) (λ n. omega (arith, n.1, r.3))) ((near_is (suc k) r.0).1 (r.2, omega (arith, r.3))))

  pub below_count : δ v < G.count
  below_count = omega (arith, crowd (suc (δ v)) (omega arith), size_le G.count (near (suc (δ v))))
