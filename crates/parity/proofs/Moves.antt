-- The reported moves serve.
use Rattle.std.proofs.Common.{◌≡◌, ℕ, ◌<◌, ◌≤◌, Bool, true, false, cond, ◌&&◌, eqb, ltb, leb, arith}
use Rattle.std.proofs.lemmas.Bool.{cond_both, both_ways, and_parts, and_from, eqb-true, ltb-true, leb-true, eq-eqb, lt-ltb, le-leb}
use Rattle.parity.specs.Game.{Game, Sound, favoured}
use Rattle.parity.specs.Player.{same}
use Rattle.parity.specs.Below.{least}
use Rattle.parity.specs.Move.{move_by}
use Rattle.parity.proofs.Players.{same_true, true_same}
use Rattle.parity.proofs.Below.{least_le, least_found, least_cong}
use Rattle.parity.specs.Certificate.{Fits, Serves}

pub serves : (G : Game) (g δ : ℕ → ℕ) (v : ℕ) → Fits G g δ v → Serves G g δ v (move_by G g δ v)
unfolding move_by
serves G g δ v loc = cond_both test (least (G.degree v) near) (least (G.degree v) up) (Serves G g δ v) first second
  where
    test : Bool
    test = same (G.owner v) (favoured G (g v)) && ltb 0 (δ v)

    near : ℕ → Bool
    near i = eqb (g (G.successor v i)) (g v) && ltb (δ (G.successor v i)) (δ v)

    up : ℕ → Bool
    up i = leb (g v) (g (G.successor v i))

    first : test ≡ true → Serves G g δ v (least (G.degree v) near)
    first t =
        let parts = and_parts (same (G.owner v) (favoured G (g v))) (ltb 0 (δ v)) t in
        let k = loc.mine (same_true _ _ parts.0) (ltb-true 0 (δ v) parts.1) in
        let found = least_found (G.degree v) near k.0 k.1 (and_from _ _ (eq-eqb _ _ k.2) (lt-ltb _ _ k.3)) in
        let is = and_parts _ _ found.1 in
        let same_grade = eqb-true _ _ is.0 in
        record { here = omega (arith, found.0, k.1); holds = omega arith; nears = λ _ _. (same_grade, ltb-true _ _ is.1) }

    second : test ≡ false → Serves G g δ v (least (G.degree v) up)
    second t =
        let k = loc.keep in
        let found = least_found (G.degree v) up k.0 k.1 (le-leb _ _ k.2) in
        record {
          here = omega (arith, found.0, k.1);
          holds = leb-true _ _ found.1;
          nears = λ own pos. absurd (both_ways test t (and_from _ _ (true_same _ _ own) (lt-ltb 0 (δ v) pos)));
        }

pub move_le : (G : Game) (g δ : ℕ → ℕ) (v : ℕ) → move_by G g δ v ≤ G.degree v
unfolding move_by
move_le G g δ v = cond_both (same (G.owner v) (favoured G (g v)) && ltb 0 (δ v)) _ _ (λ m. m ≤ G.degree v) (λ _. least_le (G.degree v) _) (λ _. least_le (G.degree v) _)

-- moves by tables that agree below the count agree
pub move_same : (G : Game) → Sound G → (g δ g' δ' : ℕ → ℕ) → ((v : ℕ) → v < G.count → g v ≡ g' v) → ((v : ℕ) → v < G.count → δ v ≡ δ' v) → (v : ℕ) → v < G.count → move_by G g δ v ≡ move_by G g' δ' v
unfolding move_by
move_same G sound g δ g' δ' eg eδ v v< =
    λ i. cond (same (G.owner v) (favoured G (eg v v< i)) && ltb 0 (eδ v v< i)) (firsts i) (seconds i)
  where
    firsts : least (G.degree v) (λ i. eqb (g (G.successor v i)) (g v) && ltb (δ (G.successor v i)) (δ v)) ≡ least (G.degree v) (λ i. eqb (g' (G.successor v i)) (g' v) && ltb (δ' (G.successor v i)) (δ' v))
    firsts = least_cong (G.degree v) _ _ (λ k k<. let s = sound.stays v k v< k< in λ i. eqb (eg (G.successor v k) s i) (eg v v< i) && ltb (eδ (G.successor v k) s i) (eδ v v< i))

    seconds : least (G.degree v) (λ i. leb (g v) (g (G.successor v i))) ≡ least (G.degree v) (λ i. leb (g' v) (g' (G.successor v i)))
    seconds = least_cong (G.degree v) _ _ (λ k k<. let s = sound.stays v k v< k< in λ i. leb (eg v v< i) (eg (G.successor v k) s i))
