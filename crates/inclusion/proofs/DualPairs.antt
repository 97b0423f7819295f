-- Two nodes, dual and exchanged: the same owner and the same moves, in another order where both nodes move.
use Rattle.std.proofs.Common.{◌≡◌, ℕ, zero, suc, ◌+◌, ◌%◌, ◌<◌, Bool, true, false, cond, ◌&&◌, ◌||◌, eqb, refl, ap, ◌∙◌, ap₂, arith}
use Rattle.std.proofs.Math.Bool.{or_comm}
use Rattle.std.proofs.lemmas.Bool.Decides.{nat_tests}
use Rattle.draft.specs.declared.parts.Node.{Node}
use Rattle.draft.specs.declared.parts.Node.TheVariants.{Leaf, Either, Both}
use Rattle.draft.specs.Calls.{dual}
use Rattle.inclusion.specs.PairGame.{pair_owner, first_moves, second_moves, pair_degree, pair_priority}
use Rattle.inclusion.proofs.PairGames.{degree_by}

pub dual_same : (n o : Node) → (pair_owner (dual o) (dual n) ≡ pair_owner n o) × (pair_degree (dual o) (dual n) ≡ pair_degree n o)
dual_same (Leaf p) (Leaf q) = (refl, refl)
dual_same (Leaf p) (Either c d) = (refl, refl)
dual_same (Leaf p) (Both c d) = (refl, refl)
dual_same (Either l r) (Leaf q) = (refl, refl)
dual_same (Either l r) (Either c d) = (refl, refl)
dual_same (Either l r) (Both c d) = (refl, refl)
dual_same (Both l r) (Leaf q) = (refl, refl)
dual_same (Both l r) (Either c d) = (refl, refl)
dual_same (Both l r) (Both c d) = (refl, refl)

-- of four positions, the first two and the last two exchanged
abbrev pub across : ℕ → ℕ
across zero = 2
across (suc zero) = 3
across (suc (suc zero)) = 0
across (suc (suc (suc i))) = 1

across_in : (i : ℕ) → across i < 4
across_in zero = omega arith
across_in (suc zero) = omega arith
across_in (suc (suc zero)) = omega arith
across_in (suc (suc (suc i))) = omega arith

across_back : (i : ℕ) → i < 4 → across (across i) ≡ i
across_back zero l = refl
across_back (suc zero) l = refl
across_back (suc (suc zero)) l = refl
across_back (suc (suc (suc i))) l = (let e : i ≡ 0 = omega arith in rw e refl)

-- where the move at a position stands at the dual nodes, by which of the nodes move
abbrev position_by : Bool → Bool → ℕ → ℕ
position_by f s i = cond (f && s) (across i) i

-- it is one of the positions, and stands there back again
position_within : (f s : Bool) (i : ℕ) → i < degree_by f s → (position_by f s i < degree_by f s) × (position_by f s (position_by f s i) ≡ i)
position_within true true i l = (across_in i, across_back i l)
position_within true false i l = (l, refl)
position_within false s i l = (l, refl)

abbrev pub position : Node → Node → ℕ → ℕ
position n o = position_by (first_moves n o) (second_moves n o)

pub position_in : (n o : Node) (i : ℕ) → i < pair_degree n o → (position n o i < pair_degree n o) × (position n o (position n o i) ≡ i)
position_in n o = position_within (first_moves n o) (second_moves n o)

-- one more is odd where a number is even, and even where it is odd
next_parity : (n : ℕ) → (eqb ((n + 1) % 2) 1 ≡ eqb (n % 2) 0) × (eqb ((n + 1) % 2) 0 ≡ eqb (n % 2) 1)
next_parity n = (grind (arith, nat_tests), grind (arith, nat_tests))

-- both priorities one larger, and exchanged: the pair's is 4 larger
pub priority_four : (p q : ℕ) → pair_priority (q + 1) (p + 1) ≡ pair_priority p q + 4
priority_four p q =
    let same : ◌≡◌ {A = ℕ} (cond (eqb ((q + 1) % 2) 1 || eqb ((p + 1) % 2) 0) 0 1) (cond (eqb (p % 2) 1 || eqb (q % 2) 0) 0 1) =
    ap (λ t. cond t 0 1) (ap₂ ◌||◌ (next_parity q).0 (next_parity p).1 ∙ or_comm (eqb (q % 2) 0) (eqb (p % 2) 1)) in
    omega arith
