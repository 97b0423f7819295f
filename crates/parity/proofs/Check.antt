-- A test of a table, vertex by vertex.
use Rattle.std.proofs.Common.{◌≡◌, ℕ, suc, ◌<◌, Bool, true, false, cond, not, ◌&&◌, ◌||◌, eqb, ltb, leb, sym, ap, ◌∙◌, inl, inr, zero-le}
use mathlib.Core.Bool
use Rattle.std.specs.Cmp.{booleans_Decides}
use Rattle.std.proofs.Math.Nat.{ne_of_gt, le_trans}
use Rattle.std.proofs.lemmas.Bool.{cases_lt, cond-true, cond-false, and_parts, eqb-true, ltb-true, leb-true, eq-eqb, ne_eqb, le-ltb, lt-leb, not_from_true}
use Rattle.parity.specs.Grading.{level}
use Rattle.parity.specs.Game.{Game, Sound, favoured}
use Rattle.parity.specs.Player.{other, same}
use Rattle.parity.specs.Below.{some_below, all_below}
use Rattle.parity.proofs.Players.{same_true, true_same, false_same}
use Rattle.parity.proofs.Below.{some_gives, all_gives}
use Rattle.parity.specs.Certificate.{Fits, Certificate}

or_right_part : (x y : Bool) → (x || y) ≡ true → x ≡ false → y ≡ true
or_right_part x y t e = sym (ap (λ z. z || y) e) ∙ t

module _ (G : Game) (g δ : ℕ → ℕ) (v : ℕ) where
  abbrev at_low : Bool
  at_low = leb (g v) (level G v) && Bool.beq (eqb (δ v) 0) (eqb (g v) (level G v)) && leb (δ v) G.count

  abbrev at_keep : Bool
  at_keep = some_below (G.degree v) (λ i. leb (g v) (g (G.successor v i)))

  abbrev at_lower : Bool
  at_lower = all_below (G.degree v) (λ i. leb (g v) (g (G.successor v i)) || same (G.owner v) (other (favoured G (g (G.successor v i)))))

  abbrev at_mine : Bool
  at_mine =
      some_below (G.degree v) (λ i. eqb (g (G.successor v i)) (g v) && ltb (δ (G.successor v i)) (δ v))
      && all_below (G.degree v) (λ i. not (eqb (g (G.successor v i)) (g v)) || leb (δ v) (suc (δ (G.successor v i))))

  abbrev at_theirs : Bool
  at_theirs =
      all_below (G.degree v) (λ i. ltb (g (G.successor v i)) (g v) || (eqb (g (G.successor v i)) (g v) && ltb (δ (G.successor v i)) (δ v)))
      && some_below (G.degree v) (λ i. eqb (g (G.successor v i)) (g v) && leb (δ v) (suc (δ (G.successor v i))))

  unfoldable pub fits : Bool
  fits = at_low && at_keep && at_lower && (eqb (δ v) 0 || cond (same (G.owner v) (favoured G (g v))) at_mine at_theirs)

  pub fits_from : fits ≡ true → Fits G g δ v
  unfolding fits
  fits_from t =
      let p4 = and_parts _ _ t in
      let p3 = and_parts _ _ p4.0 in
      let p2 = and_parts _ _ p3.0 in
      let lows = and_parts _ _ p2.0 in
      let low = and_parts _ _ lows.0 in
      let zero_alike = (booleans_Decides (eqb (δ v) 0) (eqb (g v) (level G v))).0 low.1 in
      let part = λ (pos : 0 < δ v). or_right_part _ _ p4.1 (ne_eqb _ _ (ne_of_gt pos)) in
      let own_part = λ (own : G.owner v ≡ favoured G (g v)) (pos : 0 < δ v). and_parts _ _ (sym (cond-true _ at_mine at_theirs (true_same _ _ own)) ∙ part pos) in
      let other_part = λ (own : G.owner v ≡ other (favoured G (g v))) (pos : 0 < δ v). and_parts _ _ (sym (cond-false _ at_mine at_theirs (false_same _ _ own)) ∙ part pos) in
      record {
        low = leb-true _ _ low.0;
        base = λ z. eqb-true _ _ (sym zero_alike ∙ eq-eqb _ _ z);
        top = λ e. eqb-true _ _ (zero_alike ∙ eq-eqb _ _ e);
        short = leb-true _ _ lows.1;
        keep = (let k = some_gives _ _ p2.1 in (k.0, k.1, leb-true _ _ k.2));
        lower = λ i i< l. same_true _ _ (or_right_part _ _ (all_gives _ _ p3.1 i i<) (lt-leb _ _ l));
        mine = λ own pos. let k = some_gives _ _ (own_part own pos).0 in let q = and_parts _ _ k.2 in (k.0, k.1, eqb-true _ _ q.0, ltb-true _ _ q.1);
        mine_least = λ own i i< e. elim (cases_lt 0 (δ v)) [ inl pos ↦ leb-true _ _ (or_right_part _ _ (all_gives _ _ (own_part own pos).1 i i<) (not_from_true _ (eq-eqb _ _ e))) | inr none ↦ le_trans none zero-le ];
        theirs = λ own pos i i< up. let q = and_parts _ _ (or_right_part _ _ (all_gives _ _ (other_part own pos).0 i i<) (le-ltb _ _ up)) in (eqb-true _ _ q.0, ltb-true _ _ q.1);
        theirs_least = λ own pos. let k = some_gives _ _ (other_part own pos).1 in let q = and_parts _ _ k.2 in (k.0, k.1, eqb-true _ _ q.0, leb-true _ _ q.1);
      }

unfoldable pub fits_all : Game → (ℕ → ℕ) → (ℕ → ℕ) → Bool
fits_all G g δ = all_below G.count (fits G g δ)

pub certificate_from : (G : Game) (g δ : ℕ → ℕ) → fits_all G g δ ≡ true → Certificate G g δ
unfolding fits_all
certificate_from G g δ t v v< = fits_from G g δ v (all_gives G.count (fits G g δ) t v v<)

-- a test of Sound
unfoldable pub sound_all : Game → Bool
sound_all G = all_below G.count (λ v. ltb 0 (G.degree v) && all_below (G.degree v) (λ i. ltb (G.successor v i) G.count))

pub sound_from : (G : Game) → sound_all G ≡ true → Sound G
unfolding sound_all
sound_from G t = record {
  moves = λ v v<. ltb-true _ _ (and_parts _ _ (at v v<)).0;
  stays = λ v i v< i<. ltb-true _ _ (all_gives (G.degree v) _ (and_parts _ _ (at v v<)).1 i i<);
}
  where
    at : (v : ℕ) → v < G.count → (ltb 0 (G.degree v) && all_below (G.degree v) (λ i. ltb (G.successor v i) G.count)) ≡ true
    at v v< = all_gives G.count _ t v v<
