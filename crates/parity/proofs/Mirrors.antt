-- The grading of a game is one of its mirror, and its winners are the other ones.
use Rattle.std.proofs.Common.{◌≡◌, ℕ, ◌%◌, ◌<◌, Bool, true, false, cond, eqb, ltb, sym, refl, ap, ◌∙◌, inl}
use Rattle.parity.specs.Game.{Game, Sound, favoured}
use Rattle.parity.specs.declared.player.Player.{Player}
use Rattle.parity.specs.declared.player.Player.TheVariants.{Zero, One}
use Rattle.parity.specs.Player.{other, same}
use Rattle.parity.specs.Grading.{grade, distance, winner}
use Rattle.parity.specs.Move.{move_by}
use Rattle.parity.specs.Mirror.{mirror, Mirrored}
use Rattle.parity.proofs.Players.{same_other}
use Rattle.parity.specs.Certificate.{Fits}
use Rattle.std.proofs.lemmas.Bool.{cond-true, lt-ltb}
use Rattle.parity.proofs.Unique.{grade_is, distance_is}
use Rattle.parity.proofs.Graded.{graded}
use Rattle.parity.proofs.Moves.{move_same}
use Rattle.parity.proofs.Transfer.{Alike, same_carries, transfer}

cond_other : (b : Bool) (x y : Player) → cond b (other x) (other y) ≡ other (cond b x y)
cond_other true x y = refl
cond_other false x y = refl

same_both : (a b : Player) → same (other a) (other b) ≡ same a b
same_both Zero Zero = refl
same_both Zero One = refl
same_both One Zero = refl
same_both One One = refl

favoured_mirror : (G : Game) (p : ℕ) → favoured (mirror G) p ≡ other (favoured G p)
unfolding favoured
favoured_mirror G p = cond_other (eqb (p % 2) 0) G.even_side (other G.even_side)

module _ (G : Game) (v : ℕ) (v< : v < G.count) where
  owner_mirror : (mirror G).owner v ≡ other (G.owner v)
  owner_mirror = cond-true (ltb v G.count) _ _ (lt-ltb v G.count v<)

  -- who is favoured in the mirror is the other player in the game
  own_back : (p : ℕ) → (mirror G).owner v ≡ favoured (mirror G) p → G.owner v ≡ favoured G p
  own_back p e = same_other _ _ (sym owner_mirror ∙ e ∙ favoured_mirror G p)

  not_back : (p : ℕ) → (mirror G).owner v ≡ other (favoured (mirror G) p) → G.owner v ≡ other (favoured G p)
  not_back p e = same_other _ _ (sym owner_mirror ∙ e) ∙ favoured_mirror G p

  mirror_fits : (g δ : ℕ → ℕ) → Fits G g δ v → Fits (mirror G) g δ v
  mirror_fits g δ t = record {
    low = t.low;
    base = t.base;
    top = t.top;
    short = t.short;
    keep = t.keep;
    lower = λ i i< l. owner_mirror ∙ ap other (t.lower i i< l ∙ sym (favoured_mirror G (g (G.successor v i))));
    mine = λ own. t.mine (own_back (g v) own);
    mine_least = λ own. t.mine_least (own_back (g v) own);
    theirs = λ o. t.theirs (not_back (g v) o);
    theirs_least = λ o. t.theirs_least (not_back (g v) o);
  }

  mirror_move : (g δ : ℕ → ℕ) → move_by (mirror G) g δ v ≡ move_by G g δ v
  unfolding move_by
  mirror_move g δ = rw (owner_mirror, favoured_mirror G (g v), same_both (G.owner v) (favoured G (g v))) refl

mirror_sound : (G : Game) → Sound G → Sound (mirror G)
mirror_sound G s = record { moves = s.moves; stays = s.stays }

mirror_alike : (G : Game) → Alike G (mirror G) other (λ u. u) (λ u k. k)
mirror_alike G = record {
  inside = λ u u<. u<;
  owners = λ u u<. inl (owner_mirror G u u<);
  forth = λ u j u< l. (j, l, refl);
  back = λ u k u< l. (l, refl);
}

mirror_winner : (G : Game) → Sound G → (v : ℕ) → v < G.count → winner (mirror G) v ≡ other (winner G v)
mirror_winner G s v v< = transfer s (mirror_sound G s) (mirror_alike G) v v< (same_carries G (mirror G) other (λ u. u) (favoured_mirror G) (λ u u<. refl) v)

pub mirrored : Mirrored
mirrored G sound v v< =
    let s = mirror_sound G sound in
    let t = λ (u : ℕ) (u< : u < G.count). mirror_fits G u u< (grade G) (distance G) (graded G sound u u<) in
    let eg = grade_is (mirror G) s (grade G) (distance G) t in
    let ed = distance_is (mirror G) s (grade G) (distance G) t in (
      eg v v<,
      ed v v<,
      mirror_winner G sound v v<,
      move_same (mirror G) s _ _ _ _ eg ed v v< ∙ mirror_move G v v< (grade G) (distance G),
    )
