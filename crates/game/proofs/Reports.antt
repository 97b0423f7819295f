-- Records that are the grading's are worth what they report.
use Rattle.std.proofs.Common.{◌≡◌, ℕ, zero, suc, ◌<◌, List, get_or, sym, ap, ◌∙◌, subst}
use Rattle.parity.specs.Game.{Game, Sound}
use Rattle.parity.specs.Play.{Play, Plan, Winning}
use Rattle.parity.specs.Player.{other}
use Rattle.parity.specs.Grading.{winner}
use Rattle.parity.specs.Determinacy.{reported}
use Rattle.parity.specs.declared.player.Player.{Player}
use Rattle.parity.proofs.Determined as theorem
use Rattle.game.specs.Outcomes.{blank, outcome, Reported}
use Rattle.game.specs.declared.outcome.Outcome.{Outcome}

-- a play stays below the count
stays : (G : Game) → Sound G → (v : ℕ) → v < G.count → (π : ℕ → ℕ) → Play G v π → (i : ℕ) → π i < G.count
stays G sound v v< π play zero = rw play.starts v<
stays G sound v v< π play (suc i) =
    let s = play.goes i in
    rw s.2 (sound.stays (π i) s.0 (stays G sound v v< π play i) s.1)

-- plans that agree below the count win alike
alike : (G : Game) → Sound G → (x : Player) (p q : Plan) → ((past : List ℕ) (u : ℕ) → u < G.count → p past u ≡ q past u) → (v : ℕ) → v < G.count → Winning G x p v → Winning G x q v
alike G sound x p q e v v< w = record {
  legal = λ past u u< own. subst (λ k. k < G.degree u) (e past u u<) (w.legal past u u< own);
  wins = λ π play follows. w.wins π play (λ i own. follows i own ∙ ap (G.successor (π i)) (sym (e _ (π i) (stays G sound v v< π play i))));
}

pub reports : (G : Game) → Sound G → (l : List Outcome) → ((v : ℕ) → v < G.count → get_or l v blank ≡ outcome G v) → Reported G l
reports G sound l is v v< =
    let won : winner G v ≡ (get_or l v blank).winner = ap (λ (o : Outcome). o.winner) (sym (is v v<)) in
    let s = theorem.determinacy G sound v v< in (
      subst (λ x. Winning G x (λ past u. (get_or l u blank).choice) v) won (alike G sound (winner G v) (reported G) (λ past u. (get_or l u blank).choice) (λ past u u<. ap (λ (o : Outcome). o.choice) (sym (is u u<))) v v< s.0),
      λ plan w. s.1 plan (subst (λ x. Winning G (other x) plan v) (sym won) w),
    )
