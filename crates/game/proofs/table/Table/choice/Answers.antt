use Rattle.std.proofs.Common.{◌≡◌, ℕ, Bool, true, false, leb, get_or, sym, ap, unwrap_or, ◌∙◌, inl, inr, rules}
use borrow.Author.Tests.{tests}
use Rattle.std.proofs.lemmas.Bool.{cond-true, cond-false}
use Rattle.std.proofs.lemmas.Iterator.{first_from_Range}
use Rattle.parity.specs.Below.{least}
use Rattle.game.specs.Outcomes.{blank}
use Rattle.game.specs.Filling.{is_near}
use Rattle.game.specs.LastPass.{grade_in, distance_in}
use Rattle.game.proofs.Ranges.{first_is}
use Rattle.game.proofs.Finish.{move_is}
use Rattle.game.proofs.table.Table.choice.Goals as goal
use Rattle.game.proofs.table.Table.choice.Goals.{then-eq, else-eq, then-nearer, else-nearer}

pub returns : goal.returns
returns g c =
    let G = g.X.Arena.meaning c.args.self.now.arena.now in
    let l = c.args.self.now.records.now in
    let v = c.args.v in
    let n = c.degree-degree.result in
    let near : ℕ → Bool = λ i. is_near (grade_in l v) (distance_in l v) (get_or l (G.successor v i) blank) in
    let up : ℕ → Bool = λ i. leb (grade_in l v) (grade_in l (G.successor v i)) in
    let move = move_is G l v _ _ _ c.if-eq.nearer c.owner.ensures c.favours.ensures c.eq.ensures (elim c.if-eq.branch [ then-eq w ↦ inl (w.if-eq.true, w.nearer-is) | else-eq w ↦ inr (w.if-eq.false, w.nearer-is) ]) in
    c.unwrap_or.ensures ∙ elim c.if-nearer.branch [
      | then-nearer w ↦
          ap (λ r. unwrap_or r n) w.found-is
          ∙ first_is n near _ (first_from_Range _ _ _ _ (λ i. near i ≡ true) (λ i. near i ≡ false) w.find-found.ensures.ran (λ x q k. search (rules, tests)) (λ x q k. search (rules, tests)))
          ∙ ap (λ n. least n near) c.degree-degree.ensures
          ∙ sym (move ∙ cond-true _ _ _ w.if-nearer.true)
      | else-nearer w ↦
          ap (λ r. unwrap_or r n) w.found-is
          ∙ first_is n up _ (first_from_Range _ _ _ _ (λ i. up i ≡ true) (λ i. up i ≡ false) w.find-found-else-nearer.ensures.ran (λ x q k. search (rules, tests)) (λ x q k. search (rules, tests)))
          ∙ ap (λ n. least n up) c.degree-degree.ensures
          ∙ sym (move ∙ cond-false _ _ _ w.if-nearer.false)
    ]
