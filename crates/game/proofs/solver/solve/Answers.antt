use Rattle.std.proofs.Common.{◌≡◌, List, Ok, length, sym, ◌∙◌, subst, arith, rules}
use Rattle.game.specs.Outcomes.{solved, Reported}
use Rattle.game.specs.declared.outcome.Outcome.{Outcome}
use Rattle.parity.proofs.Determined as theorem
use Rattle.game.proofs.Rounds.{sound_of}
use Rattle.game.proofs.Reports.{reports}
use Rattle.game.proofs.Written.{refused_is, solved_is}
use Rattle.game.proofs.solver.solve.Goals as goal

pub returns-then-out-count : goal.returns-then-out-count
returns-then-out-count g c = record {
  solved = refused_is (g.X.Arena.meaning c.args.arena.now) c.args.out.now (omega arith);
  reported = λ h. absurd (omega arith);
  determined = theorem.determinacy (g.X.Arena.meaning c.args.arena.now) (sound_of _ (g.X.Arena.bounds c.args.arena.now));
}

-- what holds of the records in the table holds of them after it
after_table : (P : List Outcome → Type 0) (after last : List Outcome) → P last → after ≡ last → P after
after_table P after last h e = subst P (sym e) h

pub returns : goal.returns
returns g c =
    let G = g.X.Arena.meaning c.args.arena.now in
    let b = g.X.Arena.bounds c.args.arena.now in
    let finish = rw c.rank.ensures.same.0 at c.finish.ensures in
    let last = c.finish.new.self.records.now in
    record {
      solved = after_table (λ l. length l ≡ length c.args.out.now → (Ok tt, l) ≡ solved G c.args.out.now) _ last (λ same. solved_is G c.args.out.now last same (omega arith) finish.finished (λ v h. finish.kept v h ∙ c.rank.ensures.kept v h)) (search rules) (omega arith);
      reported = λ _. after_table (Reported G) _ last (reports G (sound_of G b) last finish.finished) (search rules);
      determined = theorem.determinacy G (sound_of G b);
    }
