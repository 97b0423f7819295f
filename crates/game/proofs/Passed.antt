-- A loop over the vertices that turns each record from one value to another.
use Rattle.std.proofs.Common.{◌≡◌, ℕ, ◌+◌, ◌<◌, ◌≤◌, ◌≢◌, List, length, get_or, set, ◌∙◌, arith, get_or-set_other, get_or-set_same, below_more}
use Rattle.game.specs.Outcomes.{blank}
use Rattle.game.specs.Filling.{Kept}
use Rattle.game.specs.declared.outcome.Outcome.{Outcome}

-- the loop over n vertices has come to v
pub record Passed (n : ℕ) (new old : ℕ → Outcome) (v : ℕ) (before l : List Outcome) : Type 0 where
  pub done : (k : ℕ) → k < v → get_or l k blank ≡ new k
  pub ahead : (k : ℕ) → v ≤ k → k < n → get_or l k blank ≡ old k
  pub kept : Kept n before l

module _ (n : ℕ) (new old : ℕ → Outcome) (before : List Outcome) where
  module _ (v : ℕ) (l : List Outcome) (v< : v < n) (h : Passed n new old v before l) where
    pub passed_over : old v ≡ new v → Passed n new old (v + 1) before l
    passed_over e = record { done = below_more _ _ h.done (h.ahead v (omega arith) v< ∙ e); ahead = λ k up k<. h.ahead k (omega arith) k<; kept = h.kept }

    pub passed_set : v < length l → (o : Outcome) → o ≡ new v → Passed n new old (v + 1) before (set l v o)
    passed_set lt o e = record {
      done = below_more _ _ (λ k k<. let ne : k ≢ v = omega arith in rw get_or-set_other (h.done k k<)) (rw get_or-set_same e);
      ahead = λ k up k<. let ne : k ≢ v = omega arith in rw get_or-set_other (h.ahead k (omega arith) k<);
      kept = λ k up. let ne : k ≢ v = omega arith in rw get_or-set_other (h.kept k up);
    }
