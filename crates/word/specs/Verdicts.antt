-- The two verdicts.
use Rattle.std.specs.Prelude.{ℕ}
use Rattle.word.specs.declared.verdict.Verdict.{Verdict}
use Rattle.word.specs.declared.verdict.Verdict.TheVariants.{Rejected, Accepted}

abbrev pub verdict_number : Verdict → ℕ
verdict_number Rejected = 0
verdict_number Accepted = 1

abbrev pub opposite : Verdict → Verdict
opposite Rejected = Accepted
opposite Accepted = Rejected
