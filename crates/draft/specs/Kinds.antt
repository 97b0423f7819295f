-- The kinds of records, by byte 0.
use Rattle.std.specs.Prelude.{◌≡◌, ◌≢◌, ℕ, MatchResult, Result}
use Rattle.refusal.specs.declared.Refusal.{Refusal}
use Rattle.refusal.specs.declared.Refusal.TheVariants.{RecordKind}
use Rattle.draft.specs.declared.kind.Kind.{Kind}
use Rattle.draft.specs.declared.kind.Kind.TheVariants.{State, Leaf, Either, Both, Rule, Regrade, Turn}

abbrev pub kind_number : Kind → ℕ
kind_number State = 1
kind_number Leaf = 2
kind_number Either = 3
kind_number Both = 4
kind_number Rule = 5
kind_number Regrade = 6
kind_number Turn = 7

-- the kind with this byte 0, or a refusal where no kind has it
abbrev pub NamesKind : ℕ → Result Kind Refusal → Type 0
NamesKind byte r = MatchResult r (λ kind. kind_number kind ≡ byte) (λ e. (e ≡ RecordKind) × ((kind : Kind) → kind_number kind ≢ byte))
