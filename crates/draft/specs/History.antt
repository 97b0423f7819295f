-- The histories of drafts: once new, and since then changed only by calls, heeded or refused, in any order.
use Rattle.std.specs.Prelude.{ℕ, List}
use Rattle.draft.specs.declared.records.Call.{Call}
use Rattle.draft.specs.Automaton.{Automaton, empty}
use Rattle.draft.specs.Calls.{begin_with}
use Rattle.draft.specs.Records.{called}
use Rattle.draft.specs.Load.{load_file}
use Rattle.draft.specs.WellFormed.{WellFormed}

-- every call that can change a draft; `call` is one of those that a record can name
pub data Change : Type 0 where
  begin : ℕ → Change
  call : Call → Change
  load : ℕ → List ℕ → Change

abbrev pub after : Automaton → Change → Automaton
after a (begin n) = (begin_with a n).1
after a (call c) = (called a c).1
after a (load n bs) = (load_file a n bs).1

pub data History : Automaton → Type 0 where
  new : History (empty 1)
  then : {a : Automaton} (c : Change) → History a → History (after a c)

-- whatever calls made it, a draft is well formed
abbrev pub HistoriesKeep : Type 0
HistoriesKeep = (a : Automaton) → History a → WellFormed a
