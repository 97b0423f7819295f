-- What is left to take from here gives what the whole file gives.
use Rattle.std.proofs.Common.{◌≡◌, drop}
use Rattle.draft.specs.Load.{take_records}
use Rattle.draft.specs.Meaning.{meaning}
use Rattle.draft.proofs.loading.load.Given as goal

abbrev pub invariant-loop-place : goal.invariant-loop-place
invariant-loop-place l = take_records (meaning l.draft) l.place (drop l.place l.records) ≡ take_records (meaning l.initial.draft) 0 l.records
