-- The number of each layer of a load.
use Rattle.std.specs.Prelude.{ℕ}
use Rattle.draft.specs.declared.fault.Layer.{Layer}
use Rattle.draft.specs.declared.fault.Layer.TheVariants.{File, Record, Draft}

abbrev pub layer_number : Layer → ℕ
layer_number File = 1
layer_number Record = 2
layer_number Draft = 3
