-- Every draft of the code is well formed, by what its fields promise.
use Rattle.std.proofs.Common.{arith}
use Rattle.draft.specs.declared.draft.Draft.{Draft}
use Rattle.draft.specs.Meaning.{meaning}
use Rattle.draft.specs.WellFormed.{WellFormed}

pub draft_well_formed : (d : Draft) → WellFormed (meaning d)
draft_well_formed d = record {
  some_letters = d.some_letters;
  few_letters = d.few_letters;
  few_states = omega (arith, d.states.ok.0, d.few_states);
  few_nodes = omega (arith, d.nodes.ok.0, d.few_nodes);
  low = d.low;
  full = d.full;
  lettered = d.lettered;
  named = d.named;
  leaves = d.leaves;
  children = d.children;
}
