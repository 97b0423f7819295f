-- The automaton that a draft holds.
use Rattle.std.specs.Prelude.{vec_items}
use Rattle.draft.specs.declared.draft.Draft.{Draft}
use Rattle.draft.specs.Automaton.{Automaton}

abbrev pub meaning : Draft → Automaton
meaning d = record { letters = d.letters; states = vec_items d.states; nodes = vec_items d.nodes }
