-- Both files were loaded.
use Rattle.std.proofs.Common.{◌≡◌, Ok, ◌∙◌, ap₂, arith}
use Rattle.draft.specs.Automaton.{Automaton}
use Rattle.draft.specs.Load.{Loaded}
use Rattle.contain.specs.declared.fault.Which.{Which}
use Rattle.contain.specs.declared.fault.Which.TheVariants.{First, Second}
use Rattle.colvaje_host.specs.Faults.{loaded_as}
use Rattle.colvaje_host.specs.HostAnswer.{once_loaded}
use Rattle.colvaje_host.proofs.load_both.Goals as goal

loaded : (which : Which) (l : Loaded) (a : Automaton) → (Ok tt, a) ≡ loaded_as which l → ◌≡◌ {A = Loaded} (Ok tt, a) l
loaded which l a e = grind arith

pub returns : goal.returns
returns c = c.compare.ensures ∙ ap₂ (λ x y. once_loaded x y c.args.first.state c.args.second.state) (loaded First _ _ c.in_ok-fill.ensures) (loaded Second _ _ c.in_ok-fill-2.ensures)
