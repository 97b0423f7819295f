-- The laws of turning an automaton over.
use Rattle.std.proofs.Common.{◌≡◌, List, [], ◌∷◌, map, Ok, refl, ap, ◌∙◌, arith}
use Rattle.draft.specs.declared.parts.Node.{Node}
use Rattle.draft.specs.declared.parts.State.{State}
use Rattle.draft.specs.Automaton.{Automaton}
use Rattle.draft.specs.Calls.{Outcome, dual, raised, turned, turn_over}
use Rattle.draft.specs.TurnLaws.{raised_by, all_raised_by, TurnsCancel, TurnKeepsComplete}
use Rattle.draft.proofs.Dual.{complete_same}

nodes_back : (l : List Node) → map dual (map dual l) ≡ l
nodes_back [] = refl
nodes_back (n ∷ l) = grind (arith, nodes_back l)

states_up : (l : List State) → map raised (map raised l) ≡ map (raised_by 2) l
states_up [] = refl
states_up (s ∷ l) = grind (arith, states_up l)

pub turned_twice : (a : Automaton) → turned (turned a) ≡ all_raised_by 2 a
turned_twice a = grind (arith, states_up, nodes_back)

-- a turn that is heeded makes the dual
pub heeded : (a b : Automaton) → ◌≡◌ {A = Outcome (Unit {0})} (turn_over a) (Ok tt, b) → b ≡ turned a
heeded a b e = grind arith

pub turns_cancel : TurnsCancel
turns_cancel a b c e e' = heeded b c e' ∙ (ap turned (heeded a b e) ∙ turned_twice a)

pub turn_keeps_complete : TurnKeepsComplete
turn_keeps_complete a = grind (arith, complete_same a)
