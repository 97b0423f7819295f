-- A Vec whose elements are changed in place by a function.
use Rattle.std.proofs.Common.{◌≡◌, List, map, vec_items, Vec, arith}
use Rattle.std.specs.Vec.{with_items}
use Rattle.std.proofs.lemmas.Grind.{common_steps}
use Rattle.std.proofs.lemmas.List.{with_items_is, length-map}

pub refilled_map : {X Z : Type 0} (f : X → X) (v : Vec X Z) (ws xs : List X) → xs ≡ vec_items v → ws ≡ map f xs
    → vec_items (with_items v ws) ≡ map f (vec_items v)
refilled_map f v ws xs e h = grind (arith, common_steps, with_items_is, length-map, v.ok.0)
