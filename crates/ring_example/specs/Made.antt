-- When a ring is made, and with how many stations.
use Rattle.std.specs.Prelude.{◌≡◌, ℕ, ◌≤◌, Some, None, Option}
use Rattle.ring_example.specs.declared.ring.Ring.{Ring}

-- a ring of that many stations, or none where they are not 1 to 65,535
abbrev pub ring_of : Option Ring → ℕ → Type 0
ring_of (Some r) n = r.stations ≡ n
ring_of None n = 1 ≤ n → n ≤ 65535 → ⊥
