-- Rows and columns.
use Rattle.std.specs.Prelude.{ℕ, ◌*◌, ◌/◌, ◌%◌, cond, Some, None, Option, nat_lt}

-- the row and the column of number v in a grid, where v is one of its numbers
abbrev pub cell : ℕ → ℕ → ℕ → Option (ℕ × ℕ)
cell rows columns v = cond (nat_lt v (rows * columns)) (Some (v / columns, v % columns)) None
