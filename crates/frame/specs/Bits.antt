-- The bits of a number by their places: of a frame's eight data bits D1 is at place 0 and D8 at place 7.
use Rattle.std.specs.Prelude.{ℕ, zero, suc, ◌/◌, ◌%◌}

-- how many data bits a frame has
abbrev pub data_bits : ℕ
data_bits = 8

-- the bit at a place
abbrev pub bit : (place x : ℕ) → ℕ
bit zero x = x % 2
bit (suc i) x = bit i (x / 2)
