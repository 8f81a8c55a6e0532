-- A part of a list put in place of another.
use Rattle.std.specs.Prelude.{ℕ, ◌+◌, List, ◌++◌, take, drop, length}

-- b with the bytes from a place on replaced by a new part
unfoldable pub splice : ℕ → List ℕ → List ℕ → List ℕ
splice at new b = take at b ++ (new ++ drop (at + length new) b)
