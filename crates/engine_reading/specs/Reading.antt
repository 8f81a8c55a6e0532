-- The data bits that a kind of frame leaves free, by how many codes it has.
use Rattle.std.specs.Prelude.{ℕ, cond, leb}
use Rattle.frame.specs.Messages.{codes_of}
use Rattle.frame.specs.Decoding.{has_c1}

-- all eight in a DAB, END or IDY; none where there is one code, four where there are sixteen, else five
unfoldable pub free_bits : ℕ → ℕ
free_bits k = cond (has_c1 k) 0xff (cond (leb (codes_of k) 1) 0 (cond (leb (codes_of k) 16) 0x0f 0x1f))
