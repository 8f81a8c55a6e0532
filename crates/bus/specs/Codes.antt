-- The parallel bus's command bytes and the loop's commands (02, m): the messages whose codes are equal in the two, the
-- command of a byte, and the byte of a frame.
use Rattle.std.specs.Prelude.{ℕ, ◌+◌, List, [], ◌∷◌, Bool, ltb}
use Rattle.frame.specs.Messages.{Row, row, lookup, first_in, codes_in, number_of, first_of}
use Rattle.frame.specs.Decoding.{decoded}
use Rattle.frame.specs.declared.Kind.TheVariants as kind

-- The message on the loop, and its bytes on the bus from first to last, both included
unfoldable pub equal_codes : List Row
equal_codes =
    row (number_of kind.Gtl) 0x01 0x01 ∷
    row (number_of kind.Sdc) 0x04 0x04 ∷
    row (number_of kind.Get) 0x08 0x08 ∷
    row (number_of kind.Llo) 0x11 0x11 ∷
    row (number_of kind.Dcl) 0x14 0x14 ∷
    row (number_of kind.Ppu) 0x15 0x15 ∷
    row (number_of kind.Lad) 0x20 0x3e ∷
    row (number_of kind.Unl) 0x3f 0x3f ∷
    row (number_of kind.Tad) 0x40 0x5e ∷
    row (number_of kind.Unt) 0x5f 0x5f ∷
    row (number_of kind.Sad) 0x60 0x7e ∷
    []

-- A byte has a command where a row has it; no other byte has one, and so not 05, 09, 18 and 19
unfoldable pub has_command : ℕ → Bool
has_command b = ltb 0 (lookup equal_codes b)

-- Byte b's command is frame 400 + b
abbrev pub command_of : ℕ → ℕ
command_of b = 0x400 + b

-- A frame has a byte where its kind has a row
unfoldable pub has_byte : ℕ → Bool
has_byte f = ltb 0 (codes_in equal_codes (decoded f).kind)

-- which is as far behind the kind's first byte as the frame is behind the kind's first code
unfoldable pub byte_of : ℕ → ℕ
byte_of f = first_in equal_codes (decoded f).kind + (decoded f).offset

-- The ready frame that follows each command: RFC's one code
unfoldable pub rfc : ℕ
rfc = first_of (number_of kind.Rfc)
