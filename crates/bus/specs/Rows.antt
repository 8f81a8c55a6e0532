-- Rows (02, m): command bytes as frames, a command and RFC for each, and such frames as bytes; and the first place
-- where a row has no match.
use Rattle.std.specs.Prelude.{ℕ, suc, List, [], ◌∷◌, Bool, true, false, ◌&&◌, cond, eqb}
use Rattle.bus.specs.Codes.{has_command, command_of, has_byte, byte_of, rfc}

-- ---- import: each byte's command, followed by RFC

unfoldable pub imported : List ℕ → List ℕ
imported [] = []
imported (b ∷ bs) = command_of b ∷ rfc ∷ imported bs

-- every byte has a command
unfoldable pub have_commands : List ℕ → Bool
have_commands [] = true
have_commands (b ∷ bs) = has_command b && have_commands bs

-- the place, from 0 on, of the first byte without one; the row's length where each has one
unfoldable pub byte_without : List ℕ → ℕ
byte_without [] = 0
byte_without (b ∷ bs) = cond (has_command b) (suc (byte_without bs)) 0

-- ---- export: the byte of each pair of a command and RFC

unfoldable pub exported : List ℕ → List ℕ
exported [] = []
exported (f ∷ []) = []
exported (f ∷ g ∷ fs) = byte_of f ∷ exported fs

-- the frames are pairs of a command that has a byte, and RFC
unfoldable pub are_pairs : List ℕ → Bool
are_pairs [] = true
are_pairs (f ∷ []) = false
are_pairs (f ∷ g ∷ fs) = has_byte f && (eqb g rfc && are_pairs fs)

-- the place of the first frame that does not stand in such a pair; the row's length where there is none, and so where
-- only the last RFC is absent
unfoldable pub frame_without : List ℕ → ℕ
frame_without [] = 0
frame_without (f ∷ []) = cond (has_byte f) 1 0
frame_without (f ∷ g ∷ fs) = cond (has_byte f) (cond (eqb g rfc) (suc (suc (frame_without fs))) 1) 0
