-- The lines that the lister prints (01, the lister): one space parts the fields, a newline ends the line; and a frame
-- as it reads one.
use Rattle.std.specs.Prelude.{ℕ, List, [], ◌∷◌, ◌++◌}
use Rattle.text.specs.Words.{newline, space, hand_word, bad_word, long_word}
use Rattle.text.specs.Digits.{hex, decimal}

-- bytes of the longest hand line, of a frame line, of the longest bad line and of a frame in a script
abbrev pub hand_size : ℕ
hand_size = 13

abbrev pub frame_size : ℕ
frame_size = 8

abbrev pub bad_size : ℕ
bad_size = 10

abbrev pub script_size : ℕ
script_size = 4

-- a byte handed: the device, the byte and the end bit
abbrev pub hand_line : ℕ → ℕ → ℕ → List ℕ
hand_line device byte end =
    hand_word ++ (space ∷ (decimal device ++ (space ∷ (hex 2 byte ++ (space ∷ (hex 1 end ++ (newline ∷ [])))))))

-- the frame put and the frame out
abbrev pub frame_line : ℕ → ℕ → List ℕ
frame_line sent out = hex 3 sent ++ (space ∷ (hex 3 out ++ (newline ∷ [])))

-- a frame as a line of a script
abbrev pub script_line : ℕ → List ℕ
script_line f = hex 3 f ++ (newline ∷ [])

-- the number of a wrong line, or the place of a wrong byte
abbrev pub bad_line : ℕ → List ℕ
bad_line number = bad_word ++ (space ∷ (decimal number ++ (newline ∷ [])))

-- an input that is too long
abbrev pub long_line : List ℕ
long_line = long_word ++ (newline ∷ [])
