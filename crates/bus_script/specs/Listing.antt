-- What bus_list prints for a row of any bytes (02, m): the frames that it is imported as, each as a line of a script
-- (01, the lister).
use Rattle.std.specs.Prelude.{ℕ, ◌*◌, List, [], ◌∷◌, ◌++◌, cond, ltb, length}
use Rattle.bus.specs.Rows.{imported, have_commands, byte_without}
use Rattle.lister.specs.Listing.{longest}
use Rattle.text.specs.Out.{script_size, script_line, bad_line, long_line}

-- the most bytes that are printed: two lines a byte of a row, which is as long as a script may be
abbrev pub text_room : ℕ
text_room = script_size * (2 * longest)

-- each frame as a line
unfoldable pub script_of : List ℕ → List ℕ
script_of [] = []
script_of (f ∷ fs) = script_line f ++ script_of fs

-- the lines of a row's frames; where a byte has no command, its place and no frame
unfoldable pub row_listed : List ℕ → List ℕ
row_listed row = cond (have_commands row) (script_of (imported row)) (bad_line (byte_without row))

-- where there are too many bytes, neither
unfoldable pub bus_listing : List ℕ → List ℕ
bus_listing row = cond (ltb longest (length row)) long_line (row_listed row)
