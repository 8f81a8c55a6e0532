-- What bus_list prints has room; each line of it is right in a script, and says the frame that was imported there; and
-- with a line in front the lister cuts it so. (A script over 60,000 bytes it does not list.)
use Rattle.std.specs.Prelude.{ℕ, ◌≤◌, ◌≡◌, List, ◌∷◌, ◌++◌, map, true, not, eqb, length}
use Rattle.area.specs.Parts.{all}
use Rattle.bus.specs.Rows.{imported, have_commands}
use Rattle.text.specs.Words.{newline}
use Rattle.text.specs.Digits.{number_at}
use Rattle.script.specs.Script.{frame_right}
use Rattle.lister.specs.Lines.{lines_of}
use Rattle.lister.specs.Listing.{longest}
use Rattle.bus_script.specs.Listing.{text_room, bus_listing}

abbrev pub HasRoom : Type 0
HasRoom = (row : List ℕ) → length (bus_listing row) ≤ text_room

-- Lines of a script that are all right, and the frames that they say
pub record Says (text frames : List ℕ) : Type 0 where
  pub all_right : all frame_right (lines_of text) ≡ true
  pub in_order : map (λ line. number_at 0 3 line) (lines_of text) ≡ frames

abbrev pub InFront : Type 0
InFront = (line text : List ℕ) → all (λ x. not (eqb x newline)) line ≡ true →
    lines_of (line ++ (newline ∷ text)) ≡ line ∷ lines_of text

abbrev pub ReadsBack : Type 0
ReadsBack = (row : List ℕ) → have_commands row ≡ true → length row ≤ longest → Says (bus_listing row) (imported row)
