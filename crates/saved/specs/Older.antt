-- Saves of the old edition, from before loads took a choice (02, h): such a save is opened as its upgrade, the save
-- that would be written now.
use Rattle.std.specs.Prelude.{ℕ, ◌+◌, List, map, Bool, ◌&&◌, cond, get_or, set, take, eqb, ltb}
use Rattle.device.specs.Device.{plain_last, end_last}
use Rattle.device.specs.Change.{loadlength, choice}
use Rattle.record.specs.Sound.{only}
use Rattle.area.specs.Sizes.{header_size}
use Rattle.area.specs.Parts.{all}
use Rattle.area.specs.Loop.{records_in, links_in, sound}
use Rattle.saved.specs.Saved.{header_kind, device_kind, link_kind, head_size, recorded, body, edition_old}
use Rattle.saved.specs.Saved.{with_edition, row_of, edition}
use Rattle.saved.specs.Saved.{saved_header, saved_devices, saved_links, contents}

-- the form that was written then: kind 1 has the area's own byte 1
unfoldable pub saved_before : List ℕ → List ℕ
saved_before a =
    row_of (recorded header_kind (take header_size a))
    (map (recorded device_kind) (records_in a)) (map (recorded link_kind) (links_in a))

-- such a save
abbrev pub old : List ℕ → Bool
old s = eqb (edition s) edition_old

-- ---- A device's 64 bytes

-- byte 19 is zero, as it was in all of them
abbrev pub zero_choice : List ℕ → Bool
zero_choice b = eqb (get_or b choice 0) plain_last

-- END is chosen where there is data, by the device whose bytes start at a place
abbrev pub asked_from : ℕ → List ℕ → List ℕ
asked_from at b = cond (ltb 0 (get_or b (at + loadlength) 0)) (set b (at + choice) end_last) b

abbrev pub asked : List ℕ → List ℕ
asked b = asked_from 0 b

-- ---- A save

-- a device's record of a save: its bytes stand behind its head
abbrev pub asked_in : List ℕ → List ℕ
asked_in r = asked_from head_size r

-- and its byte 19 is zero
abbrev pub zero_choice_in : List ℕ → Bool
zero_choice_in r = zero_choice (body r)

-- the upgrade: the edition now, and END chosen by each device with data
unfoldable pub upgrade : List ℕ → List ℕ
upgrade s = row_of (with_edition (saved_header s)) (map asked_in (saved_devices s)) (saved_links s)

-- a save as it is opened, and the area that comes of it
abbrev pub upgraded : List ℕ → List ℕ
upgraded s = cond (old s) (upgrade s) s

unfoldable pub opened : List ℕ → List ℕ
opened s = contents (upgraded s)

-- what was saved is sound: the contents are, as they stand there, and in an old save byte 19 of every record is zero
unfoldable pub sound_save : List ℕ → Bool
sound_save s = sound (contents s) && only (old s) (all zero_choice_in (saved_devices s))

-- ---- An area

-- END is chosen by each device with data
unfoldable pub asked_area : List ℕ → List ℕ
asked_area a = row_of (take header_size a) (map asked (records_in a)) (links_in a)
