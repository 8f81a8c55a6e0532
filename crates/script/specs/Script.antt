-- What the lines of a script say (01, the lister): line 1 the devices of the loop, each later line a frame.
use Rattle.std.specs.Prelude.{ℕ, ◌+◌, ◌-◌, ◌*◌, ◌/◌, List, ◌∷◌, map, Bool, ◌&&◌, cond, eqb, ltb, length, get_or, drop, replicate, Option, Some, None}
use Rattle.frame.specs.Messages.{frames}
use Rattle.area.specs.Sizes.{item_size, most_devices, is_count}
use Rattle.area.specs.Parts.{parts, join, all}
use Rattle.text.specs.Words.{space, loop_word, begins}
use Rattle.text.specs.Digits.{are_digits, number_at}

-- ---- line 1

-- bytes of line 1 before the devices, and of each device: a space and four digits
abbrev pub word_size : ℕ
word_size = 4

abbrev pub group_size : ℕ
group_size = 5

-- the number of devices, and the bytes of each
abbrev pub devices_in : List ℕ → ℕ
devices_in line = (length line - word_size) / group_size

abbrev pub groups_in : List ℕ → List (List ℕ)
groups_in line = parts group_size (devices_in line) (drop word_size line)

unfoldable pub group_right : List ℕ → Bool
group_right g = eqb (get_or g 0 0) space && are_digits 1 4 g

-- the word, and nothing but devices behind it
unfoldable pub loop_right : List ℕ → Bool
loop_right line =
    begins loop_word line && (eqb (length line) (word_size + group_size * devices_in line) && all group_right
    (groups_in line))

-- a device's set-up item: abilities, fixed address, all else zero
abbrev pub item_of : List ℕ → List ℕ
item_of g = number_at 1 2 g ∷ number_at 3 2 g ∷ replicate (item_size - 2) 0

abbrev pub items_in : List ℕ → List ℕ
items_in line = join (map item_of (groups_in line))

-- the devices of line 1, where there are as many as a loop can have
abbrev pub loop_in : List ℕ → Option ℕ
loop_in line =
    cond (loop_right line && is_count most_devices (devices_in line))
    (Some (devices_in line))
    None

-- ---- the later lines

-- three digits, at most 7ff
unfoldable pub frame_right : List ℕ → Bool
frame_right line = eqb (length line) 3 && (are_digits 0 3 line && ltb (number_at 0 3 line) frames)

abbrev pub frame_in : List ℕ → Option ℕ
frame_in line = cond (frame_right line) (Some (number_at 0 3 line)) None
