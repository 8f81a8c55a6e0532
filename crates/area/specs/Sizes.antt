-- The sizes of the lent area (01, The lent area) and of set-up items (01, The calls; 02, f and i), each said once.
use Rattle.std.specs.Prelude.{ℕ, ◌+◌, ◌*◌, ◌≤◌, ◌≡◌, List, Bool, ◌&&◌, length, leb}
use Rattle.record.specs.Record.{record_size}

-- bytes before the first record
abbrev pub header_size : ℕ
header_size = 8

-- the most frames of a link, and its bytes: a count, a zero byte, two bytes a frame
abbrev pub depth : ℕ
depth = 4

abbrev pub link_size : ℕ
link_size = 2 + 2 * depth

-- the most devices of a loop (02, j)
abbrev pub most_devices : ℕ
most_devices = 31

-- a loop of at most so many devices can have n
abbrev pub is_count : ℕ → ℕ → Bool
is_count limit n = leb 1 n && leb n limit

-- bytes of a set-up item, of one with the further abilities behind (02, f), and with the fixed second address behind
-- them (02, i)
abbrev pub item_size : ℕ
item_size = 12

abbrev pub poll_item_size : ℕ
poll_item_size = 13

abbrev pub long_item_size : ℕ
long_item_size = 14

-- where record i starts, and link j in an area of n devices
abbrev pub record_at : ℕ → ℕ
record_at i = header_size + record_size * i

abbrev pub link_at : ℕ → ℕ → ℕ
link_at n j = record_at n + link_size * j

-- bytes of an area of n devices
abbrev pub area_size : ℕ → ℕ
area_size n = link_at n (n + 1)

-- a part of w bytes starts at a place, and all of it is there
pub record Starts (from at w : ℕ) (a : List ℕ) : Type 0 where
  pub at_place : from ≡ at
  pub within : from + w ≤ length a
