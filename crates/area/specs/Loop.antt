-- The loop of devices and links, its area (01, The lent area), and when an area is refused as such.
use Rattle.std.specs.Prelude.{ℕ, suc, ◌-◌, ◌≤◌, ◌<◌, ◌≡◌, List, [], ◌∷◌, ◌++◌, map, Bool, ◌&&◌, cond, length, get_or, drop, replicate, eqb}
use Rattle.device.specs.PowerOn.{bytes_from}
use Rattle.device.specs.declared.Device.{Device}
use Rattle.record.specs.Record.{record_size, device_of, record_of, zeros}
use Rattle.record.specs.Sound.{sound_record}
use Rattle.record.specs.Fits.{Good}
use Rattle.area.specs.Sizes.{header_size, link_size, most_devices, is_count, record_at, area_size}
use Rattle.area.specs.Parts.{parts, join, all}
use Rattle.area.specs.Link.{frames_of, link_of, sound_link, Frames}

-- link i feeds device i, and device i sends into link i + 1; the last link is the tail
pub record Loop : Type 0 where
  pub devices : List Device
  pub links : List (List ℕ)

abbrev pub size : Loop → ℕ
size l = length l.devices

-- an area's number of devices, the bytes of each record and of each link
abbrev pub count_in : List ℕ → ℕ
count_in a = get_or a 0 0

abbrev pub records_in : List ℕ → List (List ℕ)
records_in a = parts record_size (count_in a) (drop header_size a)

abbrev pub links_in : List ℕ → List (List ℕ)
links_in a = parts link_size (suc (count_in a)) (drop (record_at (count_in a)) a)

-- the loop in an area
unfoldable pub loop_of : List ℕ → Loop
loop_of a = record { devices = map device_of (records_in a); links = map frames_of (links_in a) }

-- the area of a loop: a header of the number of devices and zeros, the records, the links
abbrev pub header_of : ℕ → List ℕ
header_of n = n ∷ replicate (header_size - 1) 0

unfoldable pub area_of : Loop → List ℕ
area_of l = header_of (size l) ++ (join (map record_of l.devices) ++ join (map link_of l.links))

-- refusals: the length is wrong, the contents are not sound
abbrev pub shape : ℕ
shape = 1

abbrev pub unsound : ℕ
unsound = 2

-- byte 0 is a number of devices, at most so many, and the length is that of byte 0
unfoldable pub shaped_with : ℕ → List ℕ → Bool
shaped_with limit a = is_count limit (count_in a) && eqb (length a) (area_size (count_in a))

-- the same, said of the numbers
pub record ShapedWith (limit : ℕ) (a : List ℕ) : Type 0 where
  pub some : 1 ≤ count_in a
  pub few : count_in a ≤ limit
  pub long : length a ≡ area_size (count_in a)

-- the contents are sound: the header's zeros, each record, each link
unfoldable pub sound : List ℕ → Bool
sound a =
    zeros (bytes_from 1 (header_size - 1) a) && (all sound_record (records_in a) && all sound_link (links_in a))

-- an area's refusal, 0 for none
unfoldable pub judge_with : ℕ → List ℕ → ℕ
judge_with limit a = cond (shaped_with limit a) (cond (sound a) 0 unsound) shape

-- all three by the limit that holds
abbrev pub shaped : List ℕ → Bool
shaped a = shaped_with most_devices a

abbrev pub Shaped : List ℕ → Type 0
Shaped a = ShapedWith most_devices a

abbrev pub judge_of : List ℕ → ℕ
judge_of a = judge_with most_devices a

-- device i and link j of a loop; a blank device and an empty link past their number
abbrev pub device : Loop → ℕ → Device
device l i = get_or l.devices i (device_of [])

abbrev pub link : Loop → ℕ → List ℕ
link l j = get_or l.links j []

-- the loops that areas without a refusal hold, by a limit on the devices, and by the one that holds
pub record SoundWith (limit : ℕ) (l : Loop) : Type 0 where
  pub some : 1 ≤ size l
  pub few : size l ≤ limit
  pub ends : length l.links ≡ suc (size l)
  pub devices : (i : ℕ) → Good (device l i)
  pub frames : (j : ℕ) → Frames (link l j)

abbrev pub SoundLoop : Loop → Type 0
SoundLoop l = SoundWith most_devices l

-- an area has no refusal, holds this loop, and is this loop's area
pub record Holds (a : List ℕ) (l : Loop) : Type 0 where
  pub judged : judge_of a ≡ 0
  pub held : loop_of a ≡ l
  pub written : a ≡ area_of l

-- an area has no refusal, and has device i, or link j
pub record HasDevice (a : List ℕ) (i : ℕ) : Type 0 where
  pub judged : judge_of a ≡ 0
  pub there : i < size (loop_of a)

pub record HasLink (a : List ℕ) (j : ℕ) : Type 0 where
  pub judged : judge_of a ≡ 0
  pub there : j ≤ size (loop_of a)
