-- Set up (01, The calls; 02, f and i): an item for each device, and an area of the length for them, whatever it holds.
use Rattle.std.specs.Prelude.{ℕ, suc, ◌+◌, ◌-◌, ◌*◌, ◌/◌, List, [], map, Bool, cond, ◌&&◌, ◌||◌, length, replicate, eqb}
use Rattle.device.specs.PowerOn.{power_on}
use Rattle.record.specs.Record.{record_size}
use Rattle.record.specs.Sound.{allowed}
use Rattle.area.specs.Sizes.{link_size, most_devices, is_count, item_size, poll_item_size, long_item_size, area_size}
use Rattle.area.specs.Parts.{parts, all}
use Rattle.area.specs.Loop.{Loop, area_of, shape, unsound}
use Rattle.calls.specs.Outcome.{After, after}

-- the n of an area's length, if it is the length of one
abbrev pub devices_for : ℕ → ℕ
devices_for size = (size - area_size 0) / (record_size + link_size)

-- so many bytes are n items, all of 12 bytes, all of 13 or all of 14
unfoldable pub is_items : (bytes n : ℕ) → Bool
is_items bytes n = eqb bytes (item_size * n) || (eqb bytes (poll_item_size * n) || eqb bytes (long_item_size * n))

-- how long each of them then is
unfoldable pub item_width : (bytes n : ℕ) → ℕ
item_width bytes n =
    cond (eqb bytes (long_item_size * n)) long_item_size
    (cond (eqb bytes (poll_item_size * n)) poll_item_size item_size)

-- the items, one for each of n devices
abbrev pub items_of : ℕ → List ℕ → List (List ℕ)
items_of n items = parts (item_width (length items) n) n items

-- the area's length is that of n devices, at most so many, and there is an item for each
unfoldable pub items_fit : ℕ → ℕ → List ℕ → List ℕ → Bool
items_fit limit n a items = is_count limit n && (eqb (length a) (area_size n) && is_items (length items) n)

-- power-on devices and empty links
abbrev pub powered_on : ℕ → List ℕ → Loop
powered_on n items = record { devices = map power_on (items_of n items); links = replicate (suc n) [] }

-- by a limit on the devices, and by the one that holds
unfoldable pub set_up_with : ℕ → List ℕ → List ℕ → After ℕ
set_up_with limit a items =
    let n = devices_for (length a) in
    cond (items_fit limit n a items)
    (cond (all allowed (items_of n items)) (after 0 (area_of (powered_on n items))) (after unsound a))
    (after shape a)

abbrev pub set_up_of : List ℕ → List ℕ → After ℕ
set_up_of a items = set_up_with most_devices a items
