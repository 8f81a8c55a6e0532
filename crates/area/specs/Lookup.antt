-- What is looked up in a loop, `None` where there is nothing, and the changes made to it.
use Rattle.std.specs.Prelude.{ℕ, suc, cond, length, set, replicate, ltb, Option, Some, None}
use mathlib.Core.List.{List, [], ◌∷◌, ◌++◌, tail}
use Rattle.device.specs.declared.Device.{Device}
use Rattle.record.specs.Record.{device_of}
use Rattle.area.specs.Sizes.{depth}
use Rattle.area.specs.Loop.{Loop, size, link}

-- a link's oldest frame
abbrev pub oldest_of : List ℕ → Option ℕ
oldest_of [] = None
oldest_of (f ∷ fs) = Some f

-- a link's room for one more frame: behind how many it goes
abbrev pub room_of : List ℕ → Option ℕ
room_of fs = cond (ltb (length fs) depth) (Some (length fs)) None

-- a device's place in a loop
abbrev pub place_of : Loop → ℕ → Option ℕ
place_of l i = cond (ltb i (size l)) (Some i) None

-- device i becomes another, link j other frames
abbrev pub set_device : ℕ → Device → Loop → Loop
set_device i d l = record { devices = set l.devices i d; links = l.links }

abbrev pub set_link : ℕ → List ℕ → Loop → Loop
set_link j fs l = record { devices = l.devices; links = set l.links j fs }

-- one more frame in link j
abbrev pub add : ℕ → ℕ → Loop → Loop
add j f l = set_link j (link l j ++ (f ∷ [])) l

-- link j without its oldest frame
abbrev pub remove : ℕ → Loop → Loop
remove j l = set_link j (tail (link l j)) l

-- n devices that are all zero, and empty links
abbrev pub blank_of : ℕ → Loop
blank_of n = record { devices = replicate n (device_of []); links = replicate (suc n) [] }
