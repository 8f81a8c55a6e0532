-- Commands (01, What a device does with a frame; 02, d): each goes on unchanged, and this is the device after it.
use Rattle.std.specs.Prelude.{ℕ, eqb}
use Rattle.device.specs.Choose.{choose}
use Rattle.device.specs.Device.{listen, auto_address, unaddress, idle, addressed, has, talks}
use Rattle.device.specs.Change.{listening, talking, placed}
use Rattle.device.specs.Remote.{to_remote}
use Rattle.device.specs.declared.Device.{Device}

-- LAD a, equal to the address now, with ability 1: to remote while enabled; listener 1, and with 64 talker 0
unfoldable pub lad : Device → ℕ → Device
lad d a =
    choose (eqb a d.address)
    (choose (has d listen)
    (choose (has d unaddress) (talking (listening (to_remote d) 1) idle) (listening (to_remote d) 1))
    d)
    d

-- UNL: listener 0
abbrev pub unl : Device → Device
unl d = listening d 0

-- TAD a, equal to the address now, with any of 2-16: talker 1, and with 64 listener 0; any other TAD: talker 0
unfoldable pub tad : Device → ℕ → Device
tad d a =
    choose (eqb a d.address)
    (choose (talks d) (choose (has d unaddress) (talking (listening d 0) addressed) (talking d addressed))
    (talking d idle))
    (talking d idle)

-- UNT: talker 0
abbrev pub unt : Device → Device
unt d = talking d idle

-- IFC: both 0
abbrev pub ifc : Device → Device
ifc d = talking (listening d 0) idle

-- AAU with ability 32: configured 0, address now the fixed one
unfoldable pub aau : Device → Device
aau d = choose (has d auto_address) (placed d d.fixed 0) d
