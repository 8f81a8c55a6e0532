-- Extended addresses (02, i; 001, sections 2.7, 2.8 and 2.15): the rules of a device that LAD or TAD and then SAD
-- address, and that AES and then AEP assign, where they are not those of a simple one. LPIS, TPIS: 001's primary idle.
use Rattle.std.specs.Prelude.{ℕ, ◌+◌, Bool, ◌&&◌, eqb, ltb, leb}
use Rattle.frame.specs.declared.Kind.TheVariants.{Nul, Ddt}
use Rattle.frame.specs.Messages.{number_of}
use Rattle.device.specs.Choose.{choose}
use Rattle.device.specs.Device.{listen, unaddress, extended, idle, addressed, no_address, half_assigned, received}
use Rattle.device.specs.Device.{has, has_further, talks, fixed_second, present_second, listen_primary, talk_primary}
use Rattle.device.specs.Change.{listening, talking, placed, flagging, seconding}
use Rattle.device.specs.Remote.{to_remote}
use Rattle.device.specs.Reply.{sends}
use Rattle.device.specs.declared.Device.{Device}
use Rattle.device.specs.Sent.{Sent}

-- a command is a frame of kind 3 to 24
abbrev pub command_kind : ℕ → Bool
command_kind k = leb (number_of Nul) k && leb k (number_of Ddt)

-- in LPIS and TPIS: neither primary was received
abbrev pub primary_idle : Device → Device
primary_idle d = flagging d 0 0

-- an extended device so, and a simple one as it is
unfoldable pub primary_lost : Device → Device
primary_lost d = choose (has_further d extended) (primary_idle d) d

-- where a frame of kind k begins, but for those with a rule below: in LPIS and TPIS if it is a command
unfoldable pub heeding : Device → ℕ → Device
heeding d k = choose (command_kind k) (primary_idle d) d

-- LAD a, equal to the address now, with ability 1: the listen primary alone is received, and to remote while enabled;
-- any other LAD: neither primary
unfoldable pub extended_lad : Device → ℕ → Device
extended_lad d a =
    choose (eqb a d.address)
    (choose (has d listen) (flagging (to_remote d) received 0) (primary_idle d))
    (primary_idle d)

-- TAD a, equal to the address now, with any of 2-16: the talk primary alone is received; any other TAD: neither, and
-- talker 0
unfoldable pub extended_tad : Device → ℕ → Device
extended_tad d a =
    choose (eqb a d.address)
    (choose (talks d) (flagging d 0 received) (talking (primary_idle d) idle))
    (talking (primary_idle d) idle)

-- own SAD after the listen primary, with ability 1: listener 1, and with 64 talker 0
unfoldable pub sad_listens : Device → Device
sad_listens d =
    choose (listen_primary d)
    (choose (has d listen) (choose (has d unaddress) (talking (listening d 1) idle) (listening d 1)) d)
    d

-- own SAD after the talk primary, with any of 2-16: talker 1, and with 64 listener 0
unfoldable pub sad_talks : Device → Device
sad_talks d =
    choose (talk_primary d)
    (choose (talks d) (choose (has d unaddress) (talking (listening d 0) addressed) (talking d addressed)) d)
    d

-- SAD a, equal to the present second address: the first, then the second of these, and the flags stay; any other SAD:
-- neither primary, and talker 0 after the talk primary
unfoldable pub sad : Device → ℕ → Device
sad d a =
    choose (eqb a (present_second d))
    (sad_talks (sad_listens d))
    (choose (talk_primary d) (talking (primary_idle d) idle) (primary_idle d))

-- AAU: neither primary, both present addresses the fixed ones, configured 0
abbrev pub extended_aau : Device → Device
extended_aau d = placed (seconding (primary_idle d) (fixed_second d)) d.fixed 0

-- AES a, unconfigured: take a as second address, half assigned, send the frame plus one
unfoldable pub aes : Device → ℕ → ℕ → Sent
aes d f a =
    choose (eqb d.configured 0)
    (sends (placed (seconding d a) d.address half_assigned) (f + 1))
    (sends d f)

-- AEP a, half assigned with a second address that is legal, not 31: take a, configured 1
unfoldable pub aep : Device → ℕ → Device
aep d a =
    choose (eqb d.configured half_assigned)
    (choose (ltb (present_second d) no_address) (placed d a 1) d)
    d
