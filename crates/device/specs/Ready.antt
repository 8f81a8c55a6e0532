-- Ready frames (01, What a device does with a frame).
use Rattle.std.specs.Prelude.{ℕ, ◌+◌, eqb}
use Rattle.device.specs.Choose.{choose}
use Rattle.device.specs.Device.{status, auto_address, addressed, sending_status, asking, polled, has, sending}
use Rattle.device.specs.Change.{talking, placed, serving, noting}
use Rattle.device.specs.Reply.{sends, continues}
use Rattle.device.specs.declared.Device.{Device}
use Rattle.device.specs.Sent.{Sent}

-- SDA, SDI, SAI in talker state 1 with the ability: the first byte of the reply, in its state
unfoldable pub requested : Device → ℕ → (ability state : ℕ) → Sent
requested d f ability state =
    choose (eqb d.talker addressed)
    (choose (has d ability) (continues (talking d state)) (sends d f))
    (sends d f)

-- a poll turns service 1 into 2
unfoldable pub polls : Device → Device
polls d = choose (eqb d.service asking) (serving d polled) d

-- SST: the same, after the poll
unfoldable pub sst : Device → ℕ → Sent
sst d f =
    choose (eqb d.talker addressed)
    (choose (has d status) (continues (talking (polls d) sending_status)) (sends d f))
    (sends d f)

-- NRD in states 2-5 is noted
unfoldable pub nrd : Device → Device
nrd d = choose (sending d) (noting d) d

-- AAD a, unconfigured with 32: take a, configured 1, send the frame plus one
unfoldable pub aad : Device → ℕ → ℕ → Sent
aad d f a =
    choose (eqb d.configured 0)
    (choose (has d auto_address) (sends (placed d a 1) (f + 1)) (sends d f))
    (sends d f)
