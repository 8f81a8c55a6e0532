-- Frames sent, and the replies of a talker (01, What a device does with a frame, from "Reply bytes are DAB"; 02, h).
use Rattle.std.specs.Prelude.{ℕ, ◌+◌, ◌&&◌, eqb, ltb, get_or}
use Rattle.frame.specs.Decoding.{message, dab, end, frame_of}
use Rattle.frame.specs.declared.Message.{Message}
use Rattle.device.specs.Choose.{choose}
use Rattle.device.specs.Device.{addressed, sending_data, sending_status, sending_device_id, asking, end_last}
use Rattle.device.specs.Change.{talking, counting}
use Rattle.device.specs.declared.Device.{Device}
use Rattle.device.specs.Sent.{Sent}
use Rattle.device.specs.declared.Handed.TheVariants.{Nothing}

-- the codes of ETO and ETE
abbrev pub eto : ℕ
eto = 0x540

abbrev pub ete : ℕ
ete = 0x541

-- the frame f goes out, and nothing is handed over
abbrev pub sends : Device → ℕ → Sent
sends d f = record { device = d; frame = f; handed = Nothing }

-- the same message with C1 set
abbrev pub with_c1 : Message → Message
with_c1 m = message m.kind m.offset 1

-- the frame of a DAB, END or IDY as it goes out: C1 is set if service is 1, else it is as it was
unfoldable pub marked : Device → Message → ℕ
marked d m = choose (eqb d.service asking) (frame_of (with_c1 m)) (frame_of m)

-- to state 1 with the answer e, ETO or ETE
abbrev pub stops : Device → ℕ → Sent
stops d e = sends (talking d addressed) e

-- the next byte of the data, after those already sent: END if it is the last and the load asked for END (02, h)
unfoldable pub data_frame : Device → ℕ
data_frame d =
    choose (eqb (d.sent + 1) d.loadlength && eqb d.choice end_last)
    (marked d (message end (get_or d.load d.sent 0) 0))
    (marked d (message dab (get_or d.load d.sent 0) 0))

-- the next byte of another reply: the status, a byte of the ID, the accessory ID
unfoldable pub other_byte : Device → ℕ
other_byte d =
    choose (eqb d.talker sending_status) d.status
    (choose (eqb d.talker sending_device_id) (get_or d.id d.replied 0)
    d.accessory)

-- its frame
abbrev pub other_frame : Device → ℕ
other_frame d = marked d (message dab (other_byte d) 0)

-- how many bytes it has
unfoldable pub other_length : Device → ℕ
other_length d = choose (eqb d.talker sending_device_id) d.idlength 1

-- a byte of the data goes out
unfoldable pub sends_data : Device → Sent
sends_data d = sends (counting d (data_frame d) (d.sent + 1) d.replied) (data_frame d)

-- a byte of another reply goes out
unfoldable pub sends_other : Device → Sent
sends_other d = sends (counting d (other_frame d) d.sent (d.replied + 1)) (other_frame d)

-- the next byte of the reply; ETO if nothing is left
unfoldable pub continues : Device → Sent
continues d =
    choose (eqb d.talker sending_data)
    (choose (ltb d.sent d.loadlength) (sends_data d) (stops d eto))
    (choose (ltb d.replied (other_length d)) (sends_other d) (stops d eto))
