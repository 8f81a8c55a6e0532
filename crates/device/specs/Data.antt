-- Data or end, and identify (01, What a device does with a frame; 02, b, f and g): the rules see a frame's decoding
-- alone.
use Rattle.std.specs.Prelude.{ℕ, Bool, ◌&&◌, cond, eqb}
use Rattle.frame.specs.Decoding.{end, decoded}
use Rattle.frame.specs.declared.Message.{Message}
use Rattle.device.specs.Choose.{choose}
use Rattle.device.specs.Device.{sending}
use Rattle.device.specs.Poll.{answered}
use Rattle.device.specs.Reply.{eto, ete, sends, marked, stops, continues}
use Rattle.device.specs.declared.Device.{Device}
use Rattle.device.specs.Sent.{Sent}
use Rattle.device.specs.declared.Handed.TheVariants.{Byte}

-- the end bit, C2 of a data byte: END has it, DAB does not
abbrev pub end_bit : Message → ℕ
end_bit m = cond (eqb m.kind end) 1 0

-- a byte come back agrees with the last one sent: in its kind, DAB or END, which is C2, and in its data bits; C1 does
-- not count (02, b)
abbrev pub agrees : Message → Message → Bool
agrees m last = eqb m.kind last.kind && eqb m.offset last.offset

-- its own frame come back: ETE if it does not agree with the last frame sent, else ETO if NRD was noted, else what
-- `continues` gives: the next byte, or ETO if nothing is left
unfoldable pub returned : Device → Message → Sent
returned d m =
    choose (agrees m (decoded d.last))
    (choose (eqb d.noted 1) (stops d eto) (continues d))
    (stops d ete)

-- a listener is handed the byte, and the frame goes on
unfoldable pub heard : Device → Message → Sent
heard d m =
    choose (eqb d.listener 1)
    (record { device = d; frame = marked d m; handed = Byte m.offset (end_bit m) })
    (sends d (marked d m))

-- in states 2-5 it is the device's own frame
unfoldable pub data_or_end : Device → Message → Sent
data_or_end d m = choose (sending d) (returned d m) (heard d m)

-- IDY goes on in every state, with the device's answer to the poll (02, f)
abbrev pub idy : Device → Message → Sent
idy d m = sends d (marked d (answered d m))
