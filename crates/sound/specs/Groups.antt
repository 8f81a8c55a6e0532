-- The clauses of soundness in groups, as the code tests them: what a device is able to do and be; and what is asked of
-- an item's device by its variant.
use Rattle.std.specs.Prelude.{Bool, not, cond, ◌&&◌, eqb, leb}
use Rattle.device.specs.Device.{auto_address, extended, no_address, has, has_further}
use Rattle.device.specs.declared.Device.{Device}
use Rattle.record.specs.Sound.{listener_able, service_able, abilities_allowed, address_right}

abbrev pub able_all : Device → Bool
able_all d = abilities_allowed d && (address_right d && (listener_able d && service_able d))

-- of a device at power-on, whose present second address is the fixed one, without flags
abbrev pub variant_allowed : Device → Bool
variant_allowed d =
    cond (has_further d extended) (not (has d auto_address) && leb d.fixedsecond no_address) (eqb d.fixedsecond 0)
