-- The clauses of soundness on a talker: those that ask the same in every state, and those that go by the state.
use Rattle.std.specs.Prelude.{Bool, ◌&&◌, eqb, leb}
use Rattle.device.specs.Device.{sending_data}
use Rattle.device.specs.declared.Device.{Device}
use Rattle.record.specs.Sound.{only, sending_able, addressed_able, data_able, replied_right, quiet_outside}
use Rattle.record.specs.Sound.{last_below}

-- of `talker_right` these ask the same in every state,
abbrev pub data_right : Device → Bool
data_right d = data_able d && (leb d.sent d.loadlength && last_below d)

-- and these go by the state
abbrev pub state_right : Device → Bool
state_right d =
    sending_able d &&
    (addressed_able d && (only (eqb d.talker sending_data) (leb 1 d.sent) && (replied_right d && quiet_outside d)))
