-- Note 5 and the rack of eight hold: what the devices send is computed and compared.
use mathlib.Core.Path.{refl}
use Rattle.frame.specs.Messages.{messages, kind_at, lookup, within, first_in, first_of}
use Rattle.frame.specs.Decoding.{has_c1, offset_in, c1_in}
use Rattle.device.specs.Choose.{choose}
use Rattle.device.specs.PowerOn.{bytes_from, power_on}
use Rattle.device.specs.Remote.{to_remote}
use Rattle.device.specs.Poll.{ppe, answer}
use Rattle.device.specs.Commands.{lad}
use Rattle.device.specs.Reply.{marked}
use Rattle.device.specs.Ready.{aad}
use Rattle.device.specs.Take.{takes_simple, takes}
use Rattle.device.specs.PollTable.{Note5, RackReads}

pub note_5 : Note5
unfolding messages kind_at lookup within first_in first_of has_c1 offset_in c1_in choose bytes_from power_on ppe answer marked
    takes_simple takes
note_5 = (refl, refl)

pub rack_reads : RackReads
unfolding messages kind_at lookup within first_in first_of has_c1 offset_in c1_in choose bytes_from power_on to_remote lad ppe
    answer marked aad takes_simple takes
rack_reads = refl
