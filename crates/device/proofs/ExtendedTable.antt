-- The table of extended devices holds: what comes out and how the devices stand is computed and compared.
use mathlib.Core.Path.{refl}
use Rattle.frame.specs.Messages.{messages, kind_at, lookup, within, first_in, first_of}
use Rattle.frame.specs.Decoding.{has_c1, offset_in, c1_in}
use Rattle.device.specs.Choose.{choose}
use Rattle.device.specs.PowerOn.{bytes_from, power_on}
use Rattle.device.specs.Remote.{to_remote}
use Rattle.device.specs.Commands.{lad, tad, aau}
use Rattle.device.specs.Ready.{aad}
use Rattle.device.specs.Extended.{heeding, extended_lad, extended_tad, sad_listens, sad_talks, sad, aes, aep}
use Rattle.device.specs.Take.{takes_simple, takes_extended, takes}
use Rattle.device.specs.ExtendedTable.{ExtendedTable}

pub extended_table : ExtendedTable
unfolding messages kind_at lookup within first_in first_of has_c1 offset_in c1_in choose bytes_from power_on to_remote lad tad
    aau aad heeding extended_lad extended_tad sad_listens sad_talks sad aes aep takes_simple takes_extended takes
extended_table = refl
