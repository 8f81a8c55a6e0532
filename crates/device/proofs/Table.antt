-- Rows 1 to 14 hold: what is seen in each is computed and compared.
use mathlib.Core.Path.{refl}
use Rattle.frame.specs.Messages.{messages, kind_at, lookup, within, first_in, first_of}
use Rattle.frame.specs.Decoding.{has_c1, offset_in, c1_in}
use Rattle.device.specs.Choose.{choose}
use Rattle.device.specs.PowerOn.{bytes_from, power_on}
use Rattle.device.specs.Poll.{answer}
use Rattle.device.specs.Commands.{lad, tad, aau}
use Rattle.device.specs.Reply.{marked, data_frame, other_byte, other_length, sends_data, sends_other, continues}
use Rattle.device.specs.Ready.{requested, polls, sst, nrd, aad}
use Rattle.device.specs.Data.{returned, heard, data_or_end}
use Rattle.device.specs.Take.{takes_simple, takes}
use Rattle.device.specs.Rows.{Rows}

pub rows : Rows
unfolding messages kind_at lookup within first_in first_of has_c1 offset_in c1_in choose bytes_from power_on lad tad aau
    answer marked data_frame other_byte other_length sends_data sends_other continues requested polls sst nrd aad returned
    heard data_or_end takes_simple takes
rows = refl
