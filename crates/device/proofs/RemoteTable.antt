-- The table of remote and local holds: where each state goes is computed and compared, for the messages that move it
-- and for the others.
use mathlib.Core.Path.{◌≡◌, refl}
use mathlib.Core.List.{List, [], ◌∷◌, ◌++◌}
use Rattle.frame.specs.Messages.{messages, kind_at, lookup, within, first_in, first_of}
use Rattle.frame.specs.Decoding.{has_c1, offset_in, c1_in}
use Rattle.device.specs.Choose.{choose}
use Rattle.device.specs.PowerOn.{bytes_from, power_on}
use Rattle.device.specs.Clear.{to_listener}
use Rattle.device.specs.Remote.{moves, to_remote, llo, gtl, key}
use Rattle.device.specs.Poll.{ppe, ppd, answer}
use Rattle.device.specs.Commands.{lad, tad, aau}
use Rattle.device.specs.Reply.{marked}
use Rattle.device.specs.Ready.{requested, sst, nrd, aad}
use Rattle.device.specs.Data.{heard, data_or_end}
use Rattle.device.specs.Take.{takes_simple, takes}
use Rattle.device.specs.RemoteTable.{Line, moving, staying, seen, said, Holds, RemoteTable}

-- line by line, so that a wrong one is shown
abbrev Each : List Line → Type 0
Each [] = Unit {0}
Each (r ∷ rs) = (seen r ≡ said r) × Each rs

each_holds : (rs : List Line) → Each rs → Holds rs
each_holds [] h = refl
each_holds (r ∷ rs) h = rw (h.0, each_holds rs h.1)

moving_each : Each moving
unfolding messages kind_at lookup within first_in first_of has_c1 offset_in c1_in choose bytes_from power_on moves to_remote llo
    gtl key lad takes_simple takes
moving_each = (refl, (refl, (refl, (refl, (refl, (refl, (refl, (refl, tt))))))))

staying_holds : Holds staying
unfolding messages kind_at lookup within first_in first_of has_c1 offset_in c1_in choose bytes_from power_on to_listener ppe ppd
    lad tad aau answer marked requested sst nrd aad heard data_or_end takes_simple takes
staying_holds = refl

both : (rs ss : List Line) → Holds rs → Holds ss → Holds (rs ++ ss)
both [] ss h k = k
both (r ∷ rs) ss h k =
    let e : seen r ≡ said r = cc in let t : Holds rs = cc in rw (e, both rs ss t k)

pub remote_table : RemoteTable
remote_table = both moving staying (each_holds moving moving_each) staying_holds
