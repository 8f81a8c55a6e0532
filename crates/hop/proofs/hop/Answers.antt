-- The refusal of the area or of the device's number; else the hop of the device that is found.
use Rattle.std.proofs.Common.{sym}
use Rattle.area.specs.Loop.{loop_of}
use Rattle.calls.specs.Calls.{no_hop, hop_in}
use Rattle.calls.proofs.Outcomes.{hop_none}
use Rattle.find.proofs.Named.{found_there, refused_as_found, done_as_found}
use Rattle.hop.proofs.hop.Goals as goal

pub hop_at-requires : goal.hop_at-requires
hop_at-requires c = (found_there c.args.area.now c.args.device _ (sym c.in-Ok.ensures)).0

pub returns-in-Ok : goal.returns-in-Ok
returns-in-Ok c =
    let e = sym c.in-Ok.ensures in
    done_as_found no_hop (hop_in c.args.device) c.args.area.now c.args.device
    (hop_none c.args.device (loop_of c.args.area.now)) _ _ _ e
    (rw (found_there c.args.area.now c.args.device _ e).1 at c.hop_at.ensures)

pub returns-in-Err : goal.returns-in-Err
returns-in-Err c =
    refused_as_found no_hop (hop_in c.args.device) c.args.area.now c.args.device
    (hop_none c.args.device (loop_of c.args.area.now)) _ _ (sym c.in-Err.ensures) c.no_hop.ensures
