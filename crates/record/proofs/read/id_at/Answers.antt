-- The ID starts at byte 24, and a place past its end reads as 0.
use Rattle.std.proofs.Common.{rules, ◌≡◌, arith, take, drop, get_or}
use Rattle.std.proofs.lemmas.Grind.{common_steps}
use Rattle.device.proofs.Bytes.{take_bytes}
use Rattle.record.specs.Record.{device_of}
use Rattle.record.proofs.read.id_at.Goals as goal

pub returns : goal.returns
unfolding device_of
returns c =
    let e : c.unwrap_or.result ≡ get_or (take 8 (drop 24 c.args.rec.now)) c.args.at 0 = grind (arith, common_steps) in
    rw (take_bytes 8 24 c.args.rec.now (search rules)) at e
