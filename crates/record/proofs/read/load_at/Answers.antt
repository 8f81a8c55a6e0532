-- The data starts at byte 32, and a place past its end reads as 0.
use Rattle.std.proofs.Common.{rules, ◌≡◌, arith, take, drop, get_or}
use Rattle.std.proofs.lemmas.Grind.{common_steps}
use Rattle.device.proofs.Bytes.{take_bytes}
use Rattle.record.specs.Record.{device_of}
use Rattle.record.proofs.read.load_at.Goals as goal

pub returns : goal.returns
unfolding device_of
returns c =
    let e : c.unwrap_or.result ≡ get_or (take 32 (drop 32 c.args.rec.now)) c.args.at 0 = grind (arith, common_steps) in
    rw (take_bytes 32 32 c.args.rec.now (search rules)) at e
