-- Each arm is the rule of its kind.
use Rattle.std.proofs.Common.{refl}
use Rattle.device.specs.Choose.{choose}
use Rattle.device.specs.Clear.{dcl, sdc, get}
use Rattle.record.specs.Record.{device_of}
use Rattle.engine_simple.proofs.Ruled.{ruled}
use Rattle.engine_simple.proofs.command.Goals as goal

pub returns-in-9 : goal.returns-in-9
unfolding choose
returns-in-9 c =
    let d = device_of c.args.rec.now in
    let f = c.args.frame in
    ruled d f _ c.requires.read 9 (λ x. dcl d f) c.in-9.is refl refl

pub returns-in-5 : goal.returns-in-5
unfolding choose
returns-in-5 c =
    let d = device_of c.args.rec.now in
    let f = c.args.frame in
    ruled d f _ c.requires.read 5 (λ x. sdc d f) c.in-5.is c.to_listener.ensures refl

pub returns-in-7 : goal.returns-in-7
unfolding choose
returns-in-7 c =
    let d = device_of c.args.rec.now in
    let f = c.args.frame in
    ruled d f _ c.requires.read 7 (λ x. get d f) c.in-7.is c.to_listener-in-7.ensures refl
