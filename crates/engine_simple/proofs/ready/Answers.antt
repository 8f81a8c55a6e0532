-- Each arm is the rule of its kind, and the other ready frames have none.
use Rattle.std.proofs.Common.{refl, ap, arith, rules}
use Rattle.frame.specs.Decoding.{has_c1}
use Rattle.frame.specs.declared.Message.{Message}
use Rattle.device.specs.Choose.{choose}
use Rattle.device.specs.Device.{send_data, device_id, accessory_id, sending_data, sending_device_id}
use Rattle.device.specs.Device.{sending_accessory_id}
use Rattle.device.specs.Ready.{requested, sst, nrd, aad}
use Rattle.device.specs.Data.{idy}
use Rattle.device.specs.Sent.{Sent}
use Rattle.device.proofs.Classes.{aad_codes}
use Rattle.record.specs.Record.{device_of}
use Rattle.engine_simple.proofs.Ruled.{ruled, obeyed, passed_on, few_c1}
use Rattle.engine_simple.proofs.ready.Goals as goal

pub aad-requires : goal.aad-requires
aad-requires c =
    let e = c.requires.read in
    omega (arith, aad_codes c.args.frame (rw e at c.in-34.is))

pub identify-requires : goal.identify-requires
unfolding has_c1
identify-requires c =
    let t = ap has_c1 c.in-42.is in
    (t, few_c1 c.args.frame c.requires.read t)

pub returns-in-29 : goal.returns-in-29
unfolding choose
returns-in-29 c =
    let d = device_of c.args.rec.now in
    let f = c.args.frame in
    let rule : Message → Sent = λ x. requested d f send_data sending_data in
    ruled d f _ c.requires.read 29 rule c.in-29.is c.requested.ensures refl

pub returns-in-30 : goal.returns-in-30
unfolding choose
returns-in-30 c =
    let d = device_of c.args.rec.now in
    let f = c.args.frame in
    let rule : Message → Sent = λ x. sst d f in
    ruled d f _ c.requires.read 30 rule c.in-30.is c.sst.ensures refl

pub returns-in-31 : goal.returns-in-31
unfolding choose
returns-in-31 c =
    let d = device_of c.args.rec.now in
    let f = c.args.frame in
    let rule : Message → Sent = λ x. requested d f device_id sending_device_id in
    ruled d f _ c.requires.read 31 rule c.in-31.is c.requested-in-31.ensures refl

pub returns-in-32 : goal.returns-in-32
unfolding choose
returns-in-32 c =
    let d = device_of c.args.rec.now in
    let f = c.args.frame in
    let rule : Message → Sent = λ x. requested d f accessory_id sending_accessory_id in
    ruled d f _ c.requires.read 32 rule c.in-32.is c.requested-in-32.ensures refl

pub returns-in-28 : goal.returns-in-28
unfolding choose
returns-in-28 c =
    let d = device_of c.args.rec.now in
    let f = c.args.frame in
    obeyed d f _ c.requires.read 28 (λ y. nrd d) c.in-28.is c.nrd.ensures refl

pub returns-in-34 : goal.returns-in-34
unfolding choose
returns-in-34 c =
    let d = device_of c.args.rec.now in
    let f = c.args.frame in
    let rule : Message → Sent = λ x. aad d f x.offset in
    ruled d f _ c.requires.read 34 rule c.in-34.is c.aad.ensures refl

pub returns-in-42 : goal.returns-in-42
unfolding choose
returns-in-42 c =
    let d = device_of c.args.rec.now in
    let f = c.args.frame in
    ruled d f _ c.requires.read 42 (idy d) c.in-42.is c.identify.ensures refl

pub returns-in_default : goal.returns-in_default
returns-in_default c =
    passed_on (device_of c.args.rec.now) c.args.frame c.args.message c.requires.read
    (search rules, (search rules, (search rules, (search rules, (search rules, (search rules, (search rules, (search rules, (search rules, (search rules, (search rules, (search rules, (search rules, (search rules, (search rules, (search rules, (search rules, (search rules, (search rules, (search rules, (search rules, (search rules, (search rules, (search rules, (search rules, tt)))))))))))))))))))))))))
