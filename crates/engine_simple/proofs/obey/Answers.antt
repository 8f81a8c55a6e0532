-- Each arm is the rule of its kind, and the other commands have none.
use Rattle.std.proofs.Common.{refl, rules}
use Rattle.device.specs.Choose.{choose}
use Rattle.device.specs.Commands.{lad, unl, tad, unt, ifc, aau}
use Rattle.device.specs.Remote.{ren, nre, llo, gtl}
use Rattle.device.specs.Poll.{ppe, ppd, ppu}
use Rattle.device.proofs.Classes.{ppe_number}
use Rattle.record.specs.Record.{device_of}
use Rattle.engine_simple.proofs.Ruled.{obeyed, passed_on}
use Rattle.engine_simple.proofs.obey.Goals as goal

pub ppe-requires : goal.ppe-requires
ppe-requires c =
    let e = c.requires.command.read in
    rw e (ppe_number c.args.frame (rw e at c.in-17.is))

pub returns-in-12 : goal.returns-in-12
unfolding choose
returns-in-12 c =
    let d = device_of c.args.rec.now in
    obeyed d _ _ c.requires.command.read 12 (lad d) c.in-12.is c.lad.ensures refl

pub returns-in-13 : goal.returns-in-13
unfolding choose
returns-in-13 c =
    let d = device_of c.args.rec.now in
    obeyed d _ _ c.requires.command.read 13 (λ o. unl d) c.in-13.is c.store.ensures refl

pub returns-in-14 : goal.returns-in-14
unfolding choose
returns-in-14 c =
    let d = device_of c.args.rec.now in
    obeyed d _ _ c.requires.command.read 14 (tad d) c.in-14.is c.tad.ensures refl

pub returns-in-15 : goal.returns-in-15
unfolding choose
returns-in-15 c =
    let d = device_of c.args.rec.now in
    obeyed d _ _ c.requires.command.read 15 (λ o. unt d) c.in-15.is c.talk.ensures refl

pub returns-in-18 : goal.returns-in-18
unfolding choose
returns-in-18 c =
    let d = device_of c.args.rec.now in
    obeyed d _ _ c.requires.command.read 18 (λ o. ifc d) c.in-18.is c.ifc.ensures refl

pub returns-in-21 : goal.returns-in-21
unfolding choose
returns-in-21 c =
    let d = device_of c.args.rec.now in
    obeyed d _ _ c.requires.command.read 21 (λ o. aau d) c.in-21.is c.aau.ensures refl

pub returns-in-19 : goal.returns-in-19
unfolding choose
returns-in-19 c =
    let d = device_of c.args.rec.now in
    obeyed d _ _ c.requires.command.read 19 (λ o. ren d) c.in-19.is c.ren.ensures refl

pub returns-in-20 : goal.returns-in-20
unfolding choose
returns-in-20 c =
    let d = device_of c.args.rec.now in
    obeyed d _ _ c.requires.command.read 20 (λ o. nre d) c.in-20.is c.nre.ensures refl

pub returns-in-8 : goal.returns-in-8
unfolding choose
returns-in-8 c =
    let d = device_of c.args.rec.now in
    obeyed d _ _ c.requires.command.read 8 (λ o. llo d) c.in-8.is c.llo.ensures refl

pub returns-in-4 : goal.returns-in-4
unfolding choose
returns-in-4 c =
    let d = device_of c.args.rec.now in
    obeyed d _ _ c.requires.command.read 4 (λ o. gtl d) c.in-4.is c.gtl.ensures refl

pub returns-in-17 : goal.returns-in-17
unfolding choose
returns-in-17 c =
    let d = device_of c.args.rec.now in
    obeyed d _ _ c.requires.command.read 17 (ppe d) c.in-17.is c.ppe.ensures refl

pub returns-in-6 : goal.returns-in-6
unfolding choose
returns-in-6 c =
    let d = device_of c.args.rec.now in
    obeyed d _ _ c.requires.command.read 6 (λ o. ppd d) c.in-6.is c.ppd.ensures refl

pub returns-in-10 : goal.returns-in-10
unfolding choose
returns-in-10 c =
    let d = device_of c.args.rec.now in
    obeyed d _ _ c.requires.command.read 10 (λ o. ppu d) c.in-10.is c.ppu.ensures refl

pub returns-in_default : goal.returns-in_default
returns-in_default c =
    passed_on (device_of c.args.rec.now) c.args.frame c.args.message c.requires.command.read
    (search rules, (search rules, (search rules, (search rules, (search rules, (search rules, (search rules, (search rules, (search rules, (search rules, (search rules, (search rules, (search rules, (search rules, (search rules, (search rules, (search rules, (search rules, (search rules, (search rules, (search rules, (search rules, (search rules, (search rules, (search rules, tt)))))))))))))))))))))))))
