-- The 64 bytes lent are those of record i, and with them given back the area is that of the loop with the device after
-- the frame, which is sound as it was before.
use borrow.Author.Rules.{rules}
use Rattle.device.specs.Take.{takes}
use Rattle.record.specs.Fits.{Bytes}
use Rattle.keeps.proofs.Keeps.{take_keeps, last_is_data}
use Rattle.area.specs.Loop.{loop_of, device}
use Rattle.area.proofs.Areas.{loop_good}
use Rattle.area.proofs.Held.{device_lent, record_lent, device_held}
use Rattle.hop.proofs.take_at.Goals as goal

pub take_in-requires : goal.take_in-requires
take_in-requires c =
    let a = c.args.area.now in
    let i = c.args.i in
    let small : Bytes a = λ j. search rules in
    let e = device_lent a small i c.record_start-at.result c.requires c.record_start-at.ensures in (
      (record_lent a small i c.record_start-at.result c.requires c.record_start-at.ensures).long,
      rw e (last_is_data _ ((loop_good a small c.requires.judged).devices i)),
    )

pub returns-clause-passes : goal.returns-clause-passes
returns-clause-passes c =
    let a = c.args.area.now in
    let small : Bytes a = λ j. search rules in
    rw (device_lent a small c.args.i c.record_start-at.result c.requires c.record_start-at.ensures) at
    c.take_in.ensures.passes

pub returns-clause-holds : goal.returns-clause-holds
returns-clause-holds c =
    let a = c.args.area.now in
    let i = c.args.i in
    let small : Bytes a = λ j. search rules in
    let e = device_lent a small i c.record_start-at.result c.requires c.record_start-at.ensures in
    device_held a small i c.record_start-at.result c.requires c.record_start-at.ensures
    (takes (device (loop_of a) i) c.args.frame).device _
    (take_keeps _ c.args.frame ((loop_good a small c.requires.judged).devices i))
    (rw e at c.take_in.ensures.leaves)
