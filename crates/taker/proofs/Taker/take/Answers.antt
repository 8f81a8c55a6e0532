-- Each class of frames is taken by the rules of the device's variant, and put back.
use mathlib.Core.Path.{sym, ◌∙◌}
use borrow.Author.Rules.{rules}
use Rattle.device.specs.Device.{extended, has_further}
use Rattle.device.proofs.Classes.{past_frames}
use Rattle.device.proofs.ExtendedSentences.{own as extended-own}
use Rattle.record.specs.Record.{device_of}
use Rattle.record.proofs.Both.{left, right}
use Rattle.record.proofs.Whole.{record_is}
use Rattle.extended.proofs.Begun.{begun}
use Rattle.taker.proofs.InPlace.{put_in}
use Rattle.taker.proofs.Taker.take.Goals as goal

pub returns-then-frame-lt-COMMANDS : goal.returns-then-frame-lt-COMMANDS
returns-then-frame-lt-COMMANDS c =
    let b = c.args.rec.now in
    put_in b _ c.data_or_end.result _ _
    (record { is = c.data_or_end.ensures; bytes = record_is b c.told-rec c.fits-rec })
    c.put_back.ensures.0 c.put_back.ensures.1

pub own-requires : goal.own-requires
own-requires c =
    let x = has_further (device_of c.args.rec.now) extended in
    (search rules, search rules, right x _ (sym c.owns.ensures ∙ c.if-owns.true))

pub returns-then-owns : goal.returns-then-owns
returns-then-owns c =
    let o = c.own.ensures in
    let x = left (has_further (device_of c.args.rec.now) extended) _
    (sym c.owns.ensures ∙ c.if-owns.true) in
    put_in _ _ c.own.result _ _ (record { is = o.is ∙ sym (extended-own _ _ x); bytes = o.bytes })
    c.put_back-then-owns.ensures.0 c.put_back-then-owns.ensures.1

pub returns-then-frame-lt-READY : goal.returns-then-frame-lt-READY
returns-then-frame-lt-READY c =
    put_in _ _ c.command.result _ _
    (begun c.args.rec.now c.args.frame c.heed.ensures _ c.command.result
    (sym c.owns.ensures ∙ c.if-owns.false) c.command.ensures)
    c.put_back-then-frame-lt-READY.ensures.0 c.put_back-then-frame-lt-READY.ensures.1

pub returns-then-frame-lt-IDENTIFY : goal.returns-then-frame-lt-IDENTIFY
returns-then-frame-lt-IDENTIFY c =
    put_in _ _ c.ready.result _ _
    (begun c.args.rec.now c.args.frame c.heed.ensures _ c.ready.result
    (sym c.owns.ensures ∙ c.if-owns.false) c.ready.ensures)
    c.put_back-then-frame-lt-IDENTIFY.ensures.0 c.put_back-then-frame-lt-IDENTIFY.ensures.1

pub returns-then-frame : goal.returns-then-frame
returns-then-frame c =
    let b = c.args.rec.now in
    put_in b _ c.identify.result _ _
    (record { is = c.identify.ensures; bytes = record_is b c.told-rec c.fits-rec })
    c.put_back-then-frame.ensures.0 c.put_back-then-frame.ensures.1

pub returns : goal.returns
returns c =
    let b = c.args.rec.now in
    put_in b _ c.sends.result _ _
    (record {
      is = c.sends.ensures (device_of b) ∙ sym (past_frames _ c.args.frame (search rules));
      bytes = record_is b c.told-rec c.fits-rec;
    })
    c.put_back-2.ensures.0 c.put_back-2.ensures.1
