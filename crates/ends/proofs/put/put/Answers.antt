-- The area's refusal, then the frame's, then the link's; else the frame is behind those of link 0.
use Rattle.std.proofs.Common.{refl, sym}
use Rattle.std.proofs.lemmas.Result.{err_from_is_err_and}
use Rattle.area.specs.Loop.{loop_of}
use Rattle.calls.specs.Calls.{refusal, put_in}
use Rattle.calls.proofs.Outcomes.{judged_wrong, judged_right, put_bad, put_full, put_done}
use Rattle.ends.proofs.put.put.Goals as goal

pub returns-in_err-judge : goal.returns-in_err-judge
returns-in_err-judge c =
    let p = err_from_is_err_and c.from_residual.result c.from_residual.ensures.1 in
    rw (p.1, p.2)
    (judged_wrong refusal (put_in c.args.frame) c.args.area.now c.in_err-judge.field-0.0 _ c.in_err-judge.ensures refl)

pub returns-then-frame : goal.returns-then-frame
returns-then-frame c =
    let a = c.args.area.now in
    judged_right refusal (put_in c.args.frame) a _ _ c.in_ok-judge.ensures
    (rw (put_bad c.args.frame (loop_of a) c.if-frame.true) (refl, refl))

pub returns-in_default : goal.returns-in_default
returns-in_default c =
    let a = c.args.area.now in
    judged_right refusal (put_in c.args.frame) a _ _ c.in_ok-judge.ensures
    (rw (put_full c.args.frame (loop_of a) c.if-frame.false (sym c.in_default.ensures))
    (refl, refl))

pub returns : goal.returns
returns c =
    let a = c.args.area.now in
    judged_right refusal (put_in c.args.frame) a _ _ c.in_ok-judge.ensures
    (rw (put_done c.args.frame (loop_of a) _ c.if-frame.false (sym c.in-Some.ensures))
    (refl, c.add_at.ensures.written))
