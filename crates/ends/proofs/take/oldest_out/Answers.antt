-- The area's refusal, then the tail's; else its oldest frame is out.
use Rattle.std.proofs.Common.{refl, sym}
use Rattle.std.proofs.lemmas.Result.{err_from_is_err_and}
use Rattle.area.specs.Loop.{loop_of}
use Rattle.calls.specs.Calls.{no_take, take_in}
use Rattle.calls.proofs.Outcomes.{judged_wrong, judged_right, take_empty, take_done}
use Rattle.ends.proofs.take.oldest_out.Goals as goal

pub returns-in_err-judge : goal.returns-in_err-judge
returns-in_err-judge c =
    let p = err_from_is_err_and c.from_residual.result c.from_residual.ensures.1 in
    rw (p.1, p.2)
    (judged_wrong no_take take_in c.args.area.now c.in_err-judge.field-0.0 _ c.in_err-judge.ensures refl)

pub returns-in_default : goal.returns-in_default
returns-in_default c =
    let a = c.args.area.now in
    judged_right no_take take_in a _ _ c.in_ok-judge.ensures
    (rw (take_empty (loop_of a) _ c.devices_in-tail.ensures.0 (sym c.in_default.ensures))
    (refl, refl))

pub returns : goal.returns
returns c =
    let a = c.args.area.now in
    judged_right no_take take_in a _ _ c.in_ok-judge.ensures
    (rw (take_done (loop_of a) _ c.devices_in-tail.ensures.0 _ (sym c.in-Some.ensures))
    (refl, c.remove_at.ensures.written))
