-- The area's refusal; else the drain of its loop.
use Rattle.calls.specs.Drain.{no_drain, drain_in}
use Rattle.calls.proofs.Outcomes.{judged_wrong, judged_right}
use Rattle.drain.proofs.drain.Goals as goal

pub returns-in-Ok : goal.returns-in-Ok
returns-in-Ok c =
    judged_right no_drain (drain_in c.args.budget) c.args.area.now _ _ c.in-Ok.ensures c.drain_in.ensures

pub returns-in-Err : goal.returns-in-Err
returns-in-Err c =
    judged_wrong no_drain (drain_in c.args.budget) c.args.area.now c.in-Err.refusal _ c.in-Err.ensures c.no_drain.ensures
