-- The area's refusal; else what its loop owes.
use Rattle.std.proofs.Common.{ℕ, refl, ap}
use Rattle.area.specs.Loop.{loop_of, area_of}
use Rattle.calls.specs.Outcome.{reads}
use Rattle.calls.specs.Owed.{no_owed, owed_in}
use Rattle.calls.proofs.Outcomes.{judged_wrong, judged_right}
use Rattle.owed.proofs.owed.Goals as goal

pub returns-in-Ok : goal.returns-in-Ok
returns-in-Ok c =
    let a = c.args.area.now in
    (judged_right no_owed (reads owed_in) a _ (area_of (loop_of a)) c.in-Ok.ensures
    (ap (λ (h : ℕ). record { hops = h; refusal = 0 }) c.owed_in.ensures, refl)).0

pub returns-in-Err : goal.returns-in-Err
returns-in-Err c =
    (judged_wrong no_owed (reads owed_in) c.args.area.now c.in-Err.refusal _ c.in-Err.ensures
    (ap no_owed c.number.ensures)).0
