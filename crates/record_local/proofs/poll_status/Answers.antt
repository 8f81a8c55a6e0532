-- Each return follows from the test on its way.
use Rattle.std.proofs.Common.{rules, arith, ℕ, ap, ◌∙◌}
use Rattle.device.specs.Change.{pollstatusing}
use Rattle.device.proofs.Arms.{arms}
use Rattle.record.specs.Record.{device_of, record_of}
use Rattle.record_local.specs.Local.{yes_or_no, sets_poll_status}
use Rattle.record_local.proofs.InPlace.{poll_status_written, left_alone, left}
use Rattle.record_local.proofs.poll_status.Goals as goal

pub returns-then-has_further : goal.returns-then-has_further
unfolding sets_poll_status
returns-then-has_further c =
    let b = c.args.rec.now in
    left b (pollstatusing (device_of b) (yes_or_no c.args.status)) (search arms)
    (poll_status_written b c.told-rec (search rules) c.yes_or_no.result
    ∙ ap (λ (x : ℕ). record_of (pollstatusing (device_of b) x)) c.yes_or_no.ensures)

pub returns : goal.returns
unfolding sets_poll_status
returns c = left_alone c.args.rec.now 7 (λ e. omega arith) (search arms)
