-- Refused for its choice, or else the call made in the record is the device's.
use Rattle.std.proofs.Common.{rules, refl}
use borrow.Author.Tests.{le-leb, lt-leb}
use Rattle.record_local.specs.Local.{loads}
use Rattle.keeps.proofs.Keeps.{load_good}
use Rattle.calls.proofs.Outcomes.{load_chosen, load_unchosen}
use Rattle.local_calls.proofs.load.Goals as goal

pub returns-then-end : goal.returns-then-end
returns-then-end c =
    rw (load_unchosen c.args.area.now c.args.device c.args.bytes.now c.args.end (lt-leb _ _ c.if-end.true))
    (c.no_choice.ensures, refl)

pub returns : goal.returns
returns c =
    rw (load_chosen c.args.area.now c.args.device c.args.bytes.now c.args.end (le-leb _ _ c.if-end.false))
    (c.in_record.ensures (λ d. loads d c.args.bytes.now c.args.end)
    (λ d g. load_good d c.args.bytes.now c.args.end (λ j. (c.type_inv.bytes j).fits) g)
    (λ b r x m. search rules))
