-- Refused as the device was found; else the call made in the record of the device that was found.
use Rattle.std.proofs.Common.{rules, sym, refl}
use Rattle.std.proofs.lemmas.Result.{err_from_is_err_and}
use Rattle.local_calls.proofs.Called.{refused, there, made_back}
use Rattle.local_calls.proofs.in_record.Goals as goal

pub returns-in_err-i : goal.returns-in_err-i
returns-in_err-i g c =
    let p = err_from_is_err_and c.from_residual.result c.from_residual.ensures.1 in
    rw (p.1, p.2)
    (λ call good makes. refused call c.args.area.now c.args.device _ (sym c.in_err-i.ensures))

pub record_start-at-requires : goal.record_start-at-requires
record_start-at-requires g c = there c.args.area.now c.args.device _ (sym c.in_ok-i.ensures)

pub returns : goal.returns
returns g c call good makes =
    made_back c.args.area.now c.args.device _ (sym c.in_ok-i.ensures) (search rules) c.record_start-at.result
    c.record_start-at.ensures call good _ c.call.new.arg2 _
    (makes _ c.call.result c.call.new.arg2
    (record { shown = _; shows = search rules; left = _; met = c.call.ensures; leaves = refl }))
    (search rules)
