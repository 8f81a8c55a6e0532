-- Line 1 is wrong, or its devices are refused or set up.
use Rattle.std.proofs.Common.{refl, sym, ◌∙◌}
use Rattle.text.proofs.Splices.{nothing}
use Rattle.refusal.proofs.Numbers.{told_is_err, told_is_ok}
use Rattle.lister.proofs.Doing.{did, devices, first_wrong, first_refused, first_done}
use Rattle.lister.proofs.list.first.Goals as goal

pub returns-in_default : goal.returns-in_default
returns-in_default c =
    rw (first_wrong c.args.line.now c.args.area.now c.requires.0 (sym c.loop_in.ensures ∙ c.in_default.is))
    (did c.bad_line.ensures c.last.ensures.0 c.last.ensures.1 refl)

pub returns-then-is_err : goal.returns-then-is_err
returns-then-is_err c =
    let line = c.args.line.now in
    let f = first_refused line (devices line _ (sym c.loop_in.ensures ∙ c.in-Some.is)) c.requires.0 c.set_up.ensures
    (told_is_err c.set_up.result (sym c.is_err.ensures.value ∙ c.if-is_err.true)) in
    rw f.0 (did c.bad_line-then-is_err.ensures c.last-then-is_err.ensures.0 c.last-then-is_err.ensures.1 f.1)

pub returns : goal.returns
returns c =
    let line = c.args.line.now in
    rw (first_done line (devices line _ (sym c.loop_in.ensures ∙ c.in-Some.is)) c.requires.0 c.set_up.ensures
    (told_is_ok c.set_up.result (sym c.is_err.ensures.value ∙ c.if-is_err.false)))
    (did (nothing c.args.out.now 0) refl refl refl)
