-- The lengths' refusal, then the items'; else the area of the devices at power-on.
use mathlib.Core.Path.{refl, sym, ◌∙◌}
use borrow.Author.Tests.{not-true, not-false}
use Rattle.area.specs.Sizes.{most_devices}
use Rattle.calls.proofs.Powered.{items_fit_lem, set_shape, set_unsound, set_done}
use borrow.Author.Rules.{rules}
use Rattle.set_up.proofs.set_up.Statement.{statement}
use Rattle.set_up.proofs.set_up.Tie as tie

returns-then-not-items_fit : tie.Need-returns-then-not-items_fit
returns-then-not-items_fit c =
    rw (set_shape c.args.area.now c.args.items.now _ c.devices_for-n.ensures
    (sym c.items_fit.ensures ∙ not-true _ c.if-not-items_fit.true-raw)) (refl, refl)

items_allowed-requires : tie.Need-items_allowed-requires
items_allowed-requires c κs =
    let p = items_fit_lem most_devices c.devices_for-n.result c.args.area.now c.args.items.now
    (sym c.items_fit.ensures ∙ not-false _ c.if-not-items_fit.false-raw) in
    (p.few, p.items)

returns-then-not-items_allowed : tie.Need-returns-then-not-items_allowed
returns-then-not-items_allowed c =
    rw (set_unsound c.args.area.now c.args.items.now _ c.devices_for-n.ensures
    (sym c.items_fit.ensures ∙ not-false _ c.if-not-items_fit.false-raw)
    (sym c.items_allowed.ensures ∙ not-true _ c.if-not-items_allowed.true-raw)) (refl, refl)

power_on-requires : tie.Need-power_on-requires
power_on-requires c κs =
    record {
      fit = items_fit_lem most_devices c.devices_for-n.result c.args.area.now c.args.items.now
          (sym c.items_fit.ensures ∙ not-false _ c.if-not-items_fit.false-raw);
      each = sym c.items_allowed.ensures ∙ not-false _
          c.if-not-items_allowed.false-raw;
    }

returns : tie.Need-returns
returns c =
    rw (set_done c.args.area.now c.args.items.now _ c.devices_for-n.ensures
    (sym c.items_fit.ensures ∙ not-false _ c.if-not-items_fit.false-raw)
    (sym c.items_allowed.ensures ∙ not-false _ c.if-not-items_allowed.false-raw)) (refl, c.power_on.ensures.written)

pub set_up_spec : {M : Type 1} → statement M
set_up_spec =
    tie.close
    (tie.spec
    (λ c κs. search rules)
    (λ c κs. search rules)
    (λ c. search rules)
    returns-then-not-items_fit
    items_allowed-requires
    (λ c. search rules)
    returns-then-not-items_allowed
    power_on-requires
    (λ c. search rules)
    returns)
