-- The zeros behind it decide nothing.
use mathlib.Core.Path.{ap, ◌∙◌}
use Rattle.record.specs.Sound.{allowed}
use Rattle.calls.proofs.Powered.{padded_allowed}
use Rattle.set_up.proofs.item_allowed.Goals as goal

pub returns : goal.returns
returns c = c.item_allowed.ensures ∙ ap allowed c.item_of.ensures ∙ padded_allowed c.args.item.now
