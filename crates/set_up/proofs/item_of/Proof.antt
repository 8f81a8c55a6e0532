-- At most 14 bytes copied over 14 zeros are those bytes, and zeros behind them.
use mathlib.Core.Path.{◌∙◌}
use Rattle.device.proofs.Bytes.{padded_is}
use Rattle.area.specs.Sizes.{long_item_size}
use borrow.Author.Rules.{rules}
use Rattle.set_up.proofs.item_of.Statement.{statement}
use Rattle.set_up.proofs.item_of.Tie as tie

returns : tie.Need-returns
returns c =
    c.copy.ensures.1 ∙ padded_is c.args.bytes.now long_item_size c.requires

pub item_of_spec : {M : Type 1} → statement M
item_of_spec =
    tie.close
    (tie.spec
    (λ c. search rules)
    (λ c κs. search rules)
    returns)
