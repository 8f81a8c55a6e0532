-- At power-on only the item's values are left to test.
use Rattle.std.proofs.Common.{rules, refl}
use Rattle.device.specs.PowerOn.{power_on}
use Rattle.device.proofs.Bytes.{take_bytes}
use Rattle.record.specs.Sound.{allowed}
use Rattle.sound.proofs.Groups.{at_power_on}
use Rattle.sound.proofs.item_allowed.Goals as goal

pub returns : goal.returns
unfolding allowed power_on
returns c =
    let item = c.args.item.now in
    rw (
      c.variant_allowed.ensures,
      c.abilities_allowed.ensures (power_on item) refl,
      c.zero_past_length.ensures,
      take_bytes 8 4 item (search rules),
    )
    (at_power_on item)
