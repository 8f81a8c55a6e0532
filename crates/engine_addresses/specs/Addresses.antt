-- The clauses on addresses for each variant.
use Rattle.std.specs.Prelude.{Bool, ◌&&◌}
use Rattle.device.specs.declared.Device.{Device}
use Rattle.record.specs.Sound.{unconfigured_fixed, simple_right, extended_right}

abbrev pub simple_at : Device → Bool
simple_at d = unconfigured_fixed d && simple_right d

abbrev pub extended_at : Device → Bool
extended_at d = unconfigured_fixed d && extended_right d
