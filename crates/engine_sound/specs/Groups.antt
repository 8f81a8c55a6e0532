-- The clauses of a sound record in the two groups that the plain engine tests behind ranges and zeros, in 01's order.
use Rattle.std.specs.Prelude.{Bool, ◌&&◌}
use Rattle.device.specs.declared.Device.{Device}
use Rattle.record.specs.Sound.{poll_right, abilities_allowed, address_right, talker_right}
use Rattle.engine_clauses.specs.Clauses.{roles_right}

-- what a device is able to do, and where it is found
abbrev pub place_right : Device → Bool
place_right d = abilities_allowed d && address_right d

-- what it does now
abbrev pub doing_right : Device → Bool
doing_right d = roles_right d && (talker_right d && poll_right d)
