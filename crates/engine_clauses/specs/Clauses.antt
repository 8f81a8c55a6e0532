-- The clauses on listener and service, which the plain engine tests together.
use Rattle.std.specs.Prelude.{Bool, ◌&&◌}
use Rattle.device.specs.declared.Device.{Device}
use Rattle.record.specs.Sound.{listener_able, service_able}

abbrev pub roles_right : Device → Bool
roles_right d = listener_able d && service_able d
