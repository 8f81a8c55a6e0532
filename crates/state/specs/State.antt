-- The state of a device: the values that a frame can alter, and a device with them in place of its own.
use Rattle.std.specs.Prelude.{ℕ, ◌≡◌, List, [], ◌∷◌}
use Rattle.device.specs.Change.{Edit, ◌becomes◌, changed, address, configured, listener, talker, service, noted, sent}
use Rattle.device.specs.Change.{last, replied, remote, enabled, assigned}
use Rattle.device.specs.Sent.{Sent}
use Rattle.device.specs.declared.Device.{Device}
use Rattle.record.specs.Record.{device_of, record_of}
use Rattle.record.specs.Written.{written}
use Rattle.state.specs.declared.State.{State}
use Rattle.state.specs.declared.Passed.{Passed}

-- its values, each by its name
abbrev pub values : State → List Edit
values s =
    address becomes s.address ∷
    configured becomes s.configured ∷
    listener becomes s.listener ∷
    talker becomes s.talker ∷
    service becomes s.service ∷
    noted becomes s.noted ∷
    sent becomes s.sent ∷
    last becomes s.last ∷
    replied becomes s.replied ∷
    remote becomes s.remote ∷
    enabled becomes s.enabled ∷
    assigned becomes s.assigned ∷
    []

-- d with the state s
abbrev pub with : Device → State → Device
with d s = changed d (values s)

-- the device of a record, with the state s
abbrev pub in_record : List ℕ → State → Device
in_record b s = with (device_of b) s

-- what d does, where it passes on p
abbrev pub sent_with : Device → Passed → Sent
sent_with d p = record { device = with d p.state; frame = p.frame; handed = p.handed }

-- what the device of a record does
abbrev pub sent_from : List ℕ → Passed → Sent
sent_from b p = sent_with (device_of b) p

-- Writing a state to the record of d makes it the record of d with that state
abbrev pub WriteBack : Type 0
WriteBack = (d : Device) (s : State) → written (values s) (record_of d) ≡ record_of (with d s)
