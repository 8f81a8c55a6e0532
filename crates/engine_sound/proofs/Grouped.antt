-- The clauses in groups are all the clauses, since joined tests may be joined in any groups.
use Prim.Native.Nat.{ℕ}
use mathlib.Core.Path.{◌≡◌}
use mathlib.Core.Bool.{Bool, ◌&&◌, and_assoc}
use mathlib.Core.List.{List}
use Rattle.record.specs.Record.{device_of}
use Rattle.record.specs.Sound.{in_range, zero_past, service_with_status, unaddress_with_both, unconfigured_fixed}
use Rattle.record.specs.Sound.{variant_right, listener_able, service_able, sending_able, addressed_able, data_able}
use Rattle.record.specs.Sound.{sent_within, replied_right, quiet_outside, last_below, poll_right, sound_device, sound_record}
use Rattle.engine_sound.specs.Groups.{place_right, doing_right}

regrouped : (a b c d e f g h i j k l m n o p : Bool) →
    (a && (b && (c && (d && (e && (f && (g && (h && (i && (j && (k && (l && (m && (n && (o && p))))))))))))))) ≡
    (a && (b && (((c && d) && (e && f)) && ((g && h) && ((i && (j && (k && (l && (m && (n && o)))))) && p)))))
regrouped a b c d e f g h i j k l m n o p = simp and_assoc

pub grouped : (b : List ℕ) →
    let d = device_of b in sound_record b ≡ (in_range d && (zero_past d && (place_right d && doing_right d)))
unfolding sound_record sound_device
grouped b =
    let d = device_of b in
    regrouped (in_range d) (zero_past d) (service_with_status d) (unaddress_with_both d) (unconfigured_fixed d)
    (variant_right d) (listener_able d) (service_able d) (sending_able d) (addressed_able d) (data_able d) (sent_within d)
    (replied_right d) (quiet_outside d) (last_below d) (poll_right d)
