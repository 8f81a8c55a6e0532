-- The local calls of a device (01, The calls; 02, d, f and h), refused with 2, 7, 8, 9 in that order.
use Rattle.std.specs.Prelude.{ℕ, List, eqb, ltb, length}
use Rattle.device.specs.Choose.{choose}
use Rattle.device.specs.Device.{send_data, status, service_request, sending_data, no_service, asking, is_choice, most_data}
use Rattle.device.specs.Device.{parallel_poll, has, has_further}
use Rattle.device.specs.Change.{serving, loading, statusing, pollstatusing}
use Rattle.device.specs.Remote.{key}
use Rattle.device.specs.declared.Device.{Device}

-- what a local call leaves: refusal 0 and the next device, or a refusal and the device as it was
pub record Called : Type 0 where
  pub refusal : ℕ
  pub device : Device

-- refusals: a choice other than 0 or 1, by the number of what is not sound; no ability, too long, busy
abbrev pub bad_choice : ℕ
bad_choice = 2

abbrev pub no_ability : ℕ
no_ability = 7

abbrev pub too_long : ℕ
too_long = 8

abbrev pub busy : ℕ
busy = 9

abbrev pub accepted : Device → Called
accepted d = record { refusal = 0; device = d }

abbrev pub refused : ℕ → Device → Called
refused k d = record { refusal = k; device = d }

-- load: 0 to 32 bytes of data, of which none is sent, and the choice how the last of them goes out; any other number is
-- refused here, and in an area before the device is looked for (calls' load_in)
unfoldable pub loads : Device → List ℕ → ℕ → Called
loads d bs e =
    choose (is_choice e)
    (choose (has d send_data)
    (choose (ltb most_data (length bs)) (refused too_long d)
    (choose (eqb d.talker sending_data) (refused busy d)
    (accepted (loading d bs e))))
    (refused no_ability d))
    (refused bad_choice d)

-- status s
unfoldable pub sets_status : Device → ℕ → Called
sets_status d s = choose (has d status) (accepted (statusing d s)) (refused no_ability d)

-- a wish for service: 0 is no and gives 0; any other number is yes, turns 0 into 1 and keeps 1 and 2
unfoldable pub wishing : Device → ℕ → Device
wishing d w = choose (eqb w 0) (serving d no_service) (choose (eqb d.service no_service) (serving d asking) d)

unfoldable pub wishes : Device → ℕ → Called
wishes d w = choose (has d service_request) (accepted (wishing d w)) (refused no_ability d)

-- the panel key is pressed: never refused by the device (02, d)
abbrev pub presses : Device → Called
presses d = accepted (key d)

-- poll status: 0 is no, any other number yes (02, f)
unfoldable pub yes_or_no : ℕ → ℕ
yes_or_no s = choose (eqb s 0) 0 1

unfoldable pub sets_poll_status : Device → ℕ → Called
sets_poll_status d s =
    choose (has_further d parallel_poll) (accepted (pollstatusing d (yes_or_no s))) (refused no_ability d)
