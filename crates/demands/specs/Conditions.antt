-- The conditions of 01's refusal table, each a test of a call and an area, written from the table row by row, with what
-- 02 adds: g to the fourth, a to the first two and a tenth, d (by what is sound) and h to the second, h to the tenth;
-- f to the first, the second (by what is sound and what is allowed), the fourth and the seventh; i to the first two; l
-- to the first two and the fourth.
use Rattle.std.specs.Prelude.{ℕ, zero, suc, ◌-◌, ◌*◌, List, [], ◌∷◌, Bool, false, not, cond, ◌&&◌, ◌||◌, length, get_or, eqb, ltb, leb}
use Rattle.frame.specs.Messages.{frames, first_of}
use Rattle.frame.specs.Decoding.{idy, has_c1, offsets_of}
use Rattle.device.specs.Device.{send_data, status as sendStatus, service_request, parallel_poll, sending_data, most_data}
use Rattle.device.specs.Device.{has, has_further}
use Rattle.device.specs.Change.{choice}
use Rattle.device.specs.PowerOn.{bytes_from}
use Rattle.device.specs.declared.Device.{Device}
use Rattle.record.specs.Record.{zeros}
use Rattle.record.specs.Sound.{allowed, sound_record}
use Rattle.area.specs.Sizes.{header_size, depth, most_devices, item_size, poll_item_size, long_item_size, record_at, area_size}
use Rattle.area.specs.Parts.{parts, all}
use Rattle.area.specs.Loop.{count_in, records_in, loop_of, sound, device, link}
use Rattle.saved.specs.Saved.{body, saved_size, saved_count, edition, saved_devices, formed, contents}
use Rattle.walk.specs.Walk.{told_size}
use Rattle.demands.specs.Calls.{Byte, numbers, Local, load, status, wish, key, poll_status, Action, put, hop}
use Rattle.demands.specs.Calls.{take, local, drain, owes, save, decode, encode, poll_count, Call, on_area, set_up}
use Rattle.demands.specs.Calls.{opens, on_frame, walk}

-- the number of devices, n at most, whose bytes are so many; 0 if there is none
abbrev pub devices_up_to : (ℕ → ℕ) → ℕ → ℕ → ℕ
devices_up_to bytes zero size = 0
devices_up_to bytes (suc n) size = cond (eqb size (bytes (suc n))) (suc n) (devices_up_to bytes n size)

-- that of an area's length, and of the length of header and records
abbrev pub devices_at : ℕ → ℕ
devices_at size = devices_up_to area_size most_devices size

abbrev pub devices_walked : ℕ → ℕ
devices_walked size = devices_up_to record_at most_devices size

-- the output of a save isn't exactly of the saved length
abbrev pub bad_output : Action → List ℕ → Bool
bad_output (put f) a = false
bad_output (hop i) a = false
bad_output take a = false
bad_output (local i c) a = false
bad_output (drain b) a = false
bad_output owes a = false
bad_output (save out) a = not (eqb (length (numbers out)) (saved_size (count_in a)))

-- so many bytes are not 12n, 13n or 14n (02, f and i)
abbrev pub bad_items : (bytes n : ℕ) → Bool
bad_items bytes n = not (eqb bytes (item_size * n) || (eqb bytes (poll_item_size * n) || eqb bytes (long_item_size * n)))

-- bytes of each item: 14 where there are 14n, 13 where there are 13n, and else 12
abbrev pub item_length : (bytes n : ℕ) → ℕ
item_length bytes n =
    cond (eqb bytes (long_item_size * n)) long_item_size (cond (eqb bytes (poll_item_size * n)) poll_item_size item_size)

-- the items
abbrev pub items_in : ℕ → List ℕ → List (List ℕ)
items_in n items = parts (item_length (length items) n) n items

-- a walk's length is bad: told's isn't 4 bytes a device, or the records' isn't 8 + 64n for an n from 1 to most_devices,
-- or not byte 0's
abbrev pub bad_walk : (records told : List ℕ) → Bool
bad_walk records told =
    not (eqb (length told) (told_size * count_in records)) ||
    (eqb (devices_walked (length records)) 0 || not (eqb (length records) (record_at (count_in records))))

-- 1, Shape: the area's length isn't a loop's, or not byte 0's, or a save's output is wrong; at set up the items' length
-- isn't 12n, 13n or 14n, n by the area's; at an opening the area's isn't the saved loop's; at a walk a length is bad
abbrev pub Shape : Call → List ℕ → Bool
Shape (on_area c) a =
    bad_output c a || (eqb (devices_at (length a)) 0 || not (eqb (length a) (area_size (count_in a))))
Shape (set_up items) a = eqb (devices_at (length a)) 0 || bad_items (length (numbers items)) (devices_at (length a))
Shape (opens s) a = not (eqb (length a) (area_size (saved_count (numbers s))))
Shape (on_frame c) a = false
Shape (walk f t) a = bad_walk a (numbers t)

-- a load's condition, and no other local call's
abbrev pub of_load : (List Byte → ℕ → Bool) → Local → Bool
of_load test (load bs e) = test bs e
of_load test (status s) = false
of_load test (wish w) = false
of_load test key = false
of_load test (poll_status s) = false

-- the choice of a load is neither 0 nor 1
abbrev pub no_choice : Action → Bool
no_choice (put f) = false
no_choice (hop i) = false
no_choice take = false
no_choice (local i c) = of_load (λ bs e. ltb 1 e) c
no_choice (drain b) = false
no_choice owes = false
no_choice (save out) = false

-- the save is old, with 0 in kind 1's byte 1, and in a record byte 19 is not zero
abbrev pub old_with_choice : List ℕ → Bool
old_with_choice s = eqb (edition s) 0 && not (all (λ r. eqb (get_or (body r) choice 0) 0) (saved_devices s))

-- 2, Unsound: the contents aren't sound, or a load's choice isn't one; at set up an item isn't allowed, at an opening
-- what was saved isn't sound, and the contents aren't looked at; at a walk the header or a record isn't sound
abbrev pub Unsound : Call → List ℕ → Bool
Unsound (on_area c) a = no_choice c || not (sound a)
Unsound (set_up items) a = not (all allowed (items_in (devices_at (length a)) (numbers items)))
Unsound (opens s) a = not (sound (contents (numbers s))) || old_with_choice (numbers s)
Unsound (on_frame c) a = false
Unsound (walk f t) a = not (zeros (bytes_from 1 (header_size - 1) a)) || not (all sound_record (records_in a))

-- 3, NoDevice: the device number is n or more
abbrev pub NoDevice : Action → List ℕ → Bool
NoDevice (put f) a = false
NoDevice (hop i) a = leb (count_in a) i
NoDevice take a = false
NoDevice (local i c) a = leb (count_in a) i
NoDevice (drain b) a = false
NoDevice owes a = false
NoDevice (save out) a = false

-- a C1 that is not 0 or 1, or 1 on a kind without one
abbrev pub bad_c1 : ℕ → ℕ → Bool
bad_c1 k c = ltb 1 c || (eqb c 1 && not (has_c1 k))

-- 4, BadFrame: a frame over 2,047 at put, walk or decoder; at the encoder a kind or an offset outside the list, or such
-- a C1; at the count of a poll anything but an IDY, 600 to 7ff
abbrev pub BadFrame : Call → Bool
BadFrame (on_area (put f)) = leb frames f
BadFrame (on_area (hop i)) = false
BadFrame (on_area take) = false
BadFrame (on_area (local i c)) = false
BadFrame (on_area (drain b)) = false
BadFrame (on_area owes) = false
BadFrame (on_area (save out)) = false
BadFrame (set_up items) = false
BadFrame (opens s) = false
BadFrame (on_frame (decode f)) = leb frames f
BadFrame (on_frame (encode k o c)) = leb (offsets_of k) o || bad_c1 k c
BadFrame (on_frame (poll_count f)) = ltb f (first_of idy) || leb frames f
BadFrame (walk f t) = leb frames f

-- link j holds no frame; it holds four
abbrev pub holds_none : ℕ → List ℕ → Bool
holds_none j a = eqb (length (link (loop_of a) j)) 0

abbrev pub holds_four : ℕ → List ℕ → Bool
holds_four j a = leb depth (length (link (loop_of a) j))

-- 5, Empty: the link to take from holds none
abbrev pub Empty : Action → List ℕ → Bool
Empty (put f) a = false
Empty (hop i) a = holds_none i a
Empty take a = holds_none (count_in a) a
Empty (local i c) a = false
Empty (drain b) a = false
Empty owes a = false
Empty (save out) a = false

-- 6, Full: the link to add to holds four
abbrev pub Full : Action → List ℕ → Bool
Full (put f) a = holds_four 0 a
Full (hop i) a = holds_four (suc i) a
Full take a = false
Full (local i c) a = false
Full (drain b) a = false
Full owes a = false
Full (save out) a = false

-- a device lacks the ability that a local call asks for: load without 2, status without 4, wish without 128, poll
-- status without 1 of byte 7
abbrev pub lacks : Local → Device → Bool
lacks (load bs e) d = not (has d send_data)
lacks (status s) d = not (has d sendStatus)
lacks (wish w) d = not (has d service_request)
lacks key d = false
lacks (poll_status s) d = not (has_further d parallel_poll)

-- 7, NoAbility: the device lacks the ability that the local call asks for
abbrev pub NoAbility : Action → List ℕ → Bool
NoAbility (put f) a = false
NoAbility (hop i) a = false
NoAbility take a = false
NoAbility (local i c) a = lacks c (device (loop_of a) i)
NoAbility (drain b) a = false
NoAbility owes a = false
NoAbility (save out) a = false

-- 8, TooLong: load over 32 bytes
abbrev pub TooLong : Action → Bool
TooLong (put f) = false
TooLong (hop i) = false
TooLong take = false
TooLong (local i c) = of_load (λ bs e. ltb most_data (length (numbers bs))) c
TooLong (drain b) = false
TooLong owes = false
TooLong (save out) = false

-- 9, Busy: load in talker state 2
abbrev pub Busy : Action → List ℕ → Bool
Busy (put f) a = false
Busy (hop i) a = false
Busy take a = false
Busy (local i c) a = of_load (λ bs e. eqb (device (loop_of a) i).talker sending_data) c
Busy (drain b) a = false
Busy owes a = false
Busy (save out) a = false

-- 10, BadSave: what is to be opened isn't in the form of a save of 1 to most_devices devices, with 0 or 1 in kind 1's
-- byte 1
abbrev pub BadSave : Call → Bool
BadSave (on_area c) = false
BadSave (set_up items) = false
BadSave (opens s) = not (formed most_devices (numbers s))
BadSave (on_frame c) = false
BadSave (walk f t) = false

-- an action's condition, and no other call's
abbrev pub of_action : (Action → List ℕ → Bool) → Call → List ℕ → Bool
of_action test (on_area c) a = test c a
of_action test (set_up items) a = false
of_action test (opens s) a = false
of_action test (on_frame c) a = false
of_action test (walk f t) a = false

-- a row of the table: a refusal's number, and whether its condition holds
pub record Row : Type 0 where
  pub number : ℕ
  pub holds : Bool

abbrev pub row : ℕ → Bool → Row
row k test = record { number = k; holds = test }

-- the table, in the order of the numbers, but 10 first: 02, a, asks for it before the others, and no call but an
-- opening has it
abbrev pub table : Call → List ℕ → List Row
table c a =
    row 10 (BadSave c) ∷
    row 1 (Shape c a) ∷
    row 2 (Unsound c a) ∷
    row 3 (of_action NoDevice c a) ∷
    row 4 (BadFrame c) ∷
    row 5 (of_action Empty c a) ∷
    row 6 (of_action Full c a) ∷
    row 7 (of_action NoAbility c a) ∷
    row 8 (of_action (λ d x. TooLong d) c a) ∷
    row 9 (of_action Busy c a) ∷
    []

-- the number of the first row whose condition holds; 0 if none does
abbrev pub first_holding : List Row → ℕ
first_holding [] = 0
first_holding (r ∷ rs) = cond r.holds r.number (first_holding rs)

-- the refusal that is due
abbrev pub due : Call → List ℕ → ℕ
due c a = first_holding (table c a)
