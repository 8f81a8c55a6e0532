-- The laws of specs/Laws.antt. Head, ID and data stand at fixed places, so that each field is read where it was
-- written, and no byte of a record is in none of them.
use mathlib.Core.Path.{◌≡◌, refl, sym, ap, ◌∙◌}
use mathlib.Core.List.{List, [], ◌++◌}
use mathlib.Core.Bool.{true, false, not, ◌&&◌, and-true}
use lib.Dec.{eqb, leb}
use Prim.Native.Nat.{ℕ, ◌+◌, ◌*◌, ◌/◌, ◌%◌, ◌≤◌, ◌<◌}
use native.Mathlib.Omega.{arith}
use lib.ListN.{length, get_or, take, drop, length-drop, length-replicate, take-append-drop}
use lib.Seq.{drop-drop, take_all}
use borrow.Author.Tests.{eqb-true, not-true, le-leb, lt-ltb}
use Rattle.device.specs.Device.{parallel_poll, extended, no_address, most_id, most_data, has_further}
use Rattle.device.specs.Poll.{unassigned}
use Rattle.device.specs.PowerOn.{bytes_from, power_on}
use Rattle.device.specs.declared.Device.{Device}
use Rattle.device.proofs.Bytes.{bytes_wide, bytes_all, take_bytes}
use Rattle.record.specs.Record.{head_of, device_of, record_of, zeros}
use Rattle.record.specs.Sound.{only, simple_right, extended_right, variant_right, poll_right, sound_device}
use Rattle.record.specs.Sound.{sound_record}
use Rattle.record.specs.Sound.{allowed}
use Rattle.record.specs.Fits.{Bytes, Fits, Good}
use Rattle.record.specs.Laws.{RecordWide, ReadWritten, WriteRead, WriteSound, ReadSound, GoodBytes, PowerOnSound}
use Rattle.record.specs.Laws.{AnyRemote, AnyPoll, NoPoll, Variants, AnyHalf}
use Rattle.record.proofs.Both.{left, right}
use Rattle.record.proofs.Variants.{simply_of, doubly_of}
use Rattle.record.proofs.Bytes.{small_bytes, zeros_small, bytes_small, bytes_append}

pub record_wide : RecordWide
unfolding record_of bytes_from
record_wide d = refl

-- the bytes of a little-endian number, and the number of its bytes
low_of : (lo hi : ℕ) → lo < 256 → (lo + 256 * hi) % 256 ≡ lo
low_of lo hi h = omega arith

high_of : (lo hi : ℕ) → lo < 256 → (lo + 256 * hi) / 256 ≡ hi
high_of lo hi h = omega arith

whole : (f : ℕ) → f % 256 + 256 * (f / 256) ≡ f
whole f = omega arith

-- ID and data are as long as their places
pub read_again : (d : Device) → length d.id ≡ most_id → length d.load ≡ most_data → device_of (record_of d) ≡ d
unfolding record_of device_of bytes_from
read_again d idsize loadsize =
    λ i. record {
      abilities = d.abilities;
      fixed = d.fixed;
      address = d.address;
      configured = d.configured;
      listener = d.listener;
      talker = d.talker;
      service = d.service;
      further = d.further;
      noted = d.noted;
      status = d.status;
      accessory = d.accessory;
      idlength = d.idlength;
      loadlength = d.loadlength;
      sent = d.sent;
      last = whole d.last i;
      replied = d.replied;
      remote = d.remote;
      enabled = d.enabled;
      choice = d.choice;
      fixedsecond = d.fixedsecond;
      second = d.second;
      assigned = d.assigned;
      pollstatus = d.pollstatus;
      id = sym (bytes_all most_id d.id idsize) i;
      load = sym (bytes_all most_data d.load loadsize) i;
    }

pub record_again : ReadWritten
record_again d f = read_again d f.idsize f.loadsize

pub read_sizes : (b : List ℕ) → (length (device_of b).id ≡ most_id) × (length (device_of b).load ≡ most_data)
unfolding device_of
read_sizes b = (bytes_wide 24 most_id b, bytes_wide 32 most_data b)

device_sound : (b : List ℕ) → sound_record b ≡ true → sound_device (device_of b) ≡ true
unfolding sound_record
device_sound b h = h

three : (b : List ℕ) → length b ≡ 64 → take 24 b ++ (take 8 (drop 24 b) ++ take 32 (drop 32 b)) ≡ b
three b len =
    rw (
      ← (drop-drop 8 24 b),
      take_all 32 (drop 8 (drop 24 b)) (simp (length-drop, len) (omega arith)),
      take-append-drop,
      take-append-drop,
    )

head_back : (b : List ℕ) → length b ≡ 64 → Bytes b → head_of (device_of b) ≡ take 24 (drop 0 b)
unfolding device_of bytes_from
head_back b len small =
    let lo = low_of (get_or b 14 0) (get_or b 15 0) (small 14) in
    let hi = high_of (get_or b 14 0) (get_or b 15 0) (small 14) in
    let e : head_of (device_of b) ≡ bytes_from 0 24 b = simp (lo, hi) in
    e ∙ sym (take_bytes 24 0 b (omega arith))

-- a stretch of the record, read and written
stretch_back : (b : List ℕ) (k n : ℕ) → k + n ≤ length b → bytes_from 0 n (bytes_from k n b) ≡ take n (drop k b)
stretch_back b k n h = sym (bytes_all n (bytes_from k n b) (bytes_wide k n b)) ∙ sym (take_bytes n k b h)

pub record_back : WriteRead
unfolding record_of device_of
record_back b len small =
    rw (stretch_back b 24 8 (omega arith), stretch_back b 32 32 (omega arith))
    (ap (λ (x : List ℕ). x ++ (take 8 (drop 24 b) ++ take 32 (drop 32 b))) (head_back b len small) ∙ three b len)

pub record_sound : WriteSound
unfolding sound_record
record_sound d f s = rw (record_again d f) s

read_fits : (b : List ℕ) → Bytes b → Fits (device_of b)
unfolding device_of
read_fits b h =
    record {
      abilities = h 0;
      fixed = h 1;
      address = h 2;
      configured = h 3;
      listener = h 4;
      talker = h 5;
      service = h 6;
      further = h 7;
      noted = h 8;
      status = h 9;
      accessory = h 10;
      idlength = h 11;
      loadlength = h 12;
      sent = h 13;
      last = omega (arith, h 14, h 15);
      replied = h 16;
      remote = h 17;
      enabled = h 18;
      choice = h 19;
      fixedsecond = h 20;
      second = h 21;
      assigned = h 22;
      pollstatus = h 23;
      id = bytes_small b 24 most_id h;
      load = bytes_small b 32 most_data h;
      idsize = bytes_wide 24 most_id b;
      loadsize = bytes_wide 32 most_data b;
    }

pub read_good : ReadSound
read_good b h s = record { fits = read_fits b h; sound = device_sound b s }

-- a device all zero
pub blank_good : Good (device_of [])
unfolding device_of sound_device bytes_from zeros
blank_good = record { fits = read_fits [] (λ i. omega arith); sound = refl }

pub any_remote : AnyRemote
unfolding sound_device
any_remote d s f h k = rw (le-leb _ _ h, le-leb _ _ k)

pub any_poll : AnyPoll
unfolding sound_device
any_poll d x s f h k = rw (f, h, le-leb _ _ k)

-- the clause on poll, of a sound device, and what it says of one without the ability
sound_poll : (d : Device) → sound_device d ≡ true → poll_right d ≡ true
unfolding sound_device
sound_poll d h = search (left, right) depth 24

poll_zero : (d : Device) → poll_right d ≡ true → has_further d parallel_poll ≡ false →
    (d.assigned ≡ unassigned) × (d.pollstatus ≡ 0)
poll_zero d h n =
    let o : only (not (has_further d parallel_poll)) (eqb d.assigned unassigned && eqb d.pollstatus 0) ≡ true =
    search (left, right) in
    let z : (eqb d.assigned unassigned && eqb d.pollstatus 0) ≡ true = rw n at o in
    let a = eqb d.assigned unassigned in
    let s = eqb d.pollstatus 0 in
    (eqb-true d.assigned unassigned (left a s z), eqb-true d.pollstatus 0 (right a s z))

-- the clause on a device's variant, of a sound one
sound_variant : (d : Device) → sound_device d ≡ true → variant_right d ≡ true
unfolding sound_device
sound_variant d h = search (left, right) depth 24

simple_right_lem : (d : Device) → has_further d extended ≡ false → variant_right d ≡ true → simple_right d ≡ true
simple_right_lem d e h = rw e at h

extended_right_lem : (d : Device) → has_further d extended ≡ true → variant_right d ≡ true → extended_right d ≡ true
extended_right_lem d e h = rw e at h

pub variants : Variants
variants =
    record {
      simple = λ d h e. let z = simply_of d (simple_right_lem d e (sound_variant d h)) in
          (z.fixedsecond, z.second, z.configured);
      as_before = λ d e x y c. rw (e, x, y, le-leb d.configured 1 c) (simp and-true);
      no_auto_address = λ d h e. not-true _ (doubly_of d (extended_right_lem d e (sound_variant d h))).unable;
    }

pub any_half : AnyHalf
unfolding sound_device
any_half d a x y e h i j = rw (e, le-leb _ _ h, lt-ltb _ _ i, lt-ltb _ _ j)

pub no_poll : NoPoll
no_poll =
    record {
      zeros_only = λ d h n. poll_zero d (sound_poll d h) n;
      zeros_right = λ d f a s. rw (f, a, s);
    }

pub good_bytes : GoodBytes
unfolding record_of
good_bytes d g =
    let f = g.fits in
    let id = bytes_from 0 most_id d.id in
    let load = bytes_from 0 most_data d.load in
    bytes_append (head_of d) (id ++ load) (small_bytes (head_of d) (omega (arith, f)))
    (bytes_append id load (bytes_small d.id 0 most_id f.id) (bytes_small d.load 0 most_data f.load))

pub power_good : PowerOnSound
unfolding allowed power_on
power_good item h a =
    record {
      fits =
          record {
            abilities = h 0;
            fixed = h 1;
            address = h 1;
            configured = omega arith;
            listener = omega arith;
            talker = omega arith;
            service = omega arith;
            further = h 12;
            noted = omega arith;
            status = omega arith;
            accessory = h 2;
            idlength = h 3;
            loadlength = omega arith;
            sent = omega arith;
            last = omega arith;
            replied = omega arith;
            remote = omega arith;
            enabled = omega arith;
            choice = omega arith;
            fixedsecond = h 13;
            second = h 13;
            assigned = omega arith;
            pollstatus = omega arith;
            id = bytes_small item 4 most_id h;
            load = zeros_small most_data;
            idsize = bytes_wide 4 most_id item;
            loadsize = length-replicate {A = ℕ} most_data 0;
          };
      sound = right (leb (get_or item 13 0) no_address) (sound_device (power_on item)) a;
    }
