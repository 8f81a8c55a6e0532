-- Set up: the area is blank, and then holds the first i items' devices and blank ones, till none is blank. An item of
-- fewer bytes is one of 14 with zeros behind it.
use mathlib.Core.Path.{◌≡◌, refl, sym, ap, ◌∙◌}
use mathlib.Core.List.{List, [], ◌∷◌, ◌++◌, append-nil}
use mathlib.Core.Bool.{Bool, true, false, cond, ◌&&◌, ◌||◌}
use mathlib.Core.Logic.{◌⊎◌, inl, inr, ⊎_elim}
use Prim.Native.Nat.{ℕ, zero, suc, ◌+◌, ◌-◌, ◌*◌, ◌≤◌, ◌<◌}
use native.Mathlib.Nat.{not-suc-le-zero, le_of_suc-le-suc, mul-suc, mul-le-mul_left, mul-le-mul_right}
use native.Mathlib.Omega.{arith}
use lib.Dec.{eqb, leb}
use lib.ListN.{length, get_or, take, set, replicate, length-map, length-append, length-replicate, get_or-map}
use lib.Seq.{length-take-le, take_all}
use borrow.Author.Tests.{leb-true, eqb-true}
use Rattle.device.specs.Device.{no_address}
use Rattle.device.specs.PowerOn.{power_on, bytes_from}
use Rattle.device.specs.declared.Device.{Device}
use Rattle.record.specs.Record.{device_of}
use Rattle.record.specs.Sound.{sound_device, allowed}
use Rattle.record.specs.Fits.{Bytes, Good}
use Rattle.record.proofs.Both.{left, right}
use Rattle.record.proofs.Laws.{power_good, blank_good}
use Rattle.area.specs.Sizes.{most_devices, item_size, poll_item_size, long_item_size, area_size}
use Rattle.area.specs.Parts.{part, all}
use Rattle.area.specs.Link.{Frames}
use Rattle.area.specs.Loop.{Loop, area_of, size, shape, unsound}
use Rattle.area.specs.Lookup.{set_device, blank_of}
use Rattle.area.proofs.Parts.{length_parts, get_d_parts}
use Rattle.area.proofs.Each.{each_part, each_same}
use Rattle.area.proofs.Areas.{no_frames}
use Rattle.calls.specs.Outcome.{after}
use Rattle.calls.specs.SetUp.{is_items, item_width, items_of, items_fit, powered_on, set_up_of, set_up_with}
use Rattle.calls.specs.SetUp.{devices_for}
use Rattle.calls.specs.Inner.{Fit}
use Rattle.calls.specs.Laws.{SetUpSound}

-- the first i devices, and blank ones
abbrev pub partly : List Device → ℕ → List Device
partly ds i = take i ds ++ replicate (length ds - i) (device_of [])

set_next : (ds : List Device) (i m : ℕ) (d : Device) → i < length ds → length ds - i ≡ suc m →
    set (take i ds ++ replicate (suc m) (device_of [])) i (get_or ds i d) ≡ take (suc i) ds ++ replicate m (device_of [])
set_next [] i m d h e = absurd (not-suc-le-zero h)
set_next (x ∷ ds) zero m d h e = refl
set_next (x ∷ ds) (suc i) m d h e = ap (λ (r : List Device). x ∷ r)
    (set_next ds i m d (le_of_suc-le-suc h) (omega arith))

pub partly_next : (ds : List Device) (i : ℕ) (d : Device) → i < length ds →
    set (partly ds i) i (get_or ds i d) ≡ partly ds (suc i)
partly_next ds i d h = let e : length ds - i ≡ suc (length ds - suc i) = omega arith in rw e
    (set_next ds i (length ds - suc i) d h e)

pub partly_long : (ds : List Device) (i : ℕ) → i ≤ length ds → length (partly ds i) ≡ length ds
partly_long ds i h = simp (length-append, length-take-le i ds h, length-replicate) (omega arith)

pub partly_all : (ds : List Device) (i : ℕ) → i ≡ length ds → partly ds i ≡ ds
partly_all ds i e =
    let z : length ds - length ds ≡ 0 = omega arith in rw (e, z, take_all (length ds) ds (omega arith)) (append-nil ds)

-- an item of zeros is a blank device
blank_powered : power_on [] ≡ device_of []
unfolding power_on device_of bytes_from
blank_powered = refl

-- zeros behind an item change nothing of its device
pub padded_powered : (b : List ℕ) → power_on (bytes_from 0 long_item_size b) ≡ power_on b
unfolding power_on bytes_from
padded_powered b = refl

pub padded_allowed : (b : List ℕ) → allowed (bytes_from 0 long_item_size b) ≡ allowed b
unfolding allowed bytes_from
padded_allowed b = ap (λ (d : Device). leb (get_or b 13 0) no_address && sound_device d) (padded_powered b)

-- the loop of n items after i of them
module _ (n : ℕ) (items : List ℕ) where
  abbrev pub devices : List Device
  devices = (powered_on n items).devices

  abbrev pub at_item : ℕ → Loop
  at_item i = record { devices = partly devices i; links = (powered_on n items).links }

  pub devices_long : length devices ≡ n
  devices_long = simp (length-map, length_parts)

  -- bytes of an item
  abbrev w : ℕ
  w = item_width (length items) n

  item_device : (i : ℕ) → i < n → power_on (part (w * i) w items) ≡ get_or devices i (device_of [])
  item_device i h = rw (← blank_powered)
      (sym (get_or-map power_on (items_of n items) i [] ∙ ap power_on (get_d_parts w n items i h)))

  pub first_item : blank_of n ≡ at_item 0
  first_item = let e : n - 0 ≡ n = omega arith in rw (devices_long, e)

  pub next_item : (i : ℕ) → i < n →
      set_device i (power_on (part (w * i) w items)) (at_item i) ≡ at_item (suc i)
  next_item i h =
      rw (item_device i h)
      (ap (λ (ds : List Device). record { devices = ds; links = (powered_on n items).links })
      (partly_next devices i (device_of []) (rw devices_long h)))

  pub size_at : (i : ℕ) → i ≤ n → size (at_item i) ≡ n
  size_at i h = partly_long devices i (rw devices_long h) ∙ devices_long

  pub last_item : (i : ℕ) → i ≡ n → at_item i ≡ powered_on n items
  last_item i e = ap (λ (ds : List Device). record { devices = ds; links = (powered_on n items).links })
      (partly_all devices i (e ∙ sym devices_long))

  -- each device is good
  pub powered_good : Bytes items → all allowed (items_of n items) ≡ true → (i : ℕ) → Good (get_or devices i (device_of []))
  powered_good small h = each_part Good (device_of []) power_on allowed w power_good blank_good n items small h

  pub item_good : Bytes items → all allowed (items_of n items) ≡ true → (i : ℕ) → i < n →
      Good (power_on (part (w * i) w items))
  item_good small h i k = rw (item_device i k) (powered_good small h i)

-- an item is 12, 13 or 14 bytes, and then so are all
abbrev pub Width : (item_width : ℕ) → Type 0
Width w = (w ≡ item_size) ⊎ ((w ≡ poll_item_size) ⊎ (w ≡ long_item_size))

pub width_one : (bytes n : ℕ) → Width (item_width bytes n)
unfolding item_width
width_one bytes n = go (eqb bytes (long_item_size * n)) (eqb bytes (poll_item_size * n))
  where
    go : (a b : Bool) → Width (cond a long_item_size (cond b poll_item_size item_size))
    go true b = inr (inr refl)
    go false true = inr (inl refl)
    go false false = inl refl

pub width_few : (bytes n : ℕ) → item_width bytes n ≤ long_item_size
width_few bytes n =
    ⊎_elim (λ e. omega arith) (⊎_elim (λ e. omega arith) (λ e. omega arith)) (width_one bytes n)

pub width_times : (bytes n i : ℕ) → item_width bytes n * i ≤ long_item_size * i
width_times bytes n i = mul-le-mul_right i (width_few bytes n)

pub width_all : (bytes n : ℕ) → is_items bytes n ≡ true → bytes ≡ item_width bytes n * n
unfolding item_width is_items
width_all bytes n h =
    go (eqb bytes (item_size * n)) (eqb bytes (poll_item_size * n)) (eqb bytes (long_item_size * n)) refl refl refl h
  where
    go : (a b c : Bool) → eqb bytes (item_size * n) ≡ a → eqb bytes (poll_item_size * n) ≡ b →
        eqb bytes (long_item_size * n) ≡ c → (a || (b || c)) ≡ true →
        bytes ≡ cond c long_item_size (cond b poll_item_size item_size) * n
    go a b true e f g i = eqb-true bytes (long_item_size * n) g
    go a true false e f g i = eqb-true bytes (poll_item_size * n) f
    go true false false e f g i = eqb-true bytes (item_size * n) e
    go false false false e f g i = let z : false ≡ true = i in cc

-- they are at least 12 bytes each
pub items_least : (bytes n : ℕ) → is_items bytes n ≡ true → item_size * n ≤ bytes
items_least bytes n h =
    let e = width_all bytes n h in
    ⊎_elim (λ w. omega (arith, rw w at e)) (⊎_elim (λ w. omega (arith, rw w at e)) (λ w. omega (arith, rw w at e)))
    (width_one bytes n)

-- item i lies within
pub item_within : (w i n : ℕ) → i < n → w * i + w ≤ w * n
item_within w i n h = let m = mul-le-mul_left w h in let e = mul-suc w i in omega arith

-- what the test of the lengths says
pub items_fit_lem : (limit n : ℕ) (a items : List ℕ) → items_fit limit n a items ≡ true → Fit limit n a items
unfolding items_fit
items_fit_lem limit n a items h =
    record {
      some = leb-true 1 n (search (left, right));
      few = leb-true n limit (search (left, right));
      area = eqb-true (length a) (area_size n) (search (left, right));
      items = search (left, right);
    }

pub set_up_sound : SetUpSound
set_up_sound limit n a items small h k =
    let f = items_fit_lem limit n a items h in
    record {
      some = rw (devices_long n items) f.some;
      few = rw (devices_long n items) f.few;
      ends = rw (devices_long n items, length-replicate);
      devices = powered_good n items small k;
      frames = each_same Frames [] no_frames (suc n);
    }

-- what set up does, by the tests that the code makes
module _ (a items : List ℕ) (n : ℕ) (here : n ≡ devices_for (length a)) where
  pub set_shape : items_fit most_devices n a items ≡ false → set_up_of a items ≡ after shape a
  unfolding set_up_with
  set_shape h = rw (← here, h)

  pub set_unsound : items_fit most_devices n a items ≡ true → all allowed (items_of n items) ≡ false →
      set_up_of a items ≡ after unsound a
  unfolding set_up_with
  set_unsound h k = rw (← here, h, k)

  pub set_done : items_fit most_devices n a items ≡ true → all allowed (items_of n items) ≡ true →
      set_up_of a items ≡ after 0 (area_of (powered_on n items))
  unfolding set_up_with
  set_done h k = rw (← here, h, k)
