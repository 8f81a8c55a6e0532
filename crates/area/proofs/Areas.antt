-- Areas and loops: a sound area's bytes are those of its loop, and a sound loop's area is sound, is bytes and gives the
-- loop back.
use mathlib.Core.Path.{◌≡◌, refl, sym, ap, ◌∙◌}
use mathlib.Core.List.{List, [], ◌∷◌, ◌++◌, map, append-nil}
use mathlib.Core.Bool.{Bool, true, false, cond}
use Prim.Native.Nat.{ℕ, zero, suc, ◌+◌, ◌*◌, ◌≤◌, ◌<◌}
use native.Mathlib.Omega.{arith}
use native.Mathlib.Nat.{add_assoc}
use lib.Seq.{get_or-drop, take_all, drop_at, drop-drop}
use lib.ListN.{length-append, length-map, length-drop, take-append-drop, get_or-map, length, get_or, take}
use lib.ListN.{drop, replicate, length-set}
use lib.Dec.{eqb, leb}
use borrow.Author.Tests.{eqb-true, leb-true, le-leb, eq-eqb}
use Rattle.device.specs.PowerOn.{bytes_from}
use Rattle.device.specs.declared.Device.{Device}
use Rattle.record.specs.Record.{record_size, device_of, record_of, zeros}
use Rattle.record.specs.Sound.{sound_record}
use Rattle.record.specs.Fits.{Bytes, Good}
use Rattle.record.proofs.Both.{left, right}
use Rattle.record.proofs.Laws.{record_wide, record_again, record_back, record_sound, read_good, blank_good, good_bytes}
use Rattle.record.proofs.Bytes.{small_bytes, bytes_append}
use Rattle.device.proofs.Bytes.{take_bytes}
use Rattle.area.specs.Sizes.{header_size, link_size, most_devices, is_count, record_at, link_at, area_size}
use Rattle.area.specs.Parts.{part, join, all}
use Rattle.area.specs.Link.{frames_of, link_of, sound_link, Frames}
use Rattle.area.specs.Loop.{Loop, size, count_in, records_in, links_in, loop_of, header_of, area_of, shape, unsound}
use Rattle.area.specs.Loop.{shaped, shaped_with, Shaped, sound, judge_of, judge_with, device, link, SoundLoop}
use Rattle.area.specs.Loop.{Holds}
use Rattle.area.specs.Lookup.{set_device, set_link}
use Rattle.area.proofs.Parts.{splice, map_back, length_parts, get_d_parts, join_parts, length_join, splice_join}
use Rattle.area.proofs.Parts.{part_join, parts_join, splice_past, part_past}
use Rattle.area.proofs.Each.{each_set, each_part, each_all, each_bytes, each_again}
use Rattle.area.proofs.Links.{link_back, link_wide, frames_sound, frames_again, link_sound, link_bytes}

-- ---- one device's record or one link's bytes, in a loop's area

pub device_put : (l : Loop) (i : ℕ) (d : Device) → i < size l →
    splice (record_at i) record_size (record_of d) (area_of l) ≡ area_of (set_device i d l)
unfolding area_of
device_put l i d h =
    splice_past (header_of (size l)) (join (map record_of l.devices) ++ join (map link_of l.links)) header_size
    (record_size * i) record_size (record_of d) refl
    ∙ rw (splice_join record_of record_size record_wide l.devices (join (map link_of l.links)) i d h, length-set)

pub link_put : (l : Loop) (j : ℕ) (fs : List ℕ) → j < length l.links →
    splice (link_at (size l) j) link_size (link_of fs) (area_of l) ≡ area_of (set_link j fs l)
unfolding area_of
link_put l j fs h =
    let hd = header_of (size l) in
    let rs = join (map record_of l.devices) in
    let ks = join (map link_of l.links) in
    rw add_assoc
    (splice_past hd (rs ++ ks) header_size (record_size * size l + link_size * j) link_size (link_of fs) refl
    ∙ ap (λ (r : List ℕ). hd ++ r)
    (splice_past rs ks (record_size * size l) (link_size * j) link_size (link_of fs)
    (length_join record_of record_size record_wide l.devices)
    ∙ ap (λ (r : List ℕ). rs ++ r) (simp append-nil at (splice_join link_of link_size link_wide l.links [] j fs h))))

pub device_get : (l : Loop) (i : ℕ) → i < size l → part (record_at i) record_size (area_of l) ≡ record_of (device l i)
unfolding area_of
device_get l i h =
    part_past (header_of (size l)) (join (map record_of l.devices) ++ join (map link_of l.links)) header_size
    (record_size * i) record_size refl
    ∙ part_join record_of record_size record_wide l.devices (join (map link_of l.links)) i (device_of []) h

pub link_get : (l : Loop) (j : ℕ) → j < length l.links →
    part (link_at (size l) j) link_size (area_of l) ≡ link_of (link l j)
unfolding area_of
link_get l j h =
    let hd = header_of (size l) in
    let rs = join (map record_of l.devices) in
    let ks = join (map link_of l.links) in
    rw add_assoc
    (part_past hd (rs ++ ks) header_size (record_size * size l + link_size * j) link_size refl
    ∙ part_past rs ks (record_size * size l) (link_size * j) link_size
    (length_join record_of record_size record_wide l.devices)
    ∙ simp append-nil at (part_join link_of link_size link_wide l.links [] j [] h))

-- an empty link
pub no_frames : Frames []
no_frames = record { few = omega arith; each = λ k. omega arith }

-- ---- an area without a refusal

pub judge_zero : (a : List ℕ) → judge_of a ≡ 0 → (shaped a ≡ true) × (sound a ≡ true)
unfolding judge_with
judge_zero a h = go (shaped a) (sound a) h
  where
    go : (s t : Bool) → ◌≡◌ {A = ℕ} (cond s (cond t 0 unsound) shape) 0 → (s ≡ true) × (t ≡ true)
    go true true e = (refl, refl)
    go true false e = let z : ⊥ = omega arith in absurd z
    go false t e = let z : ⊥ = omega arith in absurd z

pub few_counted : (limit n : ℕ) → is_count limit n ≡ true → n ≤ limit
few_counted limit n h = leb-true n limit (right (leb 1 n) (leb n limit) h)

pub is_shaped : (a : List ℕ) → shaped a ≡ true → Shaped a
unfolding shaped_with
is_shaped a h =
    record {
      some = leb-true 1 (count_in a) (search (left, right));
      few = leb-true (count_in a) most_devices (search (left, right));
      long = eqb-true (length a) (area_size (count_in a)) (search (left, right));
    }

pub shaped_empty : (a : List ℕ) → length a ≡ 0 → shaped a ≡ false
unfolding shaped_with
shaped_empty [] h = refl
shaped_empty (x ∷ xs) h = let z : ⊥ = omega arith in absurd z

-- its size
pub record Sized (a : List ℕ) : Type 0 where
  pub count : count_in a ≡ size (loop_of a)
  pub few : size (loop_of a) ≤ most_devices
  pub long : length a ≡ area_size (size (loop_of a))

pub sized : (a : List ℕ) → judge_of a ≡ 0 → Sized a
unfolding loop_of
sized a h =
    let s = is_shaped a (judge_zero a h).0 in
    let e : size (loop_of a) ≡ count_in a = simp (length-map, length_parts) in
    record { count = sym e; few = rw e s.few; long = rw e s.long }

pub few_devices : (a : List ℕ) → judge_of a ≡ 0 → size (loop_of a) ≤ most_devices
few_devices a h = (sized a h).few

-- its contents
record Tests (a : List ℕ) : Type 0 where
  head : zeros (bytes_from 1 7 a) ≡ true
  records : all sound_record (records_in a) ≡ true
  links : all sound_link (links_in a) ≡ true

tests : (a : List ℕ) → sound a ≡ true → Tests a
unfolding sound
tests a h = record { head = search (left, right); records = search (left, right); links = search (left, right) }

zero_bytes : (n k : ℕ) (b : List ℕ) → zeros (bytes_from k n b) ≡ true → bytes_from k n b ≡ replicate n 0
unfolding zeros bytes_from
zero_bytes zero k b h = refl
zero_bytes (suc n) k b h =
    let e : get_or b k 0 ≡ 0 = eqb-true _ _ (left (eqb (get_or b k 0) 0) (zeros (bytes_from (suc k) n b)) h) in
    rw (e, zero_bytes n (suc k) b (right (eqb (get_or b k 0) 0) (zeros (bytes_from (suc k) n b)) h))

header_back : (a : List ℕ) → Shaped a → zeros (bytes_from 1 7 a) ≡ true → header_of (count_in a) ≡ take header_size a
unfolding bytes_from
header_back a s h =
    ap (λ (r : List ℕ). count_in a ∷ r) (sym (zero_bytes 7 1 a h))
    ∙ sym (take_bytes header_size 0 a (omega (arith, s.long)))

module _ (a : List ℕ) (small : Bytes a) (h : judge_of a ≡ 0) where
  -- its records and links, written out again
  records_back : map record_of (map device_of (records_in a)) ≡ records_in a
  records_back =
      let sh = is_shaped a (judge_zero a h).0 in
      map_back record_of device_of sound_record record_size (λ b l s t. record_back b l s) (count_in a) (drop header_size a)
      (simp length-drop (omega (arith, sh.long))) (λ i. rw get_or-drop (small (header_size + i)))
      (tests a (judge_zero a h).1).records

  links_back : map link_of (map frames_of (links_in a)) ≡ links_in a
  links_back =
      let sh = is_shaped a (judge_zero a h).0 in
      map_back link_of frames_of sound_link link_size link_back (suc (count_in a)) (drop (record_at (count_in a)) a)
      (simp length-drop (omega (arith, sh.long))) (λ i. rw get_or-drop (small (record_at (count_in a) + i)))
      (tests a (judge_zero a h).1).links

  -- the area of its loop is itself
  pub area_is : area_of (loop_of a) ≡ a
  unfolding area_of loop_of
  area_is =
      let n = count_in a in
      let sh = is_shaped a (judge_zero a h).0 in
      let rest : take (link_size * suc n) (drop (record_at n) a) ≡ drop (record_size * n) (drop header_size a) =
      take_all (link_size * suc n) (drop (record_at n) a) (simp length-drop (omega (arith, sh.long)))
      ∙ sym (drop-drop (record_size * n) header_size a) in
      simp (length-map, length_parts, records_back, links_back, join_parts, rest, take-append-drop)
      (ap (λ (r : List ℕ). r ++ drop header_size a) (header_back a sh (tests a (judge_zero a h).1).head)
      ∙ take-append-drop header_size a)

  -- its loop is sound
  pub loop_good : SoundLoop (loop_of a)
  unfolding loop_of
  loop_good =
      let sh = is_shaped a (judge_zero a h).0 in
      let t = tests a (judge_zero a h).1 in
      let z = sized a h in
      record {
        some = omega (arith, sh.some, z.count);
        few = z.few;
        ends = simp (length-map, length_parts);
        devices = each_part Good (device_of []) device_of sound_record record_size read_good blank_good (count_in a)
            (drop header_size a)
            (λ i. rw get_or-drop (small (header_size + i))) t.records;
        frames = each_part Frames [] frames_of sound_link link_size (λ b s k. frames_sound b k) no_frames
            (suc (count_in a)) (drop (record_at (count_in a)) a)
            (λ i. rw get_or-drop (small (record_at (count_in a) + i))) t.links;
      }

  pub area_holds : Holds a (loop_of a)
  area_holds = record { judged = h; held = refl; written = sym area_is }

  -- device i stands in record i
  pub device_read : (i : ℕ) → i < size (loop_of a) → device (loop_of a) i ≡ device_of (part (record_at i) record_size a)
  unfolding loop_of
  device_read i k =
      get_or-map device_of (records_in a) i []
      ∙ ap device_of (get_d_parts record_size (count_in a) (drop header_size a) i (rw (sized a h).count k) ∙ rw drop-drop)

-- ---- a sound loop's area

module _ (l : Loop) (s : SoundLoop l) where
  records_of : records_in (area_of l) ≡ map record_of l.devices
  unfolding area_of
  records_of = parts_join record_of record_size record_wide l.devices (join (map link_of l.links))

  links_of : links_in (area_of l) ≡ map link_of l.links
  unfolding area_of
  links_of =
      let d : drop (record_size * size l) (join (map record_of l.devices) ++ join (map link_of l.links)) ≡ join
      (map link_of l.links) =
      drop_at (join (map record_of l.devices)) _ _ (length_join record_of record_size record_wide l.devices) in
      rw (← (drop-drop (record_size * size l) header_size (area_of l)), d, ← s.ends)
      (simp append-nil at (parts_join link_of link_size link_wide l.links []))

  length_of : length (area_of l) ≡ area_size (size l)
  unfolding area_of
  length_of = simp (
    length-append,
    length_join record_of record_size record_wide l.devices,
    length_join link_of link_size link_wide l.links,
    s.ends,
  ) (omega arith)

  count_of : count_in (area_of l) ≡ size l
  unfolding area_of
  count_of = refl

  header_zero : zeros (bytes_from 1 7 (area_of l)) ≡ true
  unfolding area_of zeros bytes_from
  header_zero = refl

  -- it has no refusal
  pub judge_of_lem : judge_of (area_of l) ≡ 0
  unfolding judge_with shaped_with sound
  judge_of_lem =
      let r : all sound_record (map record_of l.devices) ≡ true =
      each_all Good (device_of []) sound_record record_of (λ d g. record_sound d g.fits g.sound) l.devices
      s.devices in
      let k : all sound_link (map link_of l.links) ≡ true = each_all Frames [] sound_link link_of link_sound l.links
      s.frames in
      rw (
        records_of,
        links_of,
        length_of,
        count_of,
        header_zero,
        r,
        k,
        le-leb _ _ s.some,
        le-leb _ _ s.few,
        eq-eqb (area_size (size l)) (area_size (size l)) refl,
      )

  -- and holds the loop
  pub loop_of_lem : loop_of (area_of l) ≡ l
  unfolding loop_of
  loop_of_lem =
      let r : map device_of (map record_of l.devices) ≡ l.devices =
      each_again Good (device_of []) record_of device_of (λ d g. record_again d g.fits) l.devices s.devices in
      let k : map frames_of (map link_of l.links) ≡ l.links = each_again Frames [] link_of frames_of frames_again
      l.links s.frames in
      rw (records_of, links_of, r, k)

  -- it is bytes
  pub bytes_of : Bytes (area_of l)
  unfolding area_of
  bytes_of =
      let rs = join (map record_of l.devices) in
      let ks = join (map link_of l.links) in
      bytes_append (header_of (size l)) (rs ++ ks) (small_bytes (header_of (size l)) (omega (arith, s.few)))
      (bytes_append rs ks (each_bytes Good (device_of []) record_of good_bytes l.devices s.devices)
      (each_bytes Frames [] link_of link_bytes l.links s.frames))

  pub holds_of : Holds (area_of l) l
  holds_of = record { judged = judge_of_lem; held = loop_of_lem; written = refl }

  -- a good device or a link of frames keeps it sound
  pub device_kept : (i : ℕ) (d : Device) → Good d → SoundLoop (set_device i d l)
  device_kept i d g =
      record {
        some = rw length-set s.some;
        few = rw length-set s.few;
        ends = rw length-set s.ends;
        devices = each_set Good (device_of []) l.devices i d g s.devices;
        frames = s.frames;
      }

  pub link_kept : (j : ℕ) (fs : List ℕ) → Frames fs → SoundLoop (set_link j fs l)
  link_kept j fs f =
      record {
        some = s.some;
        few = s.few;
        ends = rw length-set s.ends;
        devices = s.devices;
        frames = each_set Frames [] l.links j fs f s.frames;
      }
