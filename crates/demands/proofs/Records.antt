-- Header and records cut off an area are read as they are in it, so a walk over them is refused as the area is but for
-- its links; and where these are zeros, as a put is.
use Prim.Native.Nat.{ℕ, zero, suc, ◌+◌, ◌*◌, ◌≤◌, ◌<◌}
use mathlib.Core.Path.{◌≡◌, refl, sym, ap, ◌∙◌}
use mathlib.Core.Bool.{Bool, true, false, cond, and-true}
use mathlib.Core.List.{List, [], ◌∷◌, map}
use native.Mathlib.Omega.{arith}
use native.Mathlib.Nat.{mul-suc, add_comm}
use lib.Dec.{ltb}
use lib.ListN.{length, get_or, take, drop}
use lib.Seq.{take-take, get_or-take, get_or-drop, length-take-le}
use borrow.Author.Tests.{lt-ltb, ltb-true, eq-eqb}
use Rattle.frame.specs.Messages.{frames}
use Rattle.device.specs.PowerOn.{bytes_from}
use Rattle.record.specs.Record.{record_size}
use Rattle.record.specs.Sound.{sound_record}
use Rattle.record.specs.Fits.{Bytes}
use Rattle.record.proofs.Both.{both_true, left, right}
use Rattle.area.specs.Sizes.{header_size, link_size, most_devices, is_count, record_at, area_size}
use Rattle.area.specs.Parts.{parts, all}
use Rattle.area.specs.Link.{frames_of, sound_slot, sound_link}
use Rattle.area.specs.Loop.{count_in, records_in, links_in, loop_of, shaped, shaped_with, sound, judge_with}
use Rattle.area.proofs.Areas.{judge_zero, is_shaped}
use Rattle.saved.proofs.Runs.{part_of}
use Rattle.walk.specs.Walk.{told_size, devices_in, fits_with, sound_records, refusal_with}
use Rattle.demands.specs.Calls.{Byte, numbers, put, on_area, walk, pil, refusal_in}
use Rattle.demands.specs.Conditions.{due}
use Rattle.demands.specs.Demands.{Judged, AllEmpty, records_of, ZerosBehind}
use Rattle.demands.proofs.First.{demand_1}
use Rattle.demands.proofs.Lengths.{shape_is}
use Rattle.demands.proofs.Refusals.{turned_lt}
use Rattle.demands.proofs.Walks.{rows, refusal_due}

-- ---- the first bytes of a list

-- all parts are in them
parts_cut : (w n : ℕ) (b : List ℕ) → parts w n (take (w * n) b) ≡ parts w n b
unfolding parts
parts_cut w zero b = refl
parts_cut w (suc n) b =
    let more : w * suc n ≡ w + w * n = mul-suc w n ∙ add_comm (w * n) w in
    rw (more, take-take w (w + w * n) b (omega arith), ← part_of w (w * n) b)
    (ap (λ (r : List (List ℕ)). take w b ∷ r) (parts_cut w n (drop w b)))

bytes_cut : (k n m : ℕ) (b : List ℕ) → k + n ≤ m → bytes_from k n (take m b) ≡ bytes_from k n b
unfolding bytes_from
bytes_cut k zero m b h = refl
bytes_cut k (suc n) m b h = rw (get_or-take m b k 0 (omega arith), bytes_cut (suc k) n m b (omega arith))

-- ---- those of an area

module _ (a : List ℕ) where
  count_cut : count_in (records_of a) ≡ count_in a
  count_cut = get_or-take (record_at (count_in a)) a 0 0 (omega arith)

  records_cut : records_in (records_of a) ≡ records_in a
  records_cut =
      rw (count_cut, ← part_of header_size (record_size * count_in a) a)
      (parts_cut record_size (count_in a) (drop header_size a))

  pub devices_cut : devices_in (records_of a) ≡ (loop_of a).devices
  unfolding loop_of
  devices_cut = rw records_cut

  -- a walk over them, where the lengths are right and the links sound
  pub cut_refusal : (f : ℕ) (t : List ℕ) → length a ≡ area_size (count_in a) → length t ≡ told_size * count_in a →
      all sound_link (links_in a) ≡ true →
      refusal_with most_devices (records_of a) f t ≡ cond (shaped a) (cond (sound a) (cond (ltb f frames) 0 4) 2) 1
  unfolding refusal_with fits_with sound_records shaped_with sound
  cut_refusal f t long fit links =
      let cut : length (records_of a) ≡ record_at (count_in a) = length-take-le (record_at (count_in a)) a (omega arith) in
      rw (
        records_cut,
        count_cut,
        bytes_cut 1 7 (record_at (count_in a)) a (omega arith),
        links,
        eq-eqb (length (records_of a)) (record_at (count_in a)) cut,
        eq-eqb (length t) (told_size * count_in a) fit,
        eq-eqb (length a) (area_size (count_in a)) long,
        and-true (is_count most_devices (count_in a)),
        and-true (all sound_record (records_in a)),
      )

  links_sound : sound a ≡ true → all sound_link (links_in a) ≡ true
  unfolding sound
  links_sound h = search (left, right)

  -- so it is not refused where the area is not
  pub judged_refusal : Judged a → (f : ℕ) (t : List ℕ) → f < frames → length t ≡ told_size * count_in a →
      refusal_with most_devices (records_of a) f t ≡ 0
  judged_refusal j f t small fit =
      let z = judge_zero a j.sound in
      cut_refusal f t (is_shaped a z.0).long fit (links_sound z.1) ∙ rw (z.0, z.1, lt-ltb f frames small)

-- ---- behind them only zeros

abbrev Blank : List ℕ → Type 0
Blank b = (i : ℕ) → get_or b i 0 ≡ 0

blank_take : (w : ℕ) (b : List ℕ) → Blank b → Blank (take w b)
blank_take zero b h i = refl
blank_take (suc w) [] h i = refl
blank_take (suc w) (x ∷ b) h zero = h 0
blank_take (suc w) (x ∷ b) h (suc i) = blank_take w b (λ k. h (suc k)) i

blank_link : (b : List ℕ) → Blank b → sound_link b ≡ true
unfolding sound_link sound_slot
blank_link b h = rw (h 0, h 1, h 2, h 3, h 4, h 5, h 6, h 7, h 8, h 9)

blank_links : (n : ℕ) (b : List ℕ) → Blank b → all sound_link (parts link_size n b) ≡ true
unfolding parts all
blank_links zero b h = refl
blank_links (suc n) b h =
    both_true (blank_link (take link_size b) (blank_take link_size b h))
    (blank_links n (drop link_size b) (λ i. rw get_or-drop (h (link_size + i))))

blank_empty : (n : ℕ) (b : List ℕ) (j : ℕ) → Blank b → get_or (map frames_of (parts link_size n b)) j [] ≡ []
unfolding parts frames_of
blank_empty zero b j h = refl
blank_empty (suc n) b zero h = rw (blank_take link_size b h 0)
blank_empty (suc n) b (suc j) h = blank_empty n (drop link_size b) j (λ i. rw get_or-drop (h (link_size + i)))

none_holds : (s u p : Bool) → ◌≡◌ {A = ℕ} (cond s (cond u (cond p 0 4) 2) 1) 0 →
    (s ≡ true) × ((u ≡ true) × (p ≡ true))
none_holds true true true e = (refl, (refl, refl))
none_holds true true false e = absurd (omega arith)
none_holds true false p e = absurd (omega arith)
none_holds false u p e = absurd (omega arith)

module _ (a : List ℕ) (n : ZerosBehind a) where
  behind : Blank (drop (record_at (count_in a)) a)
  behind i = rw get_or-drop (n.zeros_behind (record_at (count_in a) + i) (omega arith))

  pub all_empty : AllEmpty a
  unfolding loop_of
  all_empty j = blank_empty (suc (count_in a)) (drop (record_at (count_in a)) a) j behind

  -- a put then goes by the area's refusal and the frame alone
  put_refusal : (f : ℕ) →
      due (on_area (put f)) a ≡ cond (shaped a) (cond (sound a) (cond (ltb f frames) 0 4) 2) 1
  put_refusal f =
      rw (all_empty 0, shape_is a, turned_lt f frames 4 0) (sym (rows (shaped a) (sound a) (cond (ltb f frames) 0 4)))

  abbrev walk_refusal : ℕ → List Byte → ℕ
  walk_refusal f t = refusal_in (pil (walk f t) (records_of a)).answer

  walk_refusal_lem : (f : ℕ) (t : List Byte) → length (numbers t) ≡ told_size * count_in a →
      walk_refusal f t ≡ cond (shaped a) (cond (sound a) (cond (ltb f frames) 0 4) 2) 1
  walk_refusal_lem f t fit =
      demand_1.by_table (walk f t) (records_of a)
      ∙ sym (refusal_due f t (records_of a))
      ∙ cut_refusal a f (numbers t) n.long fit (blank_links (suc (count_in a)) _ behind)

  pub same_refusals : (f : ℕ) (t : List Byte) → length (numbers t) ≡ told_size * count_in a →
      walk_refusal f t ≡ refusal_in (pil (on_area (put f)) a).answer
  same_refusals f t fit = walk_refusal_lem f t fit ∙ sym (demand_1.by_table (on_area (put f)) a ∙ put_refusal f)

  -- where neither is refused, the area is not, and the frame is one
  pub all_passed : (f : ℕ) (t : List Byte) → Bytes a → length (numbers t) ≡ told_size * count_in a →
      walk_refusal f t ≡ 0 → Judged a × (f < frames)
  unfolding judge_with
  all_passed f t bytes fit e =
      let p = none_holds (shaped a) (sound a) (ltb f frames) (sym (walk_refusal_lem f t fit) ∙ e) in
      (record { bytes = bytes; sound = rw (p.0, p.1.0) }, ltb-true f frames p.1.1)
