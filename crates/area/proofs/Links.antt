-- A link's bytes and its frames: a sound link's unused numbers are 0, so its frames say all its bytes, and the other
-- way.
use mathlib.Core.Path.{◌≡◌, refl, sym, ap, ◌∙◌}
use mathlib.Core.List.{List, [], ◌∷◌, ◌++◌, tail}
use mathlib.Core.Bool.{Bool, true, false, ◌&&◌, cond}
use Prim.Native.Nat.{ℕ, zero, suc, ◌+◌, ◌-◌, ◌*◌, ◌/◌, ◌%◌, ◌≤◌, ◌<◌}
use native.Mathlib.Omega.{arith}
use lib.Dec.{eqb, ltb}
use lib.ListN.{length, get_or, take, set, length-take, length-append, get_or-eq_default}
use lib.Seq.{get_or-take}
use borrow.Author.Tests.{eqb-true, leb-true, ltb-true, ltb-false, le-leb, lt-ltb, eq-eqb}
use Rattle.std.specs.Prelude.{Some, None}
use Rattle.std.specs.Bool.{then_some}
use Rattle.frame.specs.Messages.{frames}
use Rattle.device.specs.PowerOn.{bytes_from}
use Rattle.device.proofs.Bytes.{bytes_all}
use Rattle.record.specs.Record.{word}
use Rattle.record.specs.Fits.{Bytes}
use Rattle.record.proofs.Both.{left, right}
use Rattle.record.proofs.Bytes.{small_bytes}
use Rattle.area.specs.Sizes.{depth, link_size}
use Rattle.area.specs.Link.{slots_of, frames_of, bytes_of, link_of, sound_slot, sound_link, Frames, IsLink}
use Rattle.area.specs.Lookup.{oldest_of, room_of}
use Rattle.area.proofs.Each.{each_more, each_tail}

-- ---- what is looked up

pub count_is : (b : List ℕ) → get_or b 0 0 ≤ depth → length (frames_of b) ≡ get_or b 0 0
unfolding frames_of
count_is b h = simp length-take (omega arith)

pub count_full : (b : List ℕ) → depth ≤ get_or b 0 0 → length (frames_of b) ≡ depth
unfolding frames_of
count_full b h = simp length-take (omega arith)

-- room is told by the count
pub room_told : (b : List ℕ) → then_some (ltb (get_or b 0 0) depth) (get_or b 0 0) ≡ room_of (frames_of b)
room_told b = go (ltb (get_or b 0 0) depth) refl
  where
    go : (t : Bool) → ltb (get_or b 0 0) depth ≡ t → then_some t (get_or b 0 0) ≡ room_of (frames_of b)
    go true e = let n = count_is b (omega (arith, ltb-true _ _ e)) in rw (n, e)
    go false e = rw (count_full b (ltb-false _ _ e))

pub oldest_none : (b : List ℕ) → get_or b 0 0 ≡ 0 → oldest_of (frames_of b) ≡ None
unfolding frames_of
oldest_none b h = rw h

pub oldest_some : (b : List ℕ) → (get_or b 0 0 ≡ 0 → ⊥) → oldest_of (frames_of b) ≡ Some (word 2 b)
unfolding frames_of
oldest_some b h = go (get_or b 0 0) h
  where
    go : (n : ℕ) → (n ≡ 0 → ⊥) → oldest_of (take n (slots_of b)) ≡ Some (word 2 b)
    go zero k = absurd (k refl)
    go (suc n) k = refl

-- a link with an oldest frame has one, and that is a frame
pub some_frame : (fs : List ℕ) (f : ℕ) → oldest_of fs ≡ Some f → 0 < length fs
some_frame [] f h = let z : ◌≡◌ {A = ℕ} 0 1 = cc in omega arith
some_frame (x ∷ fs) f h = omega arith

pub oldest_is : (fs : List ℕ) (f : ℕ) → oldest_of fs ≡ Some f → f ≡ get_or fs 0 0
oldest_is [] f h = let z : ◌≡◌ {A = ℕ} 0 1 = cc in let y : ⊥ = omega arith in absurd y
oldest_is (x ∷ fs) f h = cc

-- a link with room has it behind its frames
pub room_is : (fs : List ℕ) (n : ℕ) → room_of fs ≡ Some n → (length fs < depth) × (n ≡ length fs)
room_is fs n h = go (ltb (length fs) depth) refl h
  where
    go : (t : Bool) → ltb (length fs) depth ≡ t → cond t (Some (length fs)) None ≡ Some n →
        (length fs < depth) × (n ≡ length fs)
    go true e s = (ltb-true _ _ e, cc)
    go false e s = let z : ◌≡◌ {A = ℕ} 0 1 = cc in let y : ⊥ = omega arith in absurd y

-- ---- the bytes of a sound link

pub and-true : (b : Bool) → (b && true) ≡ b
and-true true = refl
and-true false = refl

-- the six tests of a sound link
pub record Tests (b : List ℕ) : Type 0 where
  pub few : get_or b 0 0 ≤ depth
  pub gap : get_or b 1 0 ≡ 0
  pub slot0 : sound_slot (get_or b 0 0) 0 (word 2 b) ≡ true
  pub slot1 : sound_slot (get_or b 0 0) 1 (word 4 b) ≡ true
  pub slot2 : sound_slot (get_or b 0 0) 2 (word 6 b) ≡ true
  pub slot3 : sound_slot (get_or b 0 0) 3 (word 8 b) ≡ true

tests : (b : List ℕ) → sound_link b ≡ true → Tests b
unfolding sound_link
tests b h =
    record {
      few = leb-true (get_or b 0 0) depth (search (left, right));
      gap = eqb-true (get_or b 1 0) 0 (search (left, right));
      slot0 = search (left, right);
      slot1 = search (left, right);
      slot2 = search (left, right);
      slot3 = search (left, right) depth 7;
    }

-- a number that is no frame is 0, so the frames say each number
slot_is : (n k : ℕ) (ws : List ℕ) → sound_slot n k (get_or ws k 0) ≡ true → get_or (take n ws) k 0 ≡ get_or ws k 0
unfolding sound_slot
slot_is n k ws h = go (ltb k n) refl h
  where
    go : (t : Bool) → ltb k n ≡ t → cond t (ltb (get_or ws k 0) frames) (eqb (get_or ws k 0) 0) ≡ true →
        get_or (take n ws) k 0 ≡ get_or ws k 0
    go true e s = get_or-take n ws k 0 (ltb-true _ _ e)
    go false e s =
        get_or-eq_default (take n ws) 0 {n = k} (simp length-take (omega (arith, ltb-false k n e)))
        ∙ sym (eqb-true _ _ s)

-- the bytes of a little-endian number
low_of : (lo hi : ℕ) → lo < 256 → (lo + 256 * hi) % 256 ≡ lo
low_of lo hi h = omega arith

high_of : (lo hi : ℕ) → lo < 256 → (lo + 256 * hi) / 256 ≡ hi
high_of lo hi h = omega arith

pub link_back : (b : List ℕ) → length b ≡ link_size → Bytes b → sound_link b ≡ true → link_of (frames_of b) ≡ b
unfolding link_of frames_of bytes_from
link_back b len small h =
    let s = tests b h in
    let n = get_or b 0 0 in
    let ws = slots_of b in
    let m : link_of (frames_of b) ≡ bytes_from 0 link_size b =
    simp (
      count_is b s.few,
      slot_is n 0 ws s.slot0,
      slot_is n 1 ws s.slot1,
      slot_is n 2 ws s.slot2,
      slot_is n 3 ws s.slot3,
      low_of (get_or b 2 0) (get_or b 3 0) (small 2),
      low_of (get_or b 4 0) (get_or b 5 0) (small 4),
      low_of (get_or b 6 0) (get_or b 7 0) (small 6),
      low_of (get_or b 8 0) (get_or b 9 0) (small 8),
      high_of (get_or b 2 0) (get_or b 3 0) (small 2),
      high_of (get_or b 4 0) (get_or b 5 0) (small 4),
      high_of (get_or b 6 0) (get_or b 7 0) (small 6),
      high_of (get_or b 8 0) (get_or b 9 0) (small 8),
      s.gap,
    ) in
    m ∙ sym (bytes_all link_size b len)

slot_below : (n k f : ℕ) → sound_slot n k f ≡ true → f < frames
unfolding sound_slot
slot_below n k f h = go (ltb k n) h
  where
    go : (t : Bool) → cond t (ltb f frames) (eqb f 0) ≡ true → f < frames
    go true s = ltb-true _ _ s
    go false s = omega (arith, eqb-true f 0 s)

frames_below : (b : List ℕ) → Tests b → (k : ℕ) → get_or (frames_of b) k 0 < frames
unfolding frames_of
frames_below b s zero = rw (slot_is (get_or b 0 0) 0 (slots_of b) s.slot0)
    (slot_below (get_or b 0 0) 0 (word 2 b) s.slot0)
frames_below b s (suc zero) = rw (slot_is (get_or b 0 0) 1 (slots_of b) s.slot1)
    (slot_below (get_or b 0 0) 1 (word 4 b) s.slot1)
frames_below b s (suc (suc zero)) = rw (slot_is (get_or b 0 0) 2 (slots_of b) s.slot2)
    (slot_below (get_or b 0 0) 2 (word 6 b) s.slot2)
frames_below b s (suc (suc (suc zero))) = rw (slot_is (get_or b 0 0) 3 (slots_of b) s.slot3)
    (slot_below (get_or b 0 0) 3 (word 8 b) s.slot3)
frames_below b s (suc (suc (suc (suc k)))) =
    rw (get_or-eq_default (take (get_or b 0 0) (slots_of b)) 0 {n = suc (suc (suc (suc k)))}
    (simp length-take (omega arith))) (omega arith)

pub frames_sound : (b : List ℕ) → sound_link b ≡ true → Frames (frames_of b)
frames_sound b h =
    let s = tests b h in record { few = omega (arith, count_is b s.few, s.few); each = frames_below b s }

-- ---- the bytes of a link's frames

pub link_wide : (fs : List ℕ) → length (link_of fs) ≡ link_size
unfolding link_of
link_wide fs = refl

whole : (f : ℕ) → f % 256 + 256 * (f / 256) ≡ f
whole f = omega arith

pub frames_again : (fs : List ℕ) → Frames fs → frames_of (link_of fs) ≡ fs
unfolding frames_of link_of
frames_again [] h = refl
frames_again (a ∷ []) h = rw (whole a)
frames_again (a ∷ b ∷ []) h = rw (whole a, whole b)
frames_again (a ∷ b ∷ c ∷ []) h = rw (whole a, whole b, whole c)
frames_again (a ∷ b ∷ c ∷ d ∷ []) h = rw (whole a, whole b, whole c, whole d)
frames_again (a ∷ b ∷ c ∷ d ∷ e ∷ fs) h = let y : ⊥ = omega (arith, h.few) in absurd y

slot_sound : (n k f : ℕ) → f < frames → (n ≤ k → f ≡ 0) → sound_slot n k f ≡ true
unfolding sound_slot
slot_sound n k f h z = go (ltb k n) refl
  where
    go : (t : Bool) → ltb k n ≡ t → cond t (ltb f frames) (eqb f 0) ≡ true
    go true e = lt-ltb _ _ h
    go false e = eq-eqb _ _ (z (ltb-false _ _ e))

pub link_sound : (fs : List ℕ) → Frames fs → sound_link (link_of fs) ≡ true
unfolding sound_link link_of
link_sound fs h =
    let slot : (k : ℕ) → sound_slot (length fs) k (get_or fs k 0) ≡ true =
    λ k. slot_sound (length fs) k (get_or fs k 0) (h.each k) (λ z. get_or-eq_default fs 0 {n = k} z) in
    simp (
      whole (get_or fs 0 0),
      whole (get_or fs 1 0),
      whole (get_or fs 2 0),
      whole (get_or fs 3 0),
      le-leb _ _ h.few,
      slot 0,
      slot 1,
      slot 2,
      slot 3,
    )

pub link_bytes : (fs : List ℕ) → Frames fs → Bytes (link_of fs)
unfolding link_of
link_bytes fs h =
    small_bytes (length fs ∷ 0 ∷ bytes_of 0 depth fs) (omega (arith, h.few, h.each 0, h.each 1, h.each 2, h.each 3))

-- ---- a frame less, a frame more

pub frames_less : (fs : List ℕ) → Frames fs → Frames (tail fs)
frames_less fs h = record { few = shorter fs h.few; each = each_tail (λ (f : ℕ). f < frames) 0 fs h.each }
  where
    shorter : (gs : List ℕ) → length gs ≤ depth → length (tail gs) ≤ depth
    shorter [] k = k
    shorter (g ∷ gs) k = omega arith

pub frames_more : (fs : List ℕ) (f : ℕ) → Frames fs → length fs < depth → f < frames → Frames (fs ++ (f ∷ []))
frames_more fs f h k m =
    record { few = simp length-append (omega arith); each = each_more (λ (g : ℕ). g < frames) 0 fs f m h.each }

abbrev pub shifted : List ℕ → List ℕ
shifted b =
    (get_or b 0 0 - 1) ∷ 0 ∷ get_or b 4 0 ∷ get_or b 5 0 ∷ get_or b 6 0 ∷ get_or b 7 0 ∷ get_or b 8 0 ∷ get_or b 9 0 ∷ 0 ∷ 0 ∷ []

shifted_link : (fs : List ℕ) → length fs ≤ depth → 0 < length fs → shifted (link_of fs) ≡ link_of (tail fs)
unfolding link_of
shifted_link [] few some = let z : ⊥ = omega arith in absurd z
shifted_link (a ∷ []) few some = refl
shifted_link (a ∷ b ∷ []) few some = refl
shifted_link (a ∷ b ∷ c ∷ []) few some = refl
shifted_link (a ∷ b ∷ c ∷ d ∷ []) few some = refl
shifted_link (a ∷ b ∷ c ∷ d ∷ e ∷ fs) few some = let z : ⊥ = omega arith in absurd z

abbrev pub longer : List ℕ → ℕ → ℕ → ℕ → List ℕ
longer b n k f = set (set (set b 0 (n + 1)) (2 + 2 * k) (f % 256)) (2 + 2 * k + 1) (f / 256)

longer_link : (fs : List ℕ) (f : ℕ) → length fs < depth →
    longer (link_of fs) (length fs) (length fs) f ≡ link_of (fs ++ (f ∷ []))
unfolding link_of
longer_link [] f few = refl
longer_link (a ∷ []) f few = refl
longer_link (a ∷ b ∷ []) f few = refl
longer_link (a ∷ b ∷ c ∷ []) f few = refl
longer_link (a ∷ b ∷ c ∷ d ∷ fs) f few = let z : ⊥ = omega arith in absurd z

-- a sound link's bytes
module _ (b : List ℕ) (small : Bytes b) (h : IsLink b) where
  pub few_in : length (frames_of b) ≤ depth
  few_in = (frames_sound b h.sound).few

  pub count_in : get_or b 0 0 ≡ length (frames_of b)
  count_in = sym (count_is b (tests b h.sound).few)

  back : link_of (frames_of b) ≡ b
  back = link_back b h.long small h.sound

  pub shifted_is : 0 < length (frames_of b) → shifted b ≡ link_of (tail (frames_of b))
  shifted_is some = ap shifted (sym back) ∙ shifted_link (frames_of b) few_in some

  pub longer_is : (n f : ℕ) → room_of (frames_of b) ≡ Some n →
      longer b (get_or b 0 0) n f ≡ link_of (frames_of b ++ (f ∷ []))
  longer_is n f s =
      let e = room_is (frames_of b) n s in
      rw (e.1, count_in)
      (ap (λ (x : List ℕ). longer x (length (frames_of b)) (length (frames_of b)) f) (sym back)
      ∙ longer_link (frames_of b) f e.0)
