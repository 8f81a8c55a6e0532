-- A DAB, END or IDY as it goes out, C1 set if service is 1: it is decoded as it was made, by the laws of the codes.
use Prim.Native.Nat.{ℕ, ◌*◌, ◌≤◌, ◌<◌}
use mathlib.Core.Path.{◌≡◌, refl, sym, ap, ◌∙◌}
use mathlib.Core.Bool.{Bool, true, false, cond}
use native.Mathlib.Omega.{arith}
use lib.Bits.{or_lt}
use lib.Dec.{eqb}
use lib.Pow.{pow-lt}
use borrow.Author.Tests.{eqb-false}
use Rattle.frame.specs.Messages.{frames, kind_at}
use Rattle.frame.specs.Decoding.{message, has_c1, decoded, frame_of}
use Rattle.frame.specs.Laws.{CodeOf}
use Rattle.frame.specs.declared.Message.{Message}
use Rattle.frame.proofs.Rows.{within_kind}
use Rattle.frame.proofs.Laws.{data_free, idy_free, Placed, placed, offsets_free, c1s_free, has, free}
use Rattle.device.specs.Choose.{choose}
use Rattle.device.specs.Device.{sending_status, sending_device_id, asking}
use Rattle.device.specs.Poll.{is_assigned, sense, bit_number, answer, answered}
use Rattle.device.specs.Reply.{with_c1, marked, other_byte}
use Rattle.device.specs.Sentences.{ShowsC1, OfBytes}
use Rattle.device.specs.declared.Device.{Device}
use Rattle.device.proofs.Chosen.{chosen}

-- a message that has C1
pub record Shows (m : Message) : Type 0 where
  pub free : has_c1 m.kind ≡ true
  pub offset : m.offset < 256
  pub c1 : m.c1 < 2

-- a frame of a kind with C1 is decoded to one
pub shows : (f : ℕ) → has_c1 (kind_at f) ≡ true → Shows (decoded f)
shows f t =
    let h = has f (free (kind_at f) t).listed in
    record {
      free = t;
      offset = omega (arith, h.offset, offsets_free (kind_at f) t);
      c1 = omega (arith, h.c1, c1s_free (kind_at f) t);
    }

pub data_shows : (f : ℕ) → f < 0x400 → Shows (decoded f)
data_shows f h = shows f (data_free f h)

pub idy_shows : (f : ℕ) → 0x600 ≤ f → f < frames → Shows (decoded f)
idy_shows f l h = shows f (idy_free f l h)

-- what the code asks of a frame that it marks: that it is its message's, and that its C1 is in it
pub record Asked (f : ℕ) : Type 0 where
  pub frame : f ≡ frame_of (decoded f)
  pub c1 : (decoded f).c1 < 2
  pub within : 256 * (decoded f).c1 ≤ f

pub asked : (f : ℕ) → has_c1 (kind_at f) ≡ true → Asked f
asked f t =
    let e = (has f (free (kind_at f) t).listed).frame in
    record { frame = sym e; c1 = (shows f t).c1; within = omega arith }

-- a reply's byte makes one
pub reply : (k o : ℕ) → has_c1 k ≡ true → o < 256 → Shows (message k o 0)
reply k o t i = record { free = t; offset = i; c1 = omega arith }

pub other_small : (d : Device) → OfBytes d → other_byte d < 256
unfolding other_byte
other_small d b =
    chosen (λ x. x < 256) (eqb d.talker sending_status) _ _ (λ e. b.status)
    (λ e. chosen (λ x. x < 256) (eqb d.talker sending_device_id) _ _ (λ i. b.id d.replied) (λ i. b.accessory))

-- with C1 set it still is
pub set : {m : Message} → Shows m → Shows (with_c1 m)
set s = record { free = s.free; offset = s.offset; c1 = omega arith }

-- a device's answer to a poll is a data bit, or none,
pub answer_small : (d : Device) → answer d < 256
unfolding answer
answer_small d =
    chosen (λ x. x < 256) (is_assigned d) _ _
    (λ e. chosen (λ x. x < 256) (eqb d.pollstatus (sense d)) _ _
    (λ s. pow-lt {i = bit_number d} {j = 8} (omega arith)) (λ s. omega arith))
    (λ e. omega arith)

-- and with it the message still is one
pub answers : (d : Device) {m : Message} → Shows m → Shows (answered d m)
answers d {m} s =
    record { free = s.free; offset = or_lt 8 m.offset (answer d) s.offset (answer_small d); c1 = s.c1 }

-- it makes a frame that is decoded to it
pub made : (m : Message) → Shows m → Placed m
made m s =
    placed m.kind m.offset m.c1 (omega (arith, s.offset, offsets_free m.kind s.free))
    (omega (arith, s.c1, c1s_free m.kind s.free))

module _ (d : Device) (m : Message) where
  either : (P : ℕ → Type 0) → P (frame_of m) → P (frame_of (with_c1 m)) → P (marked d m)
  unfolding marked
  either P h k = chosen P (eqb d.service asking) (frame_of (with_c1 m)) (frame_of m) (λ e. k) (λ e. h)

  module _ (s : Shows m) where
    pub marked_kind : kind_at (marked d m) ≡ m.kind
    marked_kind =
        either (λ x. kind_at x ≡ m.kind) (ap (λ (n : Message). n.kind) (made m s).again)
        (ap (λ (n : Message). n.kind) (made (with_c1 m) (set s)).again)

    pub marked_bits : (decoded (marked d m)).offset ≡ m.offset
    marked_bits =
        either (λ x. (decoded x).offset ≡ m.offset) (ap (λ (n : Message). n.offset) (made m s).again)
        (ap (λ (n : Message). n.offset) (made (with_c1 m) (set s)).again)

    -- it is one of its kind's codes
    pub marked_code : CodeOf m.kind (marked d m)
    marked_code = within_kind (marked d m) m.kind marked_kind (free m.kind s.free).listed

    pub marked_below : marked d m < frames
    marked_below = either (λ x. x < frames) (made m s).below (made (with_c1 m) (set s)).below

    -- C1 is one where the device asks for service, and else as it was made
    pub marked_c1 : (decoded (marked d m)).c1 ≡ cond (eqb d.service asking) 1 m.c1
    unfolding marked choose
    marked_c1 = go (eqb d.service asking)
      where
        go : (t : Bool) → (decoded (choose t (frame_of (with_c1 m)) (frame_of m))).c1 ≡ cond t 1 m.c1
        go true = ap (λ (n : Message). n.c1) (made (with_c1 m) (set s)).again
        go false = ap (λ (n : Message). n.c1) (made m s).again

    -- C1 is set
    pub marked_asks : d.service ≡ asking → ShowsC1 (marked d m)
    unfolding marked
    marked_asks a =
        chosen ShowsC1 (eqb d.service asking) (frame_of (with_c1 m)) (frame_of m)
        (λ e. ap (λ (n : Message). n.c1) (made (with_c1 m) (set s)).again) (λ e. absurd (eqb-false _ _ e a))

    -- and one that is set stays
    pub marked_keeps : m.c1 ≡ 1 → ShowsC1 (marked d m)
    marked_keeps h =
        either ShowsC1 (ap (λ (n : Message). n.c1) (made m s).again ∙ h)
        (ap (λ (n : Message). n.c1) (made (with_c1 m) (set s)).again)

  -- C1 is not cleared
  pub marked_same : m.c1 ≡ 1 → marked d m ≡ frame_of m
  marked_same h = either (λ x. x ≡ frame_of m) refl (ap (λ (c : ℕ). frame_of (message m.kind m.offset c)) (sym h))
