-- The bits that a frame's kind leaves free are its offset and C1: by one computed test over all frames each; a number
-- past these is of kind 0, which leaves none free.
use Prim.Native.Nat.{ℕ, ◌/◌, ◌%◌, ◌<◌}
use mathlib.Core.Path.{◌≡◌, refl}
use native.Mathlib.Decide.{dec_lt}
use native.Mathlib.Omega.{arith}
use lib.Bits.{bit_and, and_zero_r}
use Rattle.frame.specs.Messages.{frames, kinds, messages, within, lookup, kind_at, first_in, codes_in, first_of, codes_of}
use Rattle.frame.specs.Decoding.{has_c1, offset_in, c1_in, decoded}
use Rattle.frame.specs.declared.Message.{Message}
use Rattle.frame.proofs.Rows.{within_kind, coded, no_frame}
use Rattle.frame.proofs.Table.{values, same}
use Rattle.engine_reading.specs.Reading.{free_bits}

-- a kind's number is below 43
pub few : (f : ℕ) → kind_at f < kinds
few f = go (dec_lt 0 (kind_at f))
  where
    go : Dec (0 < kind_at f) → kind_at f < kinds
    go (yes h) = let w = within_kind f (kind_at f) refl h in
        (coded (kind_at f) 0 (omega arith)).3
    go (no h) = omega arith

-- what holds of a kind and a frame of it: tried on all frames, and shown for kind 0
everywhere : (g h : (kind frame : ℕ) → ℕ) →
    values (λ f. g (kind_at f) f) 0 frames ≡ values (λ f. h (kind_at f) f) 0 frames →
    ((f : ℕ) → g 0 f ≡ h 0 f) → (f : ℕ) → g (kind_at f) f ≡ h (kind_at f) f
everywhere g h e z f = go (dec_lt f frames)
  where
    go : Dec (f < frames) → g (kind_at f) f ≡ h (kind_at f) f
    go (yes i) = same (λ x. g (kind_at x) x) (λ x. h (kind_at x) x) frames f e i
    go (no i) = rw (no_frame f (omega arith)) (z f)

offset_free : (f : ℕ) → bit_and (f % 256) (free_bits (kind_at f)) ≡ offset_in (kind_at f) f
unfolding messages within lookup kind_at first_in codes_in first_of codes_of has_c1 offset_in free_bits
offset_free = everywhere (λ k f. bit_and (f % 256) (free_bits k)) offset_in refl (λ f. and_zero_r (f % 256))

c1_free : (f : ℕ) → bit_and (f / 256 % 2) (free_bits (kind_at f) / 0xff) ≡ c1_in (kind_at f) f
unfolding messages within lookup kind_at first_in codes_in first_of codes_of has_c1 c1_in free_bits
c1_free = everywhere (λ k f. bit_and (f / 256 % 2) (free_bits k / 0xff)) c1_in refl (λ f. and_zero_r (f / 256 % 2))

pub is_decoding : (f : ℕ) →
    let b = free_bits (kind_at f) in
    let m : Message = record { kind = kind_at f; offset = bit_and (f % 256) b; c1 = bit_and (f / 256 % 2) (b / 0xff) } in
    m ≡ decoded f
is_decoding f = rw (offset_free f, c1_free f)
