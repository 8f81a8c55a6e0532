-- What a device does with the frames of a class: data or end below 0x400, identify from 0x600 on, nothing past
-- 2,047; and the numbers that AAD, AES, AEP and PPE carry.
use Prim.Native.Nat.{ℕ, ◌≤◌, ◌<◌}
use mathlib.Core.Path.{◌≡◌, refl, ◌∙◌}
use mathlib.Core.Logic.{⊎_elim}
use native.Mathlib.Omega.{arith}
use Rattle.frame.specs.declared.Kind.TheVariants.{Aad, Aep, Aes, Ppe}
use Rattle.frame.specs.Messages.{frames, messages, first_in, first_of, codes_in, codes_of}
use Rattle.frame.specs.Decoding.{has_c1, offset_in, decoded}
use Rattle.frame.proofs.Rows.{within_kind, no_frame}
use Rattle.frame.proofs.Laws.{data_kind, idy_kind}
use Rattle.device.specs.Choose.{choose}
use Rattle.device.specs.Reply.{sends}
use Rattle.device.specs.Data.{data_or_end, idy}
use Rattle.device.specs.Take.{takes_simple, takes}
use Rattle.device.specs.Sentences.{Of}
use Rattle.device.specs.declared.Device.{Device}
use Rattle.device.proofs.Chosen.{as_simple}

module _ (d : Device) (f : ℕ) where
  pub data_frame_lem : f < 0x400 → takes d f ≡ data_or_end d (decoded f)
  unfolding takes_simple choose
  data_frame_lem h =
      ⊎_elim (λ e. as_simple d f _ e refl refl ∙ rw e) (λ e. as_simple d f _ e refl refl ∙ rw e) (data_kind f h)

  pub idy_frame : 0x600 ≤ f → f < frames → takes d f ≡ idy d (decoded f)
  unfolding takes_simple choose
  idy_frame l h = let e = idy_kind f l h in as_simple d f _ e refl refl ∙ rw e

  pub past_frames : frames ≤ f → takes d f ≡ sends d f
  unfolding takes_simple choose
  past_frames h = let e = no_frame f h in as_simple d f _ e refl refl ∙ rw e

pub aad_codes : (f : ℕ) → Of Aad f → (0x580 ≤ f) × (f < 0x59f)
unfolding messages first_in first_of codes_in codes_of
aad_codes f e = within_kind f 34 e (omega arith)

pub aad_address : (f : ℕ) → Of Aad f → (decoded f).offset < 31
unfolding messages first_in first_of codes_in codes_of has_c1 offset_in
aad_address f e = let w = aad_codes f e in rw e (omega arith)

pub aes_codes : (f : ℕ) → Of Aes f → (0x5c0 ≤ f) × (f < 0x5df)
unfolding messages first_in first_of codes_in codes_of
aes_codes f e = within_kind f 38 e (omega arith)

pub aes_address : (f : ℕ) → Of Aes f → (decoded f).offset < 31
unfolding messages first_in first_of codes_in codes_of has_c1 offset_in
aes_address f e = let w = aes_codes f e in rw e (omega arith)

pub aep_address : (f : ℕ) → Of Aep f → (decoded f).offset < 31
unfolding messages first_in first_of codes_in codes_of has_c1 offset_in
aep_address f e = let w = within_kind f 36 e (omega arith) in rw e (omega arith)

pub ppe_number : (f : ℕ) → Of Ppe f → (decoded f).offset < 16
unfolding messages first_in first_of codes_in codes_of has_c1 offset_in
ppe_number f e = let w = within_kind f 17 e (omega arith) in rw e (omega arith)
