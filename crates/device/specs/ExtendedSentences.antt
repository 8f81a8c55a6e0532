-- Sentences of 02, i, on the two variants of a device, and of 001, sections 2.7, 2.8 and 2.15: each holds for every
-- device of the variant, sound or not. Proved in proofs/ExtendedSentences.antt.
use Rattle.std.specs.Prelude.{ℕ, ◌+◌, ◌≡◌, Bool, true, false, ◌⊎◌}
use Rattle.frame.specs.declared.Kind.TheVariants.{Lad, Tad, Sad, Aau, Aad, Aes, Aep, Iep, Ies}
use Rattle.frame.specs.Decoding.{decoded}
use Rattle.device.specs.Device.{listen, extended, idle, addressed, no_address, half_assigned, has, has_further}
use Rattle.device.specs.Device.{talks, fixed_second, present_second, listen_primary, talk_primary}
use Rattle.device.specs.Remote.{to_remote}
use Rattle.device.specs.Reply.{sends}
use Rattle.device.specs.Extended.{command_kind}
use Rattle.device.specs.Take.{takes_simple, takes}
use Rattle.device.specs.Sentences.{Of}
use Rattle.device.specs.declared.Device.{Device}

-- a simple device, and an extended one
abbrev pub Simple : Device → Type 0
Simple d = has_further d extended ≡ false

abbrev pub Extended : Device → Type 0
Extended d = has_further d extended ≡ true

-- A simple device goes by the simple rules, and leaves SAD, AES and AEP alone.
pub record SimpleAlone : Type 0 where
  pub rules : (d : Device) (f : ℕ) → Simple d → takes d f ≡ takes_simple d f
  pub passes : (d : Device) (f : ℕ) → Simple d → Of Sad f ⊎ (Of Aes f ⊎ Of Aep f) → takes d f ≡ sends d f

-- ---- What an extended device remembers of the commands before

-- a LAD or TAD of its own, which it has the ability for, and its own SAD
abbrev pub OwnLad : Device → ℕ → Type 0
OwnLad d f = Of Lad f × (((decoded f).offset ≡ d.address) × (has d listen ≡ true))

abbrev pub OwnTad : Device → ℕ → Type 0
OwnTad d f = Of Tad f × (((decoded f).offset ≡ d.address) × (talks d ≡ true))

abbrev pub OwnSad : Device → ℕ → Type 0
OwnSad d f = Of Sad f × ((decoded f).offset ≡ present_second d)

-- the flags of a device
pub record Flags (d : Device) (l t : Bool) : Type 0 where
  pub listen : listen_primary d ≡ l
  pub talk : talk_primary d ≡ t

-- Own LAD and own TAD set a flag and clear the other, and own LAD goes to remote while enabled; own SAD leaves both,
-- every other command clears both, and no other frame changes them.
pub record Remembers : Type 0 where
  pub own_lad : (d : Device) (f : ℕ) → Extended d → OwnLad d f → Flags (takes d f).device true false
  pub own_lad_remote : (d : Device) (f : ℕ) → Extended d → OwnLad d f → (takes d f).device.remote ≡ (to_remote d).remote
  pub own_tad : (d : Device) (f : ℕ) → Extended d → OwnTad d f → Flags (takes d f).device false true
  pub own_sad : (d : Device) (f : ℕ) → Extended d → OwnSad d f →
      Flags (takes d f).device (listen_primary d) (talk_primary d)
  pub other_command : (d : Device) (f : ℕ) → Extended d → command_kind (decoded f).kind ≡ true →
      (OwnLad d f ⊎ (OwnTad d f ⊎ OwnSad d f) → ⊥) → Flags (takes d f).device false false
  pub no_command : (d : Device) (f : ℕ) → Extended d → command_kind (decoded f).kind ≡ false →
      Flags (takes d f).device (listen_primary d) (talk_primary d)

-- ---- SAD

-- the same roles
pub record SameRoles (d e : Device) : Type 0 where
  pub listener : e.listener ≡ d.listener
  pub talker : e.talker ≡ d.talker

-- Own SAD after the listen primary makes a listener, and after the talk primary an addressed talker, each with the
-- ability; without a primary SAD changes no role, nor does a primary by itself. Another's SAD has the talker idle after
-- the talk primary, and without it changes no role.
pub record BySecond : Type 0 where
  pub to_listener : (d : Device) (f : ℕ) → Extended d → Flags d true false → has d listen ≡ true → OwnSad d f →
      (takes d f).device.listener ≡ 1
  pub to_talker : (d : Device) (f : ℕ) → Extended d → Flags d false true → talks d ≡ true → OwnSad d f →
      (takes d f).device.talker ≡ addressed
  pub no_primary : (d : Device) (f : ℕ) → Extended d → Flags d false false → Of Sad f → SameRoles d (takes d f).device
  pub other_second : (d : Device) (f : ℕ) → Extended d → talk_primary d ≡ true → Of Sad f →
      ((decoded f).offset ≡ present_second d → ⊥) → (takes d f).device.talker ≡ idle
  pub other_untalked : (d : Device) (f : ℕ) → Extended d → talk_primary d ≡ false → Of Sad f →
      ((decoded f).offset ≡ present_second d → ⊥) → SameRoles d (takes d f).device
  pub unable : (d : Device) (f : ℕ) → Extended d → has d listen ≡ false → talks d ≡ false → Of Sad f →
      (decoded f).offset ≡ present_second d → SameRoles d (takes d f).device
  pub primary_alone : (d : Device) (f : ℕ) → Extended d → OwnLad d f ⊎ OwnTad d f → SameRoles d (takes d f).device

-- ---- AES, AEP and AAU

-- the same addresses, and as configured
pub record SamePlace (d e : Device) : Type 0 where
  pub address : e.address ≡ d.address
  pub second : present_second e ≡ present_second d
  pub configured : e.configured ≡ d.configured

-- AES is taken by an unconfigured device alone, which sends the next; AEP by a half assigned one whose second address
-- is not 31, and goes on unchanged; AAU gives both fixed addresses back, in whatever state. None of them changes a
-- role; and AAD, IES and IEP are not for it.
pub record Assigned : Type 0 where
  pub aes : (d : Device) (f : ℕ) → Extended d → d.configured ≡ 0 → Of Aes f →
      (present_second (takes d f).device ≡ (decoded f).offset) × ((takes d f).device.address ≡ d.address) ×
      ((takes d f).device.configured ≡ half_assigned) × ((takes d f).frame ≡ f + 1) × SameRoles d (takes d f).device
  pub aes_once : (d : Device) (f : ℕ) → Extended d → (d.configured ≡ 0 → ⊥) → Of Aes f → takes d f ≡ sends d f
  pub aep : (d : Device) (f : ℕ) → Extended d → d.configured ≡ half_assigned →
      (present_second d ≡ no_address → ⊥) → Of Aep f →
      ((takes d f).device.address ≡ (decoded f).offset) × (present_second (takes d f).device ≡ present_second d) ×
      ((takes d f).device.configured ≡ 1) × ((takes d f).frame ≡ f) × SameRoles d (takes d f).device
  pub aep_half : (d : Device) (f : ℕ) → Extended d → (d.configured ≡ half_assigned → ⊥) → Of Aep f →
      takes d f ≡ sends d f
  pub aep_legal : (d : Device) (f : ℕ) → Extended d → present_second d ≡ no_address → Of Aep f → takes d f ≡ sends d f
  pub aau : (d : Device) (f : ℕ) → Extended d → Of Aau f →
      ((takes d f).device.address ≡ d.fixed) × (present_second (takes d f).device ≡ fixed_second d) ×
      ((takes d f).device.configured ≡ 0) × SameRoles d (takes d f).device
  pub others : (d : Device) (f : ℕ) → Extended d → Of Aad f ⊎ (Of Iep f ⊎ Of Ies f) → takes d f ≡ sends d f

-- No other frame changes where an extended device is: one that is half assigned with 31 waits for AAU.
abbrev pub PlaceKept : Type 0
PlaceKept =
    (d : Device) (f : ℕ) → Extended d → (Of Aes f ⊎ (Of Aep f ⊎ Of Aau f) → ⊥) → SamePlace d (takes d f).device
