-- Sentences of 02, f, on parallel poll, and of 001, section 2.12: each holds for every device, sound or not, but for
-- one that asks for a status of 0 or 1. Proved in proofs/Assigned.antt and proofs/PollSentences.antt.
use Rattle.std.specs.Prelude.{ℕ, ◌≤◌, ◌≡◌, ◌⊎◌, Bool, true, false, not, cond, ◌&&◌, ◌||◌, List, [], ◌∷◌, eqb}
use Rattle.std.specs.Int.Bits.{bit_or}
use Rattle.frame.specs.declared.Kind.TheVariants.{Ppe, Ppd, Ppu}
use Rattle.frame.specs.Classes.{IsIdentify}
use Rattle.frame.specs.Decoding.{decoded}
use Rattle.frame.specs.Bits.{bit}
use Rattle.device.specs.Device.{asking, parallel_poll, has_further}
use Rattle.device.specs.Change.{assigning}
use Rattle.device.specs.Poll.{assignment, unassigned, is_assigned, sense, bit_number, answer}
use Rattle.device.specs.Extended.{primary_lost}
use Rattle.device.specs.Take.{takes}
use Rattle.device.specs.Sentences.{Of}
use Rattle.device.specs.declared.Device.{Device}

-- ---- PPE, PPD and PPU

-- PPE assigns sense and bit at an addressed listener with the ability, PPD takes them away at an addressed listener,
-- and PPU at every device;
pub record Assigning : Type 0 where
  pub ppe : (d : Device) (f : ℕ) → d.listener ≡ 1 → has_further d parallel_poll ≡ true → Of Ppe f →
      (takes d f).device ≡ assigning (primary_lost d) (assignment (decoded f).offset)
  pub ppd : (d : Device) (f : ℕ) → d.listener ≡ 1 → Of Ppd f →
      (takes d f).device ≡ assigning (primary_lost d) unassigned
  pub ppu : (d : Device) (f : ℕ) → Of Ppu f → (takes d f).device ≡ assigning (primary_lost d) unassigned

-- elsewhere PPE and PPD leave sense and bit;
pub record OnlyListeners : Type 0 where
  pub ppe : (d : Device) (f : ℕ) → (d.listener ≡ 1 → ⊥) → Of Ppe f → (takes d f).device ≡ primary_lost d
  pub ppe_able : (d : Device) (f : ℕ) → has_further d parallel_poll ≡ false → Of Ppe f → (takes d f).device ≡ primary_lost d
  pub ppd : (d : Device) (f : ℕ) → (d.listener ≡ 1 → ⊥) → Of Ppd f → (takes d f).device ≡ primary_lost d

-- no other message changes them, IFC among those, and none at all changes the status or the ability.
abbrev pub Assigns : ℕ → Type 0
Assigns f = Of Ppe f ⊎ (Of Ppd f ⊎ Of Ppu f)

pub record LeavesPoll : Type 0 where
  pub assigned : (d : Device) (f : ℕ) → (Assigns f → ⊥) → (takes d f).device.assigned ≡ d.assigned
  pub pollstatus : (d : Device) (f : ℕ) → (takes d f).device.pollstatus ≡ d.pollstatus
  pub further : (d : Device) (f : ℕ) → (takes d f).device.further ≡ d.further

-- ---- IDY

-- bit i is the device's
abbrev pub on_bit : ℕ → Device → Bool
on_bit i d = is_assigned d && eqb (bit_number d) i

-- and its status is the sense
abbrev pub answers_at : ℕ → Device → Bool
answers_at i d = on_bit i d && eqb d.pollstatus (sense d)

-- A bit of an IDY becomes one where the device answers there, and else stays as it came: no bit is cleared.
abbrev pub IdyBits : Type 0
IdyBits =
    (i : ℕ) (d : Device) (f : ℕ) → IsIdentify f →
    bit i (decoded (takes d f).frame).offset ≡ cond (answers_at i d) 1 (bit i (decoded f).offset)

-- Its C1 is that of 01, whatever the device answers.
abbrev pub IdyC1 : Type 0
IdyC1 =
    (d : Device) (f : ℕ) → IsIdentify f →
    (decoded (takes d f).frame).c1 ≡ cond (eqb d.service asking) 1 (decoded f).c1

-- ---- An IDY past several devices

-- the frame after these devices, one after the other
abbrev pub past_all : List Device → ℕ → ℕ
past_all [] f = f
past_all (d ∷ ds) f = past_all ds (takes d f).frame

-- data bits, or-ed with each device's answer
abbrev pub polled_by : ℕ → List Device → ℕ
polled_by bits [] = bits
polled_by bits (d ∷ ds) = polled_by (bit_or bits (answer d)) ds

-- An IDY comes out as one, its data bits so or-ed.
pub record PastAll : Type 0 where
  pub still_idy : (ds : List Device) (f : ℕ) → IsIdentify f → IsIdentify (past_all ds f)
  pub bits : (ds : List Device) (f : ℕ) → IsIdentify f →
      (decoded (past_all ds f)).offset ≡ polled_by (decoded f).offset ds

-- P holds of each device
abbrev pub Each : (Device → Type 0) → List Device → Type 0
Each P [] = Unit {0}
Each P (d ∷ ds) = P d × Each P ds

-- some device on bit i has status 1; every one has
abbrev pub some_on : ℕ → List Device → Bool
some_on i [] = false
some_on i (d ∷ ds) = (on_bit i d && eqb d.pollstatus 1) || some_on i ds

abbrev pub all_on : ℕ → List Device → Bool
all_on i [] = true
all_on i (d ∷ ds) = (not (on_bit i d) || eqb d.pollstatus 1) && all_on i ds

-- Several devices on one bit, whatever others do. With sense 1 a bit that came as zero is the or of their statuses, and
-- one that came as one stays;
abbrev pub SharedOr : Type 0
SharedOr =
    (i bits : ℕ) (ds : List Device) → Each (λ d. on_bit i d ≡ true → sense d ≡ 1) ds →
    bit i (polled_by bits ds) ≡ cond (some_on i ds) 1 (bit i bits)

-- with sense 0 one that came as zero is the negated and.
abbrev pub SharedAnd : Type 0
SharedAnd =
    (i bits : ℕ) (ds : List Device) → Each (λ d. on_bit i d ≡ true → sense d ≡ 0) ds →
    Each (λ d. d.pollstatus ≤ 1) ds → bit i (polled_by bits ds) ≡ cond (all_on i ds) (bit i bits) 1
