-- Sentences of 01, "What a device does with a frame", and of 02, b, d, f and h, on every frame that they speak of and
-- every device of either variant, sound or not, but for those that ask for bytes; `primary_lost` says that a command is
-- no extended device's own (02, i), and of a simple one nothing. Proved in proofs/Sentences.antt and, IdleStays, in
-- proofs/Idle.antt.
use Rattle.std.specs.Prelude.{ℕ, ◌+◌, ◌≤◌, ◌<◌, ◌≡◌, true, false, ◌⊎◌, eqb, get_or}
use Rattle.std.specs.Int.Bits.{bit_or}
use Rattle.frame.specs.declared.Kind.{Kind}
use Rattle.frame.specs.declared.Kind.TheVariants.{End, Gtl, Sdc, Get, Llo, Dcl, Lad, Tad, Ifc, Ren, Nre, Sda, Aad}
use Rattle.frame.specs.Messages.{number_of}
use Rattle.frame.specs.Classes.{IsData, IsCommand, IsIdentify}
use Rattle.frame.specs.Decoding.{decoded, frame_of}
use Rattle.device.specs.Choose.{choose}
use Rattle.device.specs.Device.{send_data, idle, addressed, sending_data, asking, REMS, end_last, no_address}
use Rattle.device.specs.Device.{extended, has, has_further}
use Rattle.device.specs.Change.{talking}
use Rattle.device.specs.Poll.{unassigned, answer}
use Rattle.device.specs.Reply.{eto, ete, sends, with_c1, stops, continues}
use Rattle.device.specs.Remote.{key}
use Rattle.device.specs.Extended.{primary_lost}
use Rattle.device.specs.Take.{takes}
use Rattle.device.specs.declared.Device.{Device}
use Rattle.device.specs.declared.Handed.TheVariants.{Nothing, Byte, Clear, Trigger}

-- the frame is of this kind
abbrev pub Of : Kind → ℕ → Type 0
Of k f = (decoded f).kind ≡ number_of k

-- it is decoded with C1 set
abbrev pub ShowsC1 : ℕ → Type 0
ShowsC1 f = (decoded f).c1 ≡ 1

-- talker states 2-5, and what is above them in a device that is not sound
abbrev pub Sending : Device → Type 0
Sending d = addressed < d.talker

-- Commands go on unchanged.
abbrev pub CommandsGoOn : Type 0
CommandsGoOn = (d : Device) (f : ℕ) → IsCommand f → (takes d f).frame ≡ f

-- Address 31 equals no LAD,
abbrev pub NoLadIs31 : Type 0
NoLadIs31 = (d : Device) (f : ℕ) → d.address ≡ no_address → Of Lad f → (takes d f).device ≡ primary_lost d

-- nor TAD: every TAD is another's, and the talker is idle.
abbrev pub NoTadIs31 : Type 0
NoTadIs31 =
    (d : Device) (f : ℕ) → d.address ≡ no_address → Of Tad f → (takes d f).device ≡ talking (primary_lost d) idle

-- A simple device that is talker idle stays so under every frame but TAD.
abbrev pub IdleStays : Type 0
IdleStays =
    (d : Device) (f : ℕ) → has_further d extended ≡ false → d.talker ≡ idle → (Of Tad f → ⊥) →
    (takes d f).device.talker ≡ idle

-- A configured device leaves AAD alone.
abbrev pub ConfiguredPassesAad : Type 0
ConfiguredPassesAad = (d : Device) (f : ℕ) → (d.configured ≡ 0 → ⊥) → Of Aad f → takes d f ≡ sends d f

-- In states 2-5 data or end is the device's own frame come back: not handed (nor is a byte of any other frame),
abbrev pub OwnNotHanded : Type 0
OwnNotHanded = (d : Device) (f b e : ℕ) → Sending d → (takes d f).handed ≡ Byte b e → ⊥

-- and not passed: ETE goes out, or ETO, or the reply's next byte (which of them, `returned` says).
abbrev pub OwnNotPassed : Type 0
OwnNotPassed =
    (d : Device) (f : ℕ) → Sending d → IsData f →
    (takes d f ≡ stops d ete) ⊎ ((takes d f ≡ stops d eto) ⊎ (takes d f ≡ continues d))

-- It is held to the last frame sent (02, b): ETE where C2, which tells DAB and END apart, or a data bit differs; where
-- they agree, ETO if NRD was noted, else the next byte, or ETO if nothing is left. C1 does not count.
pub record Compared (d : Device) (f : ℕ) : Type 0 where
  pub kinds_differ : ((decoded f).kind ≡ (decoded d.last).kind → ⊥) → takes d f ≡ stops d ete
  pub bits_differ : ((decoded f).offset ≡ (decoded d.last).offset → ⊥) → takes d f ≡ stops d ete
  pub agreed : (decoded f).kind ≡ (decoded d.last).kind → (decoded f).offset ≡ (decoded d.last).offset →
      takes d f ≡ choose (eqb d.noted 1) (stops d eto) (continues d)
  pub c1_uncounted : takes d (frame_of (with_c1 (decoded f))) ≡ takes d f

abbrev pub OwnCompared : Type 0
OwnCompared = (d : Device) (f : ℕ) → Sending d → IsData f → Compared d f

-- IDY goes on in every state, its data bits or-ed with the device's answer (02, f), and so unchanged where it has no
-- sense and bit; it is handed to nobody, and leaves the device as it was.
pub record IdyGoesOn : Type 0 where
  pub not_handed : (d : Device) (f : ℕ) → IsIdentify f → (takes d f).handed ≡ Nothing
  pub still_idy : (d : Device) (f : ℕ) → IsIdentify f → IsIdentify (takes d f).frame
  pub answered_bits : (d : Device) (f : ℕ) → IsIdentify f →
      (decoded (takes d f).frame).offset ≡ bit_or (decoded f).offset (answer d)
  pub same_bits : (d : Device) (f : ℕ) → d.assigned ≡ unassigned → IsIdentify f →
      (decoded (takes d f).frame).offset ≡ (decoded f).offset
  pub same_device : (d : Device) (f : ℕ) → IsIdentify f → (takes d f).device ≡ d

-- a DAB, END or IDY
abbrev pub ShowsService : ℕ → Type 0
ShowsService f = IsData f ⊎ IsIdentify f

-- what a device can reply with is bytes, as of every sound device (keeps:GoodOfBytes)
pub record OfBytes (d : Device) : Type 0 where
  pub status : d.status < 256
  pub accessory : d.accessory < 256
  pub id : (i : ℕ) → get_or d.id i 0 < 256
  pub load : (i : ℕ) → get_or d.load i 0 < 256

-- A device makes no command of its own: one that it sends is the frame that it took. Nor does it make an AAD of any
-- frame but an AAD.
pub record NoneOfItsOwn : Type 0 where
  pub command : (d : Device) (f : ℕ) → OfBytes d → IsCommand (takes d f).frame → (takes d f).frame ≡ f
  pub aad : (d : Device) (f : ℕ) → OfBytes d → Of Aad (takes d f).frame → Of Aad f

-- one byte of the data is left, and END is chosen for it (02, h)
pub record EndLeft (d : Device) : Type 0 where
  pub chosen : d.choice ≡ end_last
  pub last : d.sent + 1 ≡ d.loadlength
  pub byte : get_or d.load d.sent 0 < 256

-- END where it was asked for: it goes out as END, in answer to SDA, and to the byte before come back with no NRD noted;
pub record EndWhereAsked : Type 0 where
  pub at_sda : (d : Device) (f : ℕ) → EndLeft d → d.talker ≡ addressed → has d send_data ≡ true → Of Sda f →
      Of End (takes d f).frame
  pub at_own_byte : (d : Device) (f : ℕ) → EndLeft d → d.talker ≡ sending_data → (d.noted ≡ 1 → ⊥) → IsData f →
      (decoded f).kind ≡ (decoded d.last).kind → (decoded f).offset ≡ (decoded d.last).offset →
      Of End (takes d f).frame

-- and only then: a device whose choice is not END sends one only where it passes one on.
abbrev pub EndOnlyAsked : Type 0
EndOnlyAsked =
    (d : Device) (f : ℕ) → OfBytes d → (d.choice ≡ end_last → ⊥) → Of End (takes d f).frame →
    Of End f × (d.talker ≤ addressed)

-- Every DAB, END or IDY sent has C1 set if service, after the frame, is 1 (a number over 255 in place of a byte would
-- make another frame).
abbrev pub ServiceShown : Type 0
ServiceShown =
    (d : Device) (f : ℕ) → OfBytes d → (takes d f).device.service ≡ asking → ShowsService (takes d f).frame →
    ShowsC1 (takes d f).frame

-- C1 is never cleared on a frame passed: with C1 set, data and end go on as they came, and IDY with it set.
pub record C1Kept : Type 0 where
  pub on_data : (d : Device) (f : ℕ) → d.talker ≤ addressed → IsData f → ShowsC1 f → (takes d f).frame ≡ f
  pub on_idy : (d : Device) (f : ℕ) → IsIdentify f → ShowsC1 f → ShowsC1 (takes d f).frame

-- Leaving states 2-5 zeroes bytes 8, 14, 15, 16.
pub record Zeroed (d : Device) : Type 0 where
  pub noted : d.noted ≡ 0
  pub last : d.last ≡ 0
  pub replied : d.replied ≡ 0

abbrev pub LeavingZeroes : Type 0
LeavingZeroes =
    (d : Device) (f : ℕ) → Sending d → ((takes d f).device.talker ≡ d.talker → ⊥) → Zeroed (takes d f).device

-- ---- Clear, trigger, remote and local (02, d)

-- a clear is due: DCL at every device, SDC at an addressed listener; and a trigger: GET at an addressed listener
abbrev pub ClearDue : Device → ℕ → Type 0
ClearDue d f = Of Dcl f ⊎ (Of Sdc f × (d.listener ≡ 1))

abbrev pub TriggerDue : Device → ℕ → Type 0
TriggerDue d f = Of Get f × (d.listener ≡ 1)

-- Each is reported where it is due, and only there.
pub record EventsReported : Type 0 where
  pub clear : (d : Device) (f : ℕ) → ClearDue d f → (takes d f).handed ≡ Clear
  pub trigger : (d : Device) (f : ℕ) → TriggerDue d f → (takes d f).handed ≡ Trigger
  pub only_clear : (d : Device) (f : ℕ) → (takes d f).handed ≡ Clear → ClearDue d f
  pub only_trigger : (d : Device) (f : ℕ) → (takes d f).handed ≡ Trigger → TriggerDue d f

-- A clear or trigger changes no record, but that it is a command, nor does its message where none is due.
abbrev pub EventsChangeNothing : Type 0
EventsChangeNothing =
    (d : Device) (f : ℕ) → Of Dcl f ⊎ (Of Sdc f ⊎ Of Get f) → (takes d f).device ≡ primary_lost d

-- the state of remote and local and the flag stay
pub record SameRemote (d e : Device) : Type 0 where
  pub remote : e.remote ≡ d.remote
  pub enabled : e.enabled ≡ d.enabled

-- the messages that 001, 2.17, speaks of
abbrev pub MovesRemote : ℕ → Type 0
MovesRemote f = Of Ren f ⊎ (Of Nre f ⊎ (Of Lad f ⊎ (Of Llo f ⊎ Of Gtl f)))

-- Every other message leaves state and flag as they are,
abbrev pub OthersLeaveRemote : Type 0
OthersLeaveRemote = (d : Device) (f : ℕ) → (MovesRemote f → ⊥) → SameRemote d (takes d f).device

-- IFC among them.
abbrev pub IfcLeavesRemote : Type 0
IfcLeavesRemote = (d : Device) (f : ℕ) → Of Ifc f → SameRemote d (takes d f).device

-- Of remote and local, LLO and own LAD change nothing but while enabled,
abbrev pub OnlyEnabled : Type 0
OnlyEnabled = (d : Device) (f : ℕ) → (d.enabled ≡ 1 → ⊥) → Of Llo f ⊎ Of Lad f → SameRemote d (takes d f).device

-- and GTL changes nothing at all but at an addressed listener.
abbrev pub GtlOnlyListener : Type 0
GtlOnlyListener = (d : Device) (f : ℕ) → (d.listener ≡ 1 → ⊥) → Of Gtl f → (takes d f).device ≡ primary_lost d

-- The key does nothing where locked, nor in local.
abbrev pub KeyOnlyUnlocked : Type 0
KeyOnlyUnlocked = (d : Device) → (d.remote ≡ REMS → ⊥) → key d ≡ d
