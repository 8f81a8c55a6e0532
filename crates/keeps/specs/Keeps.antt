-- A sound device stays sound, whatever it is given: statements, proved in proofs/Keeps.antt.
use Rattle.std.specs.Prelude.{ℕ, ◌≤◌, ◌<◌, List}
use Rattle.frame.specs.Messages.{frames}
use Rattle.device.specs.Device.{end_last}
use Rattle.device.specs.Change.{choosing}
use Rattle.device.specs.Take.{takes}
use Rattle.frame.specs.Classes.{IsData}
use Rattle.device.specs.Sentences.{OfBytes}
use Rattle.record_local.specs.Local.{loads, sets_status, wishes, presses, sets_poll_status}
use Rattle.device.specs.declared.Device.{Device}
use Rattle.record.specs.Fits.{Bytes, Good}

-- A frame taken keeps a sound device sound, for every number taken for a frame
abbrev pub TakeKeeps : Type 0
TakeKeeps = (d : Device) (f : ℕ) → Good d → Good (takes d f).device

-- and a frame below 2,048 gives a frame below 2,048
abbrev pub TakeBelow : Type 0
TakeBelow = (d : Device) (f : ℕ) → Good d → f < frames → (takes d f).frame < frames

-- Each local call, refused or not, keeps a sound device sound
abbrev pub LoadKeeps : Type 0
LoadKeeps = (d : Device) (bs : List ℕ) (e : ℕ) → Bytes bs → Good d → Good (loads d bs e).device

-- a choice put into its record too
abbrev pub ChoiceKeeps : Type 0
ChoiceKeeps = (d : Device) (e : ℕ) → e ≤ end_last → Good d → Good (choosing d e)

abbrev pub StatusKeeps : Type 0
StatusKeeps = (d : Device) (s : ℕ) → s < 256 → Good d → Good (sets_status d s).device

abbrev pub WishKeeps : Type 0
WishKeeps = (d : Device) (w : ℕ) → Good d → Good (wishes d w).device

abbrev pub KeyKeeps : Type 0
KeyKeeps = (d : Device) → Good d → Good (presses d).device

abbrev pub PollStatusKeeps : Type 0
PollStatusKeeps = (d : Device) (s : ℕ) → Good d → Good (sets_poll_status d s).device

-- What a sound device holds: the last frame that it sent is a data byte, and what it can reply with is bytes
abbrev pub LastIsData : Type 0
LastIsData = (d : Device) → Good d → IsData d.last

abbrev pub GoodOfBytes : Type 0
GoodOfBytes = (d : Device) → Good d → OfBytes d
