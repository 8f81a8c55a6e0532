-- Remote and local beside 001, section 2.17: where each of its four states goes under every message and the panel key,
-- with the flag clear (RIDS) and set (RACS). One statement, computed in proofs/RemoteTable.antt.
use Rattle.std.specs.Prelude.{ℕ, ◌+◌, ◌-◌, ◌≡◌, List, [], ◌∷◌, ◌++◌, map}
use Rattle.device.specs.Device.{listen, auto_address, unaddress, LOCS, REMS, LWLS, RWLS}
use Rattle.device.specs.PowerOn.{power_on}
use Rattle.device.specs.Change.{listening, placed, remoting, enabling}
use Rattle.device.specs.Remote.{key}
use Rattle.device.specs.Take.{takes}
use Rattle.device.specs.declared.Device.{Device}

-- the flag, by 001's names: remote idle, remote active
abbrev pub RIDS : ℕ
RIDS = 0

abbrev pub RACS : ℕ
RACS = 1

-- a device at address 5: a listener with every ability of byte 0; one that could be, and can do nothing else; one that
-- can do all but listen
abbrev pub at5 : (abilities listener : ℕ) → Device
at5 a l = listening (placed (power_on (a ∷ 0x1f ∷ [])) 5 1) l

abbrev pub listener : Device
listener = at5 0xff 1

abbrev pub unaddressed : Device
unaddressed = at5 (auto_address + listen) 0

abbrev pub unable : Device
unable = at5 (0xff - listen - unaddress) 0

-- what reaches it: a frame, or the key, which is 001's local message rtl
pub data Given : Type 0 where
  frame : ℕ → Given
  rtl : Given

abbrev pub REN : Given
REN = frame 0x492

abbrev pub NRE : Given
NRE = frame 0x493

-- its own LAD
abbrev pub MLA : Given
MLA = frame 0x425

abbrev pub LLO : Given
LLO = frame 0x411

abbrev pub GTL : Given
GTL = frame 0x401

abbrev pub after : Given → Device → Device
after (frame f) d = (takes d f).device
after rtl d = key d

-- a state and the flag
pub record Standing : Type 0 where
  pub flag : ℕ
  pub state : ℕ

abbrev pub standing : (flag state : ℕ) → Standing
standing f s = record { flag = f; state = s }

-- where that takes the device from each of the four states, with this flag
abbrev pub from : Given → Device → (flag : ℕ) → List Standing
from g d f =
    map (λ s. let e = after g (remoting (enabling d f) s) in standing e.enabled e.remote)
    (LOCS ∷ REMS ∷ LWLS ∷ RWLS ∷ [])

-- what a line says of that: the flag, and the four states
abbrev pub to : (flag locs rems lwls rwls : ℕ) → List Standing
to f a b c e = map (standing f) (a ∷ b ∷ c ∷ e ∷ [])

-- a line: what reaches which devices, and where their states go, with the flag clear and set
pub record Line : Type 0 where
  pub given : Given
  pub devices : List Device
  pub idle : List Standing
  pub active : List Standing

abbrev pub line : Given → List Device → (idle active : List Standing) → Line
line g ds i a = record { given = g; devices = ds; idle = i; active = a }

-- of all three devices; of those that can listen; of those that do not
abbrev pub all : List Device
all = listener ∷ unaddressed ∷ unable ∷ []

abbrev pub able : List Device
able = listener ∷ unaddressed ∷ []

abbrev pub silent : List Device
silent = unaddressed ∷ unable ∷ []

-- The messages of 2.17. Behind the devices, from RIDS and then from RACS: the flag afterwards, and where LOCS, REMS,
-- LWLS and RWLS go.
abbrev pub moving : List Line
moving =
    line REN all (to RACS LOCS REMS LWLS RWLS) (to RACS LOCS REMS LWLS RWLS) ∷
    line NRE all (to RIDS LOCS LOCS LOCS LOCS) (to RIDS LOCS LOCS LOCS LOCS) ∷
    line MLA able (to RIDS LOCS REMS LWLS RWLS) (to RACS REMS REMS RWLS RWLS) ∷
    line MLA (unable ∷ []) (to RIDS LOCS REMS LWLS RWLS) (to RACS LOCS REMS LWLS RWLS) ∷
    line LLO all (to RIDS LOCS REMS LWLS RWLS) (to RACS LWLS RWLS LWLS RWLS) ∷
    line GTL (listener ∷ []) (to RIDS LOCS LOCS LWLS LWLS) (to RACS LOCS LOCS LWLS LWLS) ∷
    line GTL silent (to RIDS LOCS REMS LWLS RWLS) (to RACS LOCS REMS LWLS RWLS) ∷
    line rtl all (to RIDS LOCS LOCS LWLS RWLS) (to RACS LOCS LOCS LWLS RWLS) ∷
    []

-- another's LAD, own TAD and another's, and the first frame of every other message
abbrev pub others : List ℕ
others =
    0x426 ∷ 0x445 ∷ 0x446 ∷ 0x000 ∷ 0x200 ∷ 0x400 ∷ 0x404 ∷ 0x405 ∷ 0x408 ∷ 0x414 ∷ 0x415 ∷ 0x418 ∷ 0x43f ∷ 0x45f ∷
    0x460 ∷ 0x480 ∷ 0x490 ∷ 0x49a ∷ 0x49b ∷ 0x4a0 ∷ 0x4c0 ∷ 0x500 ∷ 0x540 ∷ 0x541 ∷ 0x542 ∷ 0x560 ∷ 0x561 ∷ 0x562 ∷
    0x563 ∷ 0x564 ∷ 0x580 ∷ 0x59f ∷ 0x5a0 ∷ 0x5bf ∷ 0x5c0 ∷ 0x5df ∷ 0x5e0 ∷ 0x5ff ∷ 0x600 ∷ []

abbrev pub staying : List Line
staying = map (λ f. line (frame f) all (to RIDS LOCS REMS LWLS RWLS) (to RACS LOCS REMS LWLS RWLS)) others

-- what a line's devices do, and what it says of them
abbrev pub seen : Line → List (List Standing × List Standing)
seen r = map (λ d. (from r.given d RIDS, from r.given d RACS)) r.devices

abbrev pub said : Line → List (List Standing × List Standing)
said r = map (λ (d : Device). (r.idle, r.active)) r.devices

abbrev pub Holds : List Line → Type 0
Holds rs = map seen rs ≡ map said rs

-- Each line's devices go where it says.
abbrev pub RemoteTable : Type 0
RemoteTable = Holds (moving ++ staying)
