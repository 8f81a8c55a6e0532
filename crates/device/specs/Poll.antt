-- Parallel poll (02, f; 001, section 2.12 and note 5 of the message table): how PPE, PPD and PPU give a device its
-- sense and bit and take them away, and what it answers to an IDY that passes.
use Rattle.std.specs.Prelude.{ℕ, ◌+◌, ◌/◌, ◌%◌, ◌^◌, Bool, eqb, ltb}
use Rattle.std.specs.Int.Bits.{bit_or}
use Rattle.frame.specs.Decoding.{message}
use Rattle.frame.specs.declared.Message.{Message}
use Rattle.device.specs.Choose.{choose}
use Rattle.device.specs.Device.{parallel_poll, has_further}
use Rattle.device.specs.Change.{assigning}
use Rattle.device.specs.declared.Device.{Device}

-- PPE's low four bits SBBB are a sense and the number of a bit, and byte 22 holds them with 16 added
abbrev pub assignment : (sbbb : ℕ) → ℕ
assignment sbbb = 16 + sbbb

-- or 0, where none are assigned
abbrev pub unassigned : ℕ
unassigned = 0

abbrev pub is_assigned : Device → Bool
is_assigned d = ltb unassigned d.assigned

-- the assigned sense S
abbrev pub sense : Device → ℕ
sense d = d.assigned / 8 % 2

-- the number BBB of the assigned bit: 0 is D1, 7 is D8
abbrev pub bit_number : Device → ℕ
bit_number d = d.assigned % 8

-- PPE, at an addressed listener with the ability: sense and bit are assigned
unfoldable pub ppe : Device → ℕ → Device
ppe d sbbb =
    choose (eqb d.listener 1)
    (choose (has_further d parallel_poll) (assigning d (assignment sbbb)) d)
    d

-- PPD, at an addressed listener: they are taken away
unfoldable pub ppd : Device → Device
ppd d = choose (eqb d.listener 1) (assigning d unassigned) d

-- PPU: they are taken away at every device
abbrev pub ppu : Device → Device
ppu d = assigning d unassigned

-- what a device answers to an IDY: its bit, where one is assigned and its status is the sense; else none
unfoldable pub answer : Device → ℕ
answer d =
    choose (is_assigned d)
    (choose (eqb d.pollstatus (sense d)) (2 ^ bit_number d) 0)
    0

-- an IDY with that or-ed to its data bits: no bit is cleared
abbrev pub answered : Device → Message → Message
answered d m = message m.kind (bit_or m.offset (answer d)) m.c1
