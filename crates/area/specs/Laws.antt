-- The laws of areas and loops, as statements: an area without a refusal and a sound loop say the same, the area is
-- bytes, and a link's room is used again. Proofs: proofs/Laws.antt.
use Rattle.std.specs.Prelude.{ℕ, ◌≡◌, List, ◌∷◌, length, Some}
use Rattle.record.specs.Fits.{Bytes}
use Rattle.area.specs.Loop.{Loop, loop_of, area_of, judge_of, link, SoundLoop}
use Rattle.area.specs.Lookup.{room_of, remove}

-- The area of the loop read from an area without a refusal is that area, byte for byte
abbrev pub AreaBack : Type 0
AreaBack = (a : List ℕ) → Bytes a → judge_of a ≡ 0 → area_of (loop_of a) ≡ a

-- and that loop is sound
abbrev pub LoopSound : Type 0
LoopSound = (a : List ℕ) → Bytes a → judge_of a ≡ 0 → SoundLoop (loop_of a)

-- The loop read from a sound loop's area is that loop
abbrev pub LoopBack : Type 0
LoopBack = (l : Loop) → SoundLoop l → loop_of (area_of l) ≡ l

-- and that area has no refusal
abbrev pub AreaSound : Type 0
AreaSound = (l : Loop) → SoundLoop l → judge_of (area_of l) ≡ 0

-- and is bytes
abbrev pub AreaBytes : Type 0
AreaBytes = (l : Loop) → SoundLoop l → Bytes (area_of l)

-- Room freed in a link is used again: after its oldest frame is removed, the link has room behind the others
abbrev pub RoomAgain : Type 0
RoomAgain = (l : Loop) (j f : ℕ) (fs : List ℕ) → SoundLoop l → link l j ≡ f ∷ fs →
    room_of (link (remove j l) j) ≡ Some (length fs)
