-- The laws of saved loops (02, a and h), as statements. Their proofs are in proofs/Laws.antt.
use Rattle.std.specs.Prelude.{ℕ, ◌+◌, ◌*◌, ◌≡◌, true, false, List, length}
use Rattle.record.specs.Fits.{Bytes}
use Rattle.area.specs.Parts.{all}
use Rattle.area.specs.Loop.{count_in, records_in, links_in, judge_of}
use Rattle.calls.specs.Outcome.{after}
use Rattle.saved.specs.Saved.{saved, saved_size, contents}
use Rattle.saved.specs.Older.{saved_before, old, zero_choice, upgrade, upgraded, opened, asked_area}
use Rattle.saved.specs.Calls.{save_of, open_of}

-- A save of n devices is 30 + 86n bytes, and an area's saved form has that length
abbrev pub SavedLong : Type 0
SavedLong = (a : List ℕ) → judge_of a ≡ 0 →
    (saved_size (count_in a) ≡ 30 + 86 * count_in a) × (length (saved a) ≡ saved_size (count_in a))

-- Open after save: what a save that is not refused wrote, opened in an area of as many bytes, gives the area saved
abbrev pub OpenAfterSave : Type 0
OpenAfterSave = (a out lent s : List ℕ) → save_of a out ≡ after 0 s → length lent ≡ length a → open_of lent s ≡ after 0 a

-- so a save of one loop, opened over the area of another of as many devices, gives the first
abbrev pub OpenOver : Type 0
OpenOver = (a b : List ℕ) → judge_of a ≡ 0 → judge_of b ≡ 0 → count_in a ≡ count_in b → open_of b (saved a) ≡ after 0 a

-- One saved form: what a save opens to has no refusal, and that save is its saved form,
abbrev pub OneForm : Type 0
OneForm = (a lent s : List ℕ) → open_of lent s ≡ after 0 a → old s ≡ false → (judge_of a ≡ 0) × (s ≡ saved a)

-- or, where the save is old, its upgrade is,
abbrev pub OldForm : Type 0
OldForm = (a lent s : List ℕ) → Bytes s → open_of lent s ≡ after 0 a → old s ≡ true →
    (judge_of a ≡ 0) × (upgrade s ≡ saved a)

-- so that saving it again gives that save, or its upgrade, in any output of its length
abbrev pub SaveOpened : Type 0
SaveOpened = (a lent s out : List ℕ) → Bytes s → open_of lent s ≡ after 0 a → length out ≡ length s →
    save_of a out ≡ after 0 (upgraded s)

-- and two areas without a refusal that have one saved form are one area
abbrev pub SavedOnce : Type 0
SavedOnce = (a b : List ℕ) → judge_of a ≡ 0 → judge_of b ≡ 0 → saved a ≡ saved b → a ≡ b

-- What was written before still opens: an area without a refusal in which every byte 19 is zero, as all were then,
-- comes back with END chosen by each device with data
abbrev pub OldOpens : Type 0
OldOpens = (a lent : List ℕ) → judge_of a ≡ 0 → all zero_choice (records_in a) ≡ true → length lent ≡ length a →
    open_of lent (saved_before a) ≡ after 0 (asked_area a)

-- An opening keeps the links that the save holds
abbrev pub OpenedLinks : Type 0
OpenedLinks = (a lent s : List ℕ) → open_of lent s ≡ after 0 a → links_in a ≡ links_in (contents s)

-- The saved form of bytes is bytes, and what a save of bytes opens to is
abbrev pub SavedBytes : Type 0
SavedBytes = (a : List ℕ) → Bytes a → Bytes (saved a)

abbrev pub OpenedBytes : Type 0
OpenedBytes = (s : List ℕ) → Bytes s → Bytes (opened s)
