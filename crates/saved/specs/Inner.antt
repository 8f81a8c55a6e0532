-- What inner functions ask of their callers and answer.
use Rattle.std.specs.Prelude.{ℕ, ◌<◌, ◌≡◌, Bool, cond, List, length}
use Rattle.record.specs.Sound.{sound_record}
use Rattle.area.specs.Link.{sound_link}
use Rattle.area.specs.Parts.{all}
use Rattle.area.specs.Loop.{unsound}
use Rattle.calls.specs.Outcome.{After, after}
use Rattle.saved.specs.Saved.{body, saved_size, saved_count, saved_devices, contents}
use Rattle.saved.specs.Older.{zero_choice_in, upgrade}

-- the body of a record is that of a sound device, or of a sound link
abbrev pub sound_device_in : List ℕ → Bool
sound_device_in r = sound_record (body r)

abbrev pub sound_link_in : List ℕ → Bool
sound_link_in r = sound_link (body r)

-- what an old save whose contents are sound comes to: 2 where a byte 19 is not zero, else its upgrade
abbrev pub old_opened : List ℕ → List ℕ → After ℕ
old_opened a s = cond (all zero_choice_in (saved_devices s)) (after 0 (contents (upgrade s))) (after unsound a)

-- a save of n devices, by its count, which is a byte, and its length
pub record SaveOf (n : ℕ) (s : List ℕ) : Type 0 where
  pub count : n ≡ saved_count s
  pub small : n < 256
  pub long : length s ≡ saved_size n
