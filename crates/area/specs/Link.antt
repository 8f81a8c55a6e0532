-- A link's bytes (01, The lent area): a count, a zero byte, and little-endian frames, oldest first, the unused ones
-- zero.
use Rattle.std.specs.Prelude.{ℕ, zero, suc, ◌+◌, ◌/◌, ◌%◌, ◌≤◌, ◌<◌, ◌≡◌, List, [], ◌∷◌, Bool, true, ◌&&◌, cond, length, get_or, take, eqb, ltb, leb}
use Rattle.frame.specs.Messages.{frames}
use Rattle.record.specs.Record.{word}
use Rattle.area.specs.Sizes.{depth, link_size}

-- the n little-endian numbers of b from a place on
abbrev pub words_from : ℕ → ℕ → List ℕ → List ℕ
words_from at zero b = []
words_from at (suc n) b = word at b ∷ words_from (at + 2) n b

-- all the numbers of a link, of which the count says how many are frames
abbrev pub slots_of : List ℕ → List ℕ
slots_of b = words_from 2 depth b

-- the frames in a link's bytes
unfoldable pub frames_of : List ℕ → List ℕ
frames_of b = take (get_or b 0 0) (slots_of b)

-- the bytes of n frames from the k-th on, zero where there are no more
abbrev pub bytes_of : ℕ → ℕ → List ℕ → List ℕ
bytes_of k zero fs = []
bytes_of k (suc n) fs = get_or fs k 0 % 256 ∷ get_or fs k 0 / 256 ∷ bytes_of (suc k) n fs

-- the bytes of a link that holds these frames
unfoldable pub link_of : List ℕ → List ℕ
link_of fs = length fs ∷ 0 ∷ bytes_of 0 depth fs

-- the k-th number of a link that holds n frames: a frame, or else 0
unfoldable pub sound_slot : ℕ → ℕ → ℕ → Bool
sound_slot n k f = cond (ltb k n) (ltb f frames) (eqb f 0)

-- so are all the numbers from the k-th on
abbrev pub sound_slots : ℕ → ℕ → List ℕ → Bool
sound_slots n k [] = true
sound_slots n k (f ∷ fs) = sound_slot n k f && sound_slots n (suc k) fs

-- the bytes of a link are sound: the count, the zero byte, each number
unfoldable pub sound_link : List ℕ → Bool
sound_link b = leb (get_or b 0 0) depth && (eqb (get_or b 1 0) 0 && sound_slots (get_or b 0 0) 0 (slots_of b))

-- what a sound link holds: at most four frames, each below 2,048
pub record Frames (fs : List ℕ) : Type 0 where
  pub few : length fs ≤ depth
  pub each : (k : ℕ) → get_or fs k 0 < frames

-- these are the bytes of a sound link
pub record IsLink (b : List ℕ) : Type 0 where
  pub long : length b ≡ link_size
  pub sound : sound_link b ≡ true
