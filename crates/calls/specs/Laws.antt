-- The laws of the calls, as statements. Their proofs are in proofs/Laws.antt.
use Rattle.std.specs.Prelude.{ℕ, ◌<◌, ◌≡◌, true, List}
use Rattle.record_local.specs.Local.{sets_status, wishes, presses, sets_poll_status}
use Rattle.record.specs.Fits.{Bytes}
use Rattle.record.specs.Sound.{allowed}
use Rattle.area.specs.Parts.{all}
use Rattle.area.specs.Loop.{Loop, size, area_of, SoundWith, SoundLoop, Holds}
use Rattle.calls.specs.Outcome.{Outcome, After, after_of, call_of, Is, loop_after}
use Rattle.calls.specs.Calls.{put_in, take_in, hop_in, local_in, load_in}
use Rattle.calls.specs.Drain.{drain_in}
use Rattle.calls.specs.SetUp.{items_of, items_fit, powered_on}

-- A contract leaves one answer and one area
abbrev pub Unique : Type 1
Unique = (A : Type 0) (o : After A) (r s : A) (x y : List ℕ) → Is o r x → Is o s y → (r ≡ s) × (x ≡ y)

-- A call on a sound loop's area does what it does with the loop
abbrev pub CallOnLoop : Type 1
CallOnLoop =
    (A : Type 0) (deny : ℕ → A) (call : Loop → Outcome A) (l : Loop) → SoundLoop l →
    call_of deny call (area_of l) ≡ after_of deny (area_of l) (call l)

-- m is a sound loop of as many devices as l
pub record Kept (l m : Loop) : Type 0 where
  pub sound : SoundLoop m
  pub same : size m ≡ size l

-- A call keeps sound loops sound, refused or not
abbrev pub Keeps : {A : Type 0} → (Loop → Outcome A) → Type 0
Keeps call = (l : Loop) → SoundLoop l → Kept l (loop_after l (call l))

-- The area after such a call holds the loop after it
abbrev pub AreaAfter : Type 1
AreaAfter =
    (A : Type 0) (deny : ℕ → A) (call : Loop → Outcome A) → Keeps call →
    (l : Loop) → SoundLoop l → Holds (call_of deny call (area_of l)).area (loop_after l (call l))

-- Every call is such a call
abbrev pub PutKeeps : Type 0
PutKeeps = (f : ℕ) → Keeps (put_in f)

abbrev pub TakeKeeps : Type 0
TakeKeeps = Keeps take_in

abbrev pub HopKeeps : Type 0
HopKeeps = (i : ℕ) → Keeps (hop_in i)

abbrev pub LoadKeeps : Type 0
LoadKeeps = (i : ℕ) (bs : List ℕ) (e : ℕ) → Bytes bs → Keeps (load_in i bs e)

abbrev pub StatusKeeps : Type 0
StatusKeeps = (i s : ℕ) → s < 256 → Keeps (local_in (λ d. sets_status d s) i)

abbrev pub WishKeeps : Type 0
WishKeeps = (i w : ℕ) → Keeps (local_in (λ d. wishes d w) i)

abbrev pub KeyKeeps : Type 0
KeyKeeps = (i : ℕ) → Keeps (local_in presses i)

abbrev pub PollStatusKeeps : Type 0
PollStatusKeeps = (i s : ℕ) → Keeps (local_in (λ d. sets_poll_status d s) i)

abbrev pub DrainKeeps : Type 0
DrainKeeps = (b : ℕ) → Keeps (drain_in b)

-- A set-up that is not refused leaves a sound loop
abbrev pub SetUpSound : Type 0
SetUpSound =
    (limit n : ℕ) (a items : List ℕ) → Bytes items → items_fit limit n a items ≡ true →
    all allowed (items_of n items) ≡ true → SoundWith limit (powered_on n items)
