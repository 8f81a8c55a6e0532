-- A frame sent right round is refused nowhere: what the lister prints is what the devices did, and no refusal's zeros.
use Rattle.std.specs.Prelude.{ℕ, ◌<◌, ◌≡◌, List, []}
use Rattle.frame.specs.Messages.{frames}
use Rattle.record.specs.Fits.{Bytes}
use Rattle.area.specs.Loop.{Loop, area_of, count_in, link, SoundLoop}
use Rattle.calls.specs.Calls.{put_of, hop_of, take_of}
use Rattle.calls.specs.SetUp.{set_up_of}
use Rattle.round.specs.Round.{hops_area, put_area, hopped_area, round_area}

-- an area at rest: that of a sound loop whose links are all empty
pub record AtRest (a : List ℕ) : Type 0 where
  pub loop : Loop
  pub sound : SoundLoop loop
  pub is : a ≡ area_of loop
  pub empty : (j : ℕ) → link loop j ≡ []

-- the put, the hop of each device and the take are accepted, and leave the area at rest
pub record Accepted (f : ℕ) (a : List ℕ) : Type 0 where
  pub put : (put_of a f).answer ≡ 0
  pub hops : (i : ℕ) → i < count_in a → (hop_of (hops_area i 0 (put_area f a)) i).answer.refusal ≡ 0
  pub take : (take_of (hopped_area f a)).answer.refusal ≡ 0
  pub rest : AtRest (round_area f a)

-- So it is with every frame, from rest
abbrev pub NeverRefused : Type 0
NeverRefused = (f : ℕ) (a : List ℕ) → f < frames → AtRest a → Accepted f a

-- And a set-up that is not refused leaves the area at rest
abbrev pub SetUpRests : Type 0
SetUpRests = (a items : List ℕ) → Bytes items → (set_up_of a items).answer ≡ 0 → AtRest (set_up_of a items).area
