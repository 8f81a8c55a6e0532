-- No two meters at one address (02, e). Every device has ability 32; AAU goes right round and then AAD k, and k + n is
-- 31 at most, n the number of devices. Then device i has the address k + i. The addresses stay until an AAU is put, or
-- the area is set up or opened anew, whatever other calls follow, with several frames under way or none. And each time
-- a TAD has gone right round with no other frame under way, at most one device is not talker idle: the one it names.
-- A history is any row of calls on one area's bytes, as in demand 3 (demands, Histories): puts, hops, takes, drains,
-- local calls, saves, refused or not. There is no set-up in it, no opening but of what was saved just before, and no
-- walk past the area's own records. What is refused changes nothing.
use Rattle.std.specs.Prelude.{ℕ, ◌+◌, ◌≤◌, ◌<◌, ◌≡◌, true, List, [], ◌∷◌, ◌++◌, length}
use Rattle.frame.specs.Messages.{frames, number_of}
use Rattle.frame.specs.Decoding.{message, decoded}
use Rattle.frame.specs.declared.Kind.{Kind}
use Rattle.frame.specs.declared.Kind.TheVariants.{Tad, Aau, Aad, Iaa}
use Rattle.device.specs.Device.{auto_address, no_address, idle, addressed, has, talks}
use Rattle.device.specs.Sentences.{Of}
use Rattle.device.specs.declared.Device.{Device}
use Rattle.area.specs.Loop.{count_in, loop_of, device}
use Rattle.order.specs.History.{hops_in}
use Rattle.order.specs.Through.{Every}
use Rattle.demands.specs.Histories.{Step, area_left, frames_put, frames_taken, hops_made, turns_of}
use Rattle.demands.specs.Demands.{Judged, AllEmpty, sent_round}

-- ---- Frames, by the codes of the message table (`Codes`, below)

abbrev pub aau : ℕ
aau = 0x49a

-- AAD 0 to 30; behind these comes IAA, which gives no address
abbrev pub aad : ℕ → ℕ
aad k = 0x580 + k

abbrev pub tad : ℕ → ℕ
tad t = 0x440 + t

-- no frame of this kind is among the frames
abbrev pub No : Kind → List ℕ → Type 0
No k fs = Every (λ f. Of k f → ⊥) fs

-- ---- Devices of an area, each by its number

abbrev pub EachDevice : (ℕ → Device → Type 0) → List ℕ → Type 0
EachDevice P a = (i : ℕ) → i < count_in a → P i (device (loop_of a) i)

-- every device has ability 32 (so none is extended: 02, i)
abbrev pub AllAble : List ℕ → Type 0
AllAble a = EachDevice (λ i d. has d auto_address ≡ true) a

-- device i is configured and has the address k + i; so no two devices have one address
pub record InRow (k : ℕ) (a : List ℕ) : Type 0 where
  pub configured : EachDevice (λ i d. d.configured ≡ 1) a
  pub address : EachDevice (λ i d. d.address ≡ k + i) a
  pub differ : (i j : ℕ) → i < count_in a → j < count_in a →
      (device (loop_of a) i).address ≡ (device (loop_of a) j).address → i ≡ j

-- at most one device is not talker idle, and its address is t
pub record OneTalker (t : ℕ) (a : List ℕ) : Type 0 where
  pub one : (i j : ℕ) → i < count_in a → j < count_in a → ((device (loop_of a) i).talker ≡ idle → ⊥) →
      ((device (loop_of a) j).talker ≡ idle → ⊥) → i ≡ j
  pub named : EachDevice (λ i d. (d.talker ≡ idle → ⊥) → d.address ≡ t) a

-- the device at t is the talker, if it has an ability to talk
abbrev pub Talks : ℕ → List ℕ → Type 0
Talks t a = EachDevice (λ i d. d.address ≡ t → talks d ≡ true → d.talker ≡ addressed) a

-- ---- Right round

-- f goes right round with no other frame under way: links empty before it, no other frame put, links empty after it
pub record RoundAlone (f : ℕ) (a : List ℕ) (ss : List Step) : Type 0 where
  pub empty : AllEmpty a
  pub alone : frames_put a ss ≡ f ∷ []
  pub back : AllEmpty (area_left a ss)

-- AAU has gone right round, alone or among other frames, and all links are empty; no AAD was put behind it, since the
-- devices would have taken their addresses from that
pub record AauGone (a : List ℕ) (ss : List Step) : Type 0 where
  pub earlier : List ℕ
  pub later : List ℕ
  pub put : frames_put a ss ≡ earlier ++ aau ∷ later
  pub no_aad : No Aad later
  pub back : AllEmpty (area_left a ss)

-- no AAU is put in the steps ss, and then TAD t goes right round alone, by the steps rs
pub record TadGone (t : ℕ) (a : List ℕ) (ss rs : List Step) : Type 0 where
  pub no_aau : No Aau (frames_put a ss)
  pub talk_address : t < no_address
  pub tad_alone : RoundAlone (tad t) (area_left a ss) rs

-- ---- The theorem

-- On the area a, by the steps ss and then the steps rs:
pub record Conditions (k : ℕ) (a : List ℕ) (ss rs : List Step) : Type 0 where
  -- every device has ability 32,
  pub able : AllAble a
  -- AAU has gone right round and all links are empty,
  pub aau_gone : AauGone a ss
  -- the next AAD, AAD k, goes right round before any other frame is put,
  pub aad_alone : RoundAlone (aad k) (area_left a ss) rs
  -- and there are addresses enough: k + n is 31 at most.
  pub enough : k + count_in a ≤ no_address

-- From the area a on, whatever steps are made:
pub record Lasts (k : ℕ) (a : List ℕ) : Type 0 where
  -- until an AAU is put the addresses stay;
  pub stay : (ss : List Step) → No Aau (frames_put a ss) → InRow k (area_left a ss)
  -- each time TAD t has gone right round alone, there is at most one talker, the device at t,
  pub one_talker : (t : ℕ) (ss rs : List Step) → TadGone t a ss rs → OneTalker t (area_left (area_left a ss) rs)
  pub talks : (t : ℕ) (ss rs : List Step) → TadGone t a ss rs → Talks t (area_left (area_left a ss) rs)
  -- and until the next TAD no other device becomes one, whatever that one sends meanwhile.
  pub while_it_talks : (t : ℕ) (ss rs us : List Step) → TadGone t a ss rs → let b = area_left (area_left a ss) rs in
      No Aau (frames_put b us) → No Tad (frames_put b us) → OneTalker t (area_left b us)

pub record Promised (k : ℕ) (a : List ℕ) (ss rs : List Step) : Type 0 where
  -- Device i is configured and has the address k + i, and no two have one address;
  pub in_row : InRow k (area_left (area_left a ss) rs)
  -- one frame comes out: AAD k + n, or IAA where that is 31;
  pub out : frames_taken (area_left a ss) rs ≡ aad (k + count_in a) ∷ []
  -- and it lasts.
  pub lasts : Lasts k (area_left (area_left a ss) rs)

pub record NoTwoMeters : Type 0 where
  -- So it is from every area that has no refusal, whatever is in its links and records. A set-up or an opening that is
  -- not refused leaves such an area (demands, StartsJudged), and so does every history (StaysJudged).
  pub from_any_area : (k : ℕ) (a : List ℕ) (ss rs : List Step) → Judged a → Conditions k a ss rs → Promised k a ss rs
  -- Where all links are empty it is enough to send the two: AAU by put, each hop and take, and then AAD k.
  pub by_sending : (k : ℕ) (a : List ℕ) → Judged a → AllEmpty a → AllAble a → k + count_in a ≤ no_address →
      let ss = sent_round a aau in Promised k a ss (sent_round (area_left a ss) (aad k))

-- ---- What these words come to

-- The codes are those of the message table.
pub record Codes : Type 0 where
  pub of_aau : decoded aau ≡ message (number_of Aau) 0 0
  pub of_aad : (k : ℕ) → k < no_address → decoded (aad k) ≡ message (number_of Aad) k 0
  pub of_iaa : decoded (aad no_address) ≡ message (number_of Iaa) 0 0
  pub of_tad : (t : ℕ) → t < no_address → decoded (tad t) ≡ message (number_of Tad) t 0

-- A frame that went right round alone was put, every device hopped once, and one frame was taken.
pub record Whole (a : List ℕ) (ss : List Step) : Type 0 where
  pub each_hops : (i : ℕ) → i < count_in a → hops_in (turns_of a ss i) ≡ 1
  pub hops : hops_made a ss ≡ count_in a
  pub one_out : length (frames_taken a ss) ≡ 1

pub record Rounds : Type 0 where
  pub whole : (f : ℕ) (a : List ℕ) (ss : List Step) → Judged a → RoundAlone f a ss → Whole a ss
  -- Put, each hop and take send any frame so.
  pub sent : (f : ℕ) (a : List ℕ) → Judged a → AllEmpty a → f < frames → RoundAlone f a (sent_round a f)
  -- An AAU that went so has gone right round, and all links are empty.
  pub aau_alone : (a : List ℕ) (ss : List Step) → RoundAlone aau a ss → AauGone a ss
