-- The three demands on the model, and what 02 asks of the hops owed (k), of saved loops (a), of the limit on devices
-- (j), of END by choice (h), of clear, trigger, remote and local (d), of parallel poll (f), of extended addresses (i)
-- and of a plain engine (l), over the very definitions that the contracts of the exported functions cite. No two meters
-- at one address (e) is a page of its own over the same histories: addresses' Addresses.
-- It leans on Calls, Conditions, Drains, Histories (the crate teeth says what it shuts out); frame's Messages,
-- Classes, Decoding, Coding, Laws, Bits; coding's Coding; poll_count's Count; device's Sent, Sentences, RemoteTable,
-- PollSentences, PollTable, ExtendedSentences, ExtendedTable, and Take with the rules that it names; record_local's
-- Local; record's Record, Parts, Sound, Fits, Laws; area's Sizes, Parts, Link, Loop, Lookup; calls' Outcome, Calls,
-- Drain, SetUp, Owed; saved's Saved, Older, Calls, Laws; walk's Walk; limits' Limits; order's Line, Flat, History,
-- RightRound, Through, Owed, which have names of their own.
use Rattle.std.specs.Prelude.{ℕ, zero, suc, ◌+◌, ◌*◌, ◌≤◌, ◌<◌, ◌≡◌, length, get_or, take as first, drop}
use mathlib.Core.List.{List, [], ◌∷◌, ◌++◌, map, tail}
use Rattle.std.specs.Int.Bits.{bit_or}
use Rattle.frame.specs.Messages.{frames}
use Rattle.frame.specs.Classes.{IsIdentify}
use Rattle.frame.specs.Decoding.{message, decoded as decoding, frame_of}
use Rattle.frame.specs.Laws.{TableInOrder, DecodeEncode, EncodeDecode, KindZero}
use Rattle.device.specs.Take.{takes}
use Rattle.device.specs.Sent.{Sent}
use Rattle.device.specs.Sentences.{EndWhereAsked, EndOnlyAsked, EventsReported, EventsChangeNothing}
use Rattle.device.specs.Sentences.{OthersLeaveRemote, IfcLeavesRemote, OnlyEnabled, GtlOnlyListener, KeyOnlyUnlocked}
use Rattle.device.specs.RemoteTable.{RemoteTable}
use Rattle.device.specs.PollSentences.{Assigning, OnlyListeners, LeavesPoll, IdyBits, IdyC1, polled_by}
use Rattle.device.specs.PollSentences.{SharedOr, SharedAnd}
use Rattle.device.specs.Poll.{answer}
use Rattle.device.specs.PollTable.{Note5, RackReads}
use Rattle.device.specs.ExtendedSentences.{SimpleAlone, Remembers, BySecond, Assigned, PlaceKept}
use Rattle.device.specs.ExtendedTable.{ExtendedTable}
use Rattle.device.specs.declared.Device.{Device}
use Rattle.record.specs.Record.{record_of}
use Rattle.record.specs.Laws.{AnyRemote, AnyPoll, NoPoll, Variants, AnyHalf}
use Rattle.record.specs.Parts.{splice}
use Rattle.record.specs.Fits.{Bytes}
use Rattle.area.specs.Sizes.{header_size, depth, most_devices, record_at, link_at, area_size}
use Rattle.area.specs.Parts.{join}
use Rattle.area.specs.Link.{link_of}
use Rattle.area.specs.Loop.{count_in, loop_of, area_of, judge_of, device, link}
use Rattle.area.specs.Lookup.{blank_of}
use Rattle.calls.specs.Outcome.{After, after}
use Rattle.calls.specs.Calls.{hop_answer}
use Rattle.calls.specs.SetUp.{powered_on}
use Rattle.saved.specs.Saved.{saved, contents}
use Rattle.saved.specs.Older.{opened}
use Rattle.saved.specs.Laws.{SavedLong, OpenAfterSave, OpenOver, OneForm, OldForm, SaveOpened, SavedOnce, OldOpens}
use Rattle.limits.specs.Limits.{FewIn, FewItems, FewSaved, Agree, RefusesMore}
use Rattle.poll_count.specs.Count.{counted}
use Rattle.walk.specs.Walk.{past, out_of, told_size, told_of, devices_in}
use Rattle.order.specs.History.{Turn, calls_in, hops_in, sum_over}
use Rattle.order.specs.RightRound.{before, after as after_turn}
use Rattle.order.specs.Through.{Every}
use Rattle.order.specs.Owed.{owed}
use Rattle.demands.specs.Calls.{Byte, numbers, Local, called_by, put, hop, take, local, drain, owes, save, Call}
use Rattle.demands.specs.Calls.{on_area, set_up, opens, on_frame, decode, encode, poll_count, Answer, plain, hopped}
use Rattle.demands.specs.Calls.{taken, owing, saving, decoded, encoded, polled, walk, walked, pil_with, pil}
use Rattle.demands.specs.Calls.{refusal_in, bare}
use Rattle.demands.specs.Conditions.{devices_at, due}
use Rattle.demands.specs.Drains.{by_hops}
use Rattle.demands.specs.Histories.{Step, call, away, stepped, area_left, frames_put, frames_taken, all_handed}
use Rattle.demands.specs.Histories.{all_told, hops_by, hops_made, steps_refused, turns_of}
use Rattle.demands.specs.Histories.{papers, Drainless, turns_seen, calls_seen, in_turn, all_round}

-- ---- Demand 1: every call is refused exactly by the table

-- A model of the calls, for every call with any arguments and every area:
pub record Refuses (model : Call → List ℕ → After Answer) : Type 0 where
  -- the refusal it answers is the first in the table whose condition holds, so the lowest but where a request gives
  -- another order, and 0 where none does, so that the call is done;
  pub by_table : (c : Call) (a : List ℕ) → refusal_in (model c a).answer ≡ due c a
  -- where that is not 0, it answers the number and otherwise zeros, and all that it was lent stays as it was.
  pub changes_nothing : (c : Call) (a : List ℕ) → (due c a ≡ 0 → ⊥) →
      ((model c a).answer ≡ bare c (due c a)) × ((model c a).area ≡ a)

abbrev pub Demand1 : Type 0
Demand1 = Refuses pil

-- ---- Demand 2: every device does what the papers say, and every call

-- An area that is bytes and has no refusal.
pub record Judged (a : List ℕ) : Type 0 where
  pub bytes : Bytes a
  pub sound : judge_of a ≡ 0

-- Device i of such an area can hop: f is its oldest frame, and the next link has room.
pub record CanHop (i f : ℕ) (fs a : List ℕ) : Type 0 where
  pub judged : Judged a
  pub there : i < count_in a
  pub oldest : link (loop_of a) i ≡ f ∷ fs
  pub room : length (link (loop_of a) (suc i)) < depth

module _ (i f : ℕ) (a : List ℕ) where
  -- What the device's rules make of f:
  abbrev pub ruled : Sent
  ruled = takes (device (loop_of a) i) f

  -- record i becomes the rules' device,
  abbrev pub record_taken : List ℕ
  record_taken = splice (record_at i) (record_of ruled.device) a

  -- link i loses its oldest frame,
  abbrev pub link_less : List ℕ
  link_less = splice (link_at (count_in a) i) (link_of (tail (link (loop_of a) i))) record_taken

  -- link i + 1 gains the frame that the rules send, and no other byte changes.
  abbrev pub hop_leaves : List ℕ
  hop_leaves = splice (link_at (count_in a) (suc i)) (link_of (link (loop_of a) (suc i) ++ (ruled.frame ∷ []))) link_less

-- the hops that an area owes: for every frame in a link the devices ahead of it, summed
abbrev pub hops_owed : List ℕ → ℕ
hops_owed a = owed (loop_of a).links

-- A model of the calls:
pub record Obeys (model : Call → List ℕ → After Answer) : Type 0 where
  -- a hop leaves that area,
  pub leaves : (i f : ℕ) (fs a : List ℕ) → CanHop i f fs a → (model (on_area (hop i)) a).area ≡ hop_leaves i f a
  -- and answers the frame sent, and the byte handed or the event reported, that the rules give;
  pub answers : (i f : ℕ) (fs a : List ℕ) → CanHop i f fs a →
      (model (on_area (hop i)) a).answer ≡ hopped (hop_answer (ruled i f a).frame (ruled i f a).handed)
  -- a drain answers and leaves what its hops come to, the highest-numbered device's first;
  pub drains : (budget : ℕ) (a : List ℕ) → Judged a → model (on_area (drain budget)) a ≡ by_hops model budget 0 a
  -- a put makes the frame link 0's newest, and no other byte changes;
  pub puts : (f : ℕ) (a : List ℕ) → Judged a → f < frames → length (link (loop_of a) 0) < depth →
      model (on_area (put f)) a ≡ after (plain 0)
      (splice (link_at (count_in a) 0) (link_of (link (loop_of a) 0 ++ (f ∷ []))) a)
  -- a take answers the tail's oldest frame, which the tail loses, and no other byte changes;
  pub takes_out : (f : ℕ) (fs a : List ℕ) → Judged a → link (loop_of a) (count_in a) ≡ f ∷ fs →
      model (on_area take) a ≡ after (taken (record { frame = f; refusal = 0 }))
      (splice (link_at (count_in a) (count_in a)) (link_of fs) a)
  -- a local call that the device accepts makes its record that of the device after it, and no other byte changes;
  pub local_calls : (c : Local) (i : ℕ) (a : List ℕ) → Judged a → i < count_in a →
      (called_by c (device (loop_of a) i)).refusal ≡ 0 →
      model (on_area (local i c)) a ≡ after (plain 0)
      (splice (record_at i) (record_of (called_by c (device (loop_of a) i)).device) a)
  -- asked for the hops owed it answers them, and no byte changes;
  pub tells_owed : (a : List ℕ) → Judged a →
      model (on_area owes) a ≡ after (owing (record { hops = hops_owed a; refusal = 0 })) a
  -- a set-up that is not refused leaves power-on devices and empty links;
  pub sets_up : (items : List Byte) (a : List ℕ) → due (set_up items) a ≡ 0 →
      model (set_up items) a ≡ after (plain 0) (area_of (powered_on (devices_at (length a)) (numbers items)))
  -- a save writes the area's saved form, and no byte of the area changes; an opening that is not refused leaves what
  -- the save holds, or an old one's upgrade;
  pub saves : (out : List Byte) (a : List ℕ) → due (on_area (save out)) a ≡ 0 →
      model (on_area (save out)) a ≡ after (saving 0 (saved a)) a
  pub opening : (s : List Byte) (a : List ℕ) → due (opens s) a ≡ 0 →
      model (opens s) a ≡ after (plain 0) (opened (numbers s))
  -- the decoder answers a frame's kind, offset and C1, and the encoder, where it is not refused, the frame of these;
  pub decodes : (f : ℕ) (a : List ℕ) → f < frames →
      let m = decoding f in
      model (on_frame (decode f)) a ≡
      after (decoded (record { offset = m.offset; refusal = 0; kind = m.kind; c1 = m.c1 })) a
  pub encodes : (k o c : ℕ) (a : List ℕ) → due (on_frame (encode k o c)) a ≡ 0 →
      model (on_frame (encode k o c)) a ≡ after (encoded (record { frame = frame_of (message k o c); refusal = 0 })) a
  -- the count of a poll, where it is not refused, how many of an IDY's data bits are one, and which is the lowest;
  pub counts : (f : ℕ) (a : List ℕ) → due (on_frame (poll_count f)) a ≡ 0 →
      model (on_frame (poll_count f)) a ≡ after (polled (counted (decoding f).offset)) a
  -- a walk that is not refused answers the frame that comes out past all devices, each given what the one before it
  -- sent; it tells what each was handed, and leaves the header as it was and the record of each as the rules make it.
  pub walks_past : (f : ℕ) (t : List Byte) (a : List ℕ) → due (walk f t) a ≡ 0 →
      let sent = past (devices_in a) f in
      model (walk f t) a ≡ after
      (walked (record { frame = out_of (devices_in a) f; refusal = 0 }) (join (map (λ s. told_of s.handed) sent)))
      (first header_size a ++ join (map (λ s. record_of s.device) sent))

-- That the published table has the decoding's kind at every frame is the contract of `published::kind`.
pub record Demand2 : Type 0 where
  pub obeyed : Obeys pil
  -- the message table is in order, decoder and encoder undo each other, and kind 0 is the frames that no kind has
  pub messages_in_order : TableInOrder
  pub decode_encode : DecodeEncode
  pub encode_decode : EncodeDecode
  pub kind_zero : KindZero

-- ---- Demand 3: the order of hops does not matter

-- every link of an area is empty
abbrev pub AllEmpty : List ℕ → Type 0
AllEmpty a = (j : ℕ) → link (loop_of a) j ≡ []

-- A history comes to the same as its frames in turn: those in the links, the nearer the tail the earlier, then those
-- put, each right round before the next, with the same turns: a device's own hops and the local calls that it accepted,
-- in order, whatever other devices did in between. It may hold refused calls, and loops put away and opened.
pub record InAnyOrder (a : List ℕ) (ss : List Step) : Type 0 where
  -- right round no call is refused; the frames put and the turns are those of the history,
  pub accepted : steps_refused a (in_turn a ss) ≡ 0
  pub same_puts : frames_put a (in_turn a ss) ≡ frames_put a ss
  pub same_turns : (i : ℕ) → turns_of a (in_turn a ss) i ≡ turns_of a ss i
  -- the same area is left, byte for byte,
  pub same_area : area_left a (in_turn a ss) ≡ area_left a ss
  -- the same frames are taken, and each device is handed the same bytes with the same end bits, and the same clears
  -- and triggers are reported at it, in the same order.
  pub same_taken : frames_taken a (in_turn a ss) ≡ frames_taken a ss
  pub same_handed : (i : ℕ) → all_handed a (in_turn a ss) i ≡ all_handed a ss i
  -- Hops made are those owed at first, and frames put times devices.
  pub hops_made_lem : hops_made a ss ≡ hops_owed a + length (frames_put a ss) * count_in a

-- From a freshly set-up loop no frame goes before those put: each goes right round before the next, and hops made are
-- frames times devices.
pub record FreshInAnyOrder (a : List ℕ) (ss : List Step) : Type 0 where
  pub in_any_order : InAnyOrder a ss
  pub right_round : in_turn a ss ≡ all_round a ss
  pub hops_made_lem : hops_made a ss ≡ length (frames_put a ss) * count_in a

pub record Demand3 : Type 0 where
  -- From any area that has no refusal: steps in any order that leave all links empty
  pub from_any_area : (a : List ℕ) (ss : List Step) → Judged a → AllEmpty (area_left a ss) → InAnyOrder a ss
  -- and so from a set-up that is not refused, or from any opening that is not.
  pub from_set_up : (a : List ℕ) (items : List Byte) (ss : List Step) → due (set_up items) a ≡ 0 →
      AllEmpty (area_left (pil (set_up items) a).area ss) → FreshInAnyOrder (pil (set_up items) a).area ss
  pub from_opening : (a : List ℕ) (s : List Byte) (ss : List Step) → due (opens s) a ≡ 0 →
      AllEmpty (area_left (pil (opens s) a).area ss) → InAnyOrder (pil (opens s) a).area ss
  -- A loop put away in an output, and opened in an area, of the right lengths is not refused: it is what it was.
  pub put_away : (a : List ℕ) (out lent : List Byte) → Judged a → length (numbers out) ≡ 30 + 86 * count_in a →
      length (numbers lent) ≡ length a → stepped (away out lent) a ≡ after (plain 0) a

-- A set-up or an opening that is not refused leaves an area that has no refusal, so what follows, said of every such
-- area, holds of what they leave.
pub record StartsJudged : Type 0 where
  pub set_up_lem : (a : List ℕ) (items : List Byte) → due (set_up items) a ≡ 0 → Judged (pil (set_up items) a).area
  pub opening : (a : List ℕ) (s : List Byte) → due (opens s) a ≡ 0 → Judged (pil (opens s) a).area

-- The turns of a history are what its caller sees:
pub record Turns (a : List ℕ) (ss : List Step) : Type 0 where
  -- without drains, the accepted hops and local calls that name the device;
  pub all_seen : Drainless ss → (i : ℕ) → turns_of a ss i ≡ turns_seen a ss i
  -- in any history, the local calls in them are those answered 0, in order,
  pub calls_seen_lem : (i : ℕ) → calls_in (turns_of a ss i) ≡ calls_seen a ss i
  -- and the hops in them, of all devices together, are the hops made.
  pub hops_add_up : sum_over (count_in a) (λ i. hops_in (turns_of a ss i)) ≡ hops_made a ss

abbrev pub TurnsAreSeen : Type 0
TurnsAreSeen = (a : List ℕ) (ss : List Step) → Judged a → Turns a ss

-- So two histories from one area with the same frames and the same turns agree
abbrev pub Agreement : Type 0
Agreement = (a : List ℕ) (ss rs : List Step) → Judged a →
    AllEmpty (area_left a ss) → AllEmpty (area_left a rs) → frames_put a ss ≡ frames_put a rs →
    ((i : ℕ) → turns_of a ss i ≡ turns_of a rs i) →
    (area_left a ss ≡ area_left a rs) × (frames_taken a ss ≡ frames_taken a rs) ×
    ((i : ℕ) → all_handed a ss i ≡ all_handed a rs i) × (hops_made a ss ≡ hops_made a rs)

-- ---- Hops owed (02, k). What calls leave of them, for any bytes as the area:

-- an accepted hop lowers them by one,
abbrev pub OwedAfterHop : Type 0
OwedAfterHop = (i : ℕ) (a : List ℕ) → Bytes a → refusal_in (pil (on_area (hop i)) a).answer ≡ 0 →
    hops_owed (pil (on_area (hop i)) a).area + 1 ≡ hops_owed a

-- a drain by the hops that it answers,
abbrev pub OwedAfterDrain : Type 0
OwedAfterDrain = (b : ℕ) (a : List ℕ) → Bytes a →
    hops_owed (pil (on_area (drain b)) a).area + hops_by (drain b) (pil (on_area (drain b)) a).answer ≡ hops_owed a

-- an accepted put adds one for each of the n devices,
abbrev pub OwedAfterPut : Type 0
OwedAfterPut = (f : ℕ) (a : List ℕ) → Bytes a → refusal_in (pil (on_area (put f)) a).answer ≡ 0 →
    hops_owed (pil (on_area (put f)) a).area ≡ hops_owed a + count_in a

-- a take, a local call, what only reads and every refused call leave them,
abbrev pub OwedAfterTake : Type 0
OwedAfterTake = (a : List ℕ) → Bytes a → hops_owed (pil (on_area take) a).area ≡ hops_owed a

abbrev pub OwedAfterLocalCall : Type 0
OwedAfterLocalCall = (c : Local) (i : ℕ) (a : List ℕ) → Bytes a →
    hops_owed (pil (on_area (local i c)) a).area ≡ hops_owed a

abbrev pub OwedAfterRefusal : Type 0
OwedAfterRefusal = (c : Call) (a : List ℕ) → (refusal_in (pil c a).answer ≡ 0 → ⊥) →
    hops_owed (pil c a).area ≡ hops_owed a

-- an accepted set-up leaves none,
abbrev pub OwedAfterSetUp : Type 0
OwedAfterSetUp = (items : List Byte) (a : List ℕ) → due (set_up items) a ≡ 0 →
    hops_owed (pil (set_up items) a).area ≡ 0

-- and an accepted opening leaves those of the area that the save holds, be it old or new.
abbrev pub OwedAfterOpening : Type 0
OwedAfterOpening = (s : List Byte) (a : List ℕ) → due (opens s) a ≡ 0 →
    hops_owed (pil (opens s) a).area ≡ hops_owed (contents (numbers s))

-- They are answered after any history from an area that has no refusal, since it still has none.
abbrev pub StaysJudged : Type 0
StaysJudged = (a : List ℕ) (ss : List Step) → Judged a → Judged (area_left a ss)

-- They are never more than 2n(n + 1).
abbrev pub OwedAtMost : Type 0
OwedAtMost = (a : List ℕ) → Judged a → hops_owed a ≤ 2 * (count_in a * (count_in a + 1))

-- Over any history, refused calls among it: the hops made, drains' included, and those owed then are those owed at
-- first and n for each frame put. A history has no set-up in it, and no opening but of what was saved just before.
abbrev pub OwedOver : Type 0
OwedOver = (a : List ℕ) (ss : List Step) → Judged a →
    hops_made a ss + hops_owed (area_left a ss) ≡ hops_owed a + length (frames_put a ss) * count_in a

-- So in a history with no accepted put the hops made are at most 2n(n + 1), however many takes there are.
abbrev pub HopsAtMost : Type 0
HopsAtMost = (a : List ℕ) (ss : List Step) → Judged a → frames_put a ss ≡ [] →
    hops_made a ss ≤ 2 * (count_in a * (count_in a + 1))

-- Some hop or the take is accepted
pub data Progress (a : List ℕ) : Type 0 where
  hop_accepted : (i : ℕ) → refusal_in (pil (on_area (hop i)) a).answer ≡ 0 → Progress a
  take_accepted : refusal_in (pil (on_area take) a).answer ≡ 0 → Progress a

-- while any link holds a frame.
abbrev pub NeverStuck : Type 0
NeverStuck = (a : List ℕ) (j : ℕ) → Judged a → (link (loop_of a) j ≡ [] → ⊥) → Progress a

-- ---- Saved loops (02, a)

-- Opened in any area of as many bytes, a save gives back the area that was saved; and a save that opens is the one
-- saved form of what it opens to, or its upgrade is (02, h).
pub record SavedLoops : Type 0 where
  pub saved_long : SavedLong
  pub open_after_save : OpenAfterSave
  pub open_over : OpenOver
  pub one_form : OneForm
  pub old_form : OldForm
  pub save_opened : SaveOpened
  pub saved_once : SavedOnce

-- ---- Thirty-one devices (02, j)

-- the most devices of a loop before
abbrev pub former_most : ℕ
former_most = 15

-- a call with at most so many devices: by its area, by its area or items, by its save, or by byte 0 of its records
abbrev pub FewFor : ℕ → Call → List ℕ → Type 0
FewFor limit (on_area c) a = FewIn limit a
FewFor limit (set_up items) a = FewItems limit a (numbers items)
FewFor limit (opens s) a = FewSaved limit (numbers s)
FewFor limit (on_frame c) a = Unit {0}
FewFor limit (walk f t) a = count_in a ≤ limit

pub record ThirtyOne : Type 1 where
  -- An area of 31 devices, here of ones that can do nothing, has no refusal, and 2,312 bytes; none is longer.
  pub longest : (judge_of (area_of (blank_of most_devices)) ≡ 0) × (length (area_of (blank_of most_devices)) ≡ 2312)
  pub none_longer : (a : List ℕ) → judge_of a ≡ 0 → length a ≤ 2312
  -- What has at most fifteen devices is judged, set up, saved and opened as by the limit of fifteen,
  pub as_before : Agree former_most most_devices
  -- and so every call with at most fifteen answers and leaves what it does by that.
  pub called_as_before : (c : Call) (a : List ℕ) → FewFor former_most c a → pil_with former_most c a ≡ pil c a
  -- A reader by that limit refuses what has more with 10, and the area that it was lent stays as it was.
  pub refused_before : RefusesMore former_most

-- ---- END by choice (02, h). What a load stores, demand 2 says; the refusal of other numbers, demand 1.

pub record EndByChoice : Type 0 where
  -- The last byte of data goes out as END where that was chosen,
  pub where_asked : EndWhereAsked
  -- and a device whose choice is not END sends one only where it passes one on.
  pub only_asked : EndOnlyAsked
  -- Saves written before loads took a choice still open, with END chosen by each device with data.
  pub old_opens : OldOpens

-- ---- Clear, trigger, remote and local (02, d). What a hop and a drain answer of events, and what the key does, demand
-- 2 says; that the order of hops does not matter to them, demand 3.

pub record RemoteLocal : Type 0 where
  -- A clear or trigger is reported where it is due and only there, and changes nothing (but that, as a command, it
  -- clears an extended device's flags).
  pub events_reported : EventsReported
  pub events_change_nothing : EventsChangeNothing
  -- At a device that listens, could, or cannot, each of the four states goes under every message and the key, with the
  -- flag clear and set, where the table beside 001's section 2.17 says.
  pub table : RemoteTable
  -- At every device: no message that 2.17 does not name changes state or flag, and IFC does not;
  pub others_leave_remote : OthersLeaveRemote
  pub ifc_leaves_remote : IfcLeavesRemote
  -- LLO and own LAD change them only while enabled; GTL acts only at an addressed listener, the key in unlocked remote.
  pub only_enabled : OnlyEnabled
  pub gtl_only_listener : GtlOnlyListener
  pub key_only_unlocked : KeyOnlyUnlocked
  -- Every state is sound with either flag where local is with the flag clear, which is what zeros in the two bytes say.
  pub any_remote : AnyRemote

-- ---- Parallel poll (02, f). What the status call stores and what the count answers, demand 2 says; that statuses may
-- be set while frames are under way, demand 3.

-- a device after local calls
abbrev pub after_calls : Device → List Local → Device
after_calls d [] = d
after_calls d (c ∷ cs) = after_calls (called_by c d).device cs

-- the data bits of IDYs after a device that they pass one after the other: each or-ed with the device's answer as its
-- hop finds it, after the local calls that it accepted before
abbrev pub answering : Device → List (Turn papers) → List ℕ → List ℕ
answering d ts [] = []
answering d ts (x ∷ xs) =
    let e = after_calls d (before ts) in bit_or x (answer e) ∷ answering e (after_turn ts) xs

-- and after all devices
abbrev pub answering_all : List Device → (ℕ → List (Turn papers)) → List ℕ → List ℕ
answering_all [] T xs = xs
answering_all (d ∷ ds) T xs = answering_all ds (λ i. T (suc i)) (answering d (T 0) xs)

-- the data bits of a frame
abbrev pub bits_of : ℕ → ℕ
bits_of f = (decoding f).offset

-- a history that puts nothing but IDYs, and has empty links before and after it
pub record Polls (a : List ℕ) (ss : List Step) : Type 0 where
  pub judged : Judged a
  pub empty : AllEmpty a
  pub empty_again : AllEmpty (area_left a ss)
  pub idys : Every IsIdentify (frames_put a ss)

-- IDYs are taken, as many as were put, with those data bits.
pub record PolledRound (a : List ℕ) (ss : List Step) : Type 0 where
  pub still_idys : Every IsIdentify (frames_taken a ss)
  pub gathered : map bits_of (frames_taken a ss) ≡
      answering_all (loop_of a).devices (turns_of a ss) (map bits_of (frames_put a ss))

-- Without local calls those are the bits that each came with, or-ed with every device's answer.
abbrev pub AsTheyStood : Type 0
AsTheyStood = (ds : List Device) (T : ℕ → List (Turn papers)) (xs : List ℕ) → ((i : ℕ) → calls_in (T i) ≡ []) →
    answering_all ds T xs ≡ map (λ x. polled_by x ds) xs

pub record ParallelPoll : Type 0 where
  -- Each sense, bit and status does what note 5 of the message table says; no bit that is one is cleared, and C1 stays
  -- with the service request.
  pub note_5 : Note5
  pub idy_bits : IdyBits
  pub idy_c1 : IdyC1
  -- PPE and PPD act at addressed listeners alone, PPE only with the ability, PPU at every device; no other message
  -- changes sense and bit, and none the status.
  pub assigning : Assigning
  pub only_listeners : OnlyListeners
  pub leaves_poll : LeavesPoll
  -- Whatever the order of hops, with several IDYs under way at once, each gathers the devices' answers; where no local
  -- call is made meanwhile, those are the answers of the devices as they stood.
  pub polled_round : (a : List ℕ) (ss : List Step) → Polls a ss → PolledRound a ss
  pub as_they_stood : AsTheyStood
  -- Several devices on one bit give the or of their statuses with sense 1, and the negated and with sense 0.
  pub shared_or : SharedOr
  pub shared_and : SharedAnd
  -- A rack of eight fixtures, each on its own bit, reads as its eight statuses.
  pub rack_reads : RackReads
  -- With the ability a device is as sound with any sense, bit and status as with none and status 0. Without it a sound
  -- one has none and status 0, the zeros of every earlier area, and the clause on poll then asks for nothing more.
  pub any_poll : AnyPoll
  pub no_poll : NoPoll

-- ---- Extended addresses (02, i). Demand 2 reads over both variants of a device, each by its rules (`takes`); demand 3
-- is proved once for both, and that every frame keeps a sound device sound is in `StaysJudged`.

pub record ExtendedAddresses : Type 0 where
  -- Sensors assigned, addressed and unaddressed, alone and beside a simple device, line by line.
  pub table : ExtendedTable
  -- A simple device goes by the simple rules, and leaves SAD, AES and AEP alone.
  pub simple_alone : SimpleAlone
  -- An extended one remembers its own LAD or TAD, the later of them, over ready frames and its own SAD, and over no
  -- other command.
  pub remembers : Remembers
  -- Only with that, and the ability, does its own SAD make it a listener or a talker, and another's SAD have the talker
  -- idle; no SAD and no primary changes a role otherwise.
  pub by_second : BySecond
  -- AES, AEP and AAU assign and take back both addresses as 001's section 2.15 says, and no other frame does.
  pub assigned : Assigned
  pub place_kept : PlaceKept
  -- Simple devices are sound as they were before, and extended ones without ability 32; a half assigned one with any
  -- addresses, 31 among them.
  pub variants : Variants
  pub any_half : AnyHalf

-- ---- A plain engine beside it (02, l): the walk, which knows no links. What it answers and leaves, demand 2 says; its
-- refusals, demand 1.

-- the first bytes of an area: header and records
abbrev pub records_of : List ℕ → List ℕ
records_of a = first (record_at (count_in a)) a

-- n devices hop in order, device i first
abbrev pub hops_from : (i n : ℕ) → List Step
hops_from i zero = []
hops_from i (suc n) = call (hop i) ∷ hops_from (suc i) n

-- a frame sent right round the loop of an area: put, the hop of each device, take
abbrev pub sent_round : List ℕ → ℕ → List Step
sent_round a f = call (put f) ∷ hops_from 0 (count_in a) ++ (call take ∷ [])

-- A frame sent right round the loop, and the same frame walked past its records, whatever told was before:
pub record Witnessed (a : List ℕ) (f : ℕ) (t : List Byte) : Type 0 where
  -- put, hops and take are not refused, so none gives 6; one frame is taken,
  pub out : ℕ
  pub accepted : steps_refused a (sent_round a f) ≡ 0
  pub one_taken : frames_taken a (sent_round a f) ≡ out ∷ []
  -- and the bytes behind the records are what they were: all links are empty again.
  pub links_stay : drop (record_at (count_in a)) (area_left a (sent_round a f)) ≡ drop (record_at (count_in a)) a
  pub empty_again : AllEmpty (area_left a (sent_round a f))
  -- Nor is the walk: it answers that frame, tells what the hops answered, and leaves the records that they left.
  pub same : pil (walk f t) (records_of a) ≡ after
      (walked (record { frame = out; refusal = 0 }) (all_told a (sent_round a f)))
      (records_of (area_left a (sent_round a f)))

-- Bytes of an area's length, all zero behind the records, so that its links are empty; header and records may be
-- anything.
pub record ZerosBehind (a : List ℕ) : Type 0 where
  pub long : length a ≡ area_size (count_in a)
  pub zeros_behind : (i : ℕ) → record_at (count_in a) ≤ i → get_or a i 0 ≡ 0

pub record PlainEngine : Type 0 where
  -- From any area that has no refusal and whose links are empty, every frame is witnessed.
  pub witnessed : (a : List ℕ) (f : ℕ) (t : List Byte) → Judged a → AllEmpty a → f < frames →
      length (numbers t) ≡ told_size * count_in a → Witnessed a f t
  -- On any bytes of an area's length with zeros behind the records, and any number as the frame, the walk is refused as
  -- the put is, or neither is.
  pub same_refusals : (a : List ℕ) (f : ℕ) (t : List Byte) → ZerosBehind a →
      length (numbers t) ≡ told_size * count_in a →
      refusal_in (pil (walk f t) (records_of a)).answer ≡ refusal_in (pil (on_area (put f)) a).answer
  -- Where the walk is accepted the put, the hops and the take are too, with the same results.
  pub where_accepted : (a : List ℕ) (f : ℕ) (t : List Byte) → Bytes a → ZerosBehind a →
      length (numbers t) ≡ told_size * count_in a → refusal_in (pil (walk f t) (records_of a)).answer ≡ 0 →
      Witnessed a f t
