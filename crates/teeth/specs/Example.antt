-- A worked example of demand 3, computed in proofs/Example.antt: two devices, frames under way at once, drains, a loop
-- put away, and the same right round; the hops owed beside it, and a history from an opening with frames in the links.
use Rattle.std.specs.Prelude.{ℕ, ◌+◌, ◌-◌, ◌*◌, ◌≡◌, List, [], ◌∷◌, ◌++◌, map, Bool, true, false, ◌&&◌, T, eqb, ltb, length, replicate}
use Rattle.std.proofs.Common.{ltb→lt}
use Rattle.area.specs.Sizes.{area_size}
use Rattle.area.specs.Parts.{part}
use Rattle.saved.specs.Saved.{saved, saved_size}
use Rattle.saved.specs.Older.{saved_before}
use Rattle.saved.specs.Calls.{open_of}
use Rattle.demands.specs.Calls.{Byte, load, Action, put, hop, take, local, drain, owes, on_area, set_up, owing, pil}
use Rattle.demands.specs.Conditions.{due}
use Rattle.demands.specs.Histories.{Step, call, away, got, reported, area_left, frames_taken, all_handed, hops_made}
use Rattle.demands.specs.Histories.{steps_refused, in_turn}
use Rattle.demands.specs.Demands.{AllEmpty, hops_owed}

abbrev pub byte : (n : ℕ) → T (ltb n 256) → Byte
byte n small = record { value = n; small = ltb→lt n 256 small }

abbrev pub zero : Byte
zero = byte 0 tt

-- listen, send data and auto address; no fixed address
abbrev pub item : List Byte
item = byte 0x23 tt ∷ byte 0x1f tt ∷ replicate 10 zero

abbrev pub blank : List ℕ
blank = replicate (area_size 2) 0

abbrev pub fresh : List ℕ
fresh = (pil (set_up (item ++ item)) blank).area

abbrev pub calls : List Action → List Step
calls cs = map (λ c. call c) cs

-- its first three calls, AAD 0 and LAD 1: the first frame has one device ahead of it then, the second two
abbrev pub begun : List Step
begun = calls (put 0x580 ∷ hop 0 ∷ put 0x421 ∷ [])

-- then put away, and opened in an area that held something else
abbrev pub overnight : Step
overnight = away (replicate (saved_size 2) zero) (replicate (area_size 2) (byte 0xff tt))

-- the second frame past device 0 before the first is past device 1, and device 0 loaded between its two hops; then a
-- data byte by a drain, GET by another, and a take too many
abbrev pub mixed : List Step
mixed =
    begun ++
    (overnight ∷ calls (
    local 0 (load (byte 0x42 tt ∷ []) 1) ∷ hop 0 ∷ hop 1 ∷ hop 1 ∷ take ∷ take ∷
    put 0x041 ∷ drain 9 ∷ put 0x408 ∷ drain 9 ∷ take ∷ take ∷ take ∷ []))

abbrev pub round : List Step
round = calls (
    put 0x580 ∷ hop 0 ∷ hop 1 ∷ take ∷
    put 0x421 ∷ local 0 (load (byte 0x42 tt ∷ []) 1) ∷ hop 0 ∷ hop 1 ∷ take ∷
    put 0x041 ∷ hop 0 ∷ hop 1 ∷ take ∷
    put 0x408 ∷ hop 0 ∷ hop 1 ∷ take ∷ [])

-- device 0 loaded with that byte, by a choice
abbrev pub loaded : ℕ → List ℕ
loaded e = area_left fresh (calls (local 0 (load (byte 0x42 tt ∷ []) e) ∷ []))

-- the loop as begun, opened the next day for a history of its own
abbrev pub opened : List ℕ
opened = (open_of blank (saved (area_left fresh begun))).area

abbrev pub later : List Step
later = calls (hop 0 ∷ put 0x041 ∷ hop 1 ∷ hop 1 ∷ take ∷ take ∷ hop 0 ∷ hop 1 ∷ take ∷ [])

-- in turn the frame in link 1, which is nearest the tail, then the one in link 0, then the one put
abbrev pub later_in_turn : List Step
later_in_turn = calls (hop 1 ∷ take ∷ hop 0 ∷ hop 1 ∷ take ∷ put 0x041 ∷ hop 0 ∷ hop 1 ∷ take ∷ [])

-- the same bytes
abbrev pub same : List ℕ → List ℕ → Bool
same [] [] = true
same [] (y ∷ ys) = false
same (x ∷ xs) [] = false
same (x ∷ xs) (y ∷ ys) = eqb x y && same xs ys

pub record Example : Type 0 where
  -- demand 3's premises: the set-up is accepted, and all links are empty at the end
  pub set_up_lem : due (set_up (item ++ item)) blank ≡ 0
  pub all_empty : AllEmpty (area_left fresh mixed)
  -- after its first three calls three hops are owed, and at the end none
  pub begun_owes : (pil (on_area owes) (area_left fresh begun)).answer ≡ owing (record { hops = 3; refusal = 0 })
  pub mixed_owes : hops_owed (area_left fresh mixed) ≡ 0
  -- what is seen of each history
  pub mixed_refused : steps_refused fresh mixed ≡ 1
  pub mixed_taken : frames_taken fresh mixed ≡ 0x582 ∷ 0x421 ∷ 0x041 ∷ 0x408 ∷ []
  pub mixed_handed : all_handed fresh mixed 1 ≡ got 0x41 0 ∷ reported 2 ∷ []
  pub mixed_hops : hops_made fresh mixed ≡ 8
  pub round_refused : steps_refused fresh round ≡ 0
  pub round_taken : frames_taken fresh round ≡ 0x582 ∷ 0x421 ∷ 0x041 ∷ 0x408 ∷ []
  pub round_handed : all_handed fresh round 1 ≡ got 0x41 0 ∷ reported 2 ∷ []
  -- the second is the first in turn, and leaves the same bytes
  pub turned : in_turn fresh mixed ≡ round
  pub same_area : same (area_left fresh mixed) (area_left fresh round) ≡ true
  -- the save of two devices: its length, what stands before a body of each kind, and the header, marked
  pub saved_long : length (saved fresh) ≡ 202
  pub saved_header : part 0 14 (saved fresh) ≡ 8 ∷ 0 ∷ 0 ∷ 0 ∷ 1 ∷ 0 ∷ 2 ∷ 1 ∷ 0 ∷ 0 ∷ 0 ∷ 0 ∷ 0 ∷ 0 ∷ []
  pub saved_device : part 14 6 (saved fresh) ≡ 64 ∷ 0 ∷ 0 ∷ 0 ∷ 2 ∷ 0 ∷ []
  pub saved_link : part (202 - 16) 6 (saved fresh) ≡ 10 ∷ 0 ∷ 0 ∷ 0 ∷ 3 ∷ 0 ∷ []
  -- the form written before loads took a choice opens as if the load had asked for END (02, h)
  pub old_opened : same (open_of blank (saved_before (loaded 0))).area (loaded 1) ≡ true
  -- the opening leaves what was saved; its frames go first, and its hops are the three owed and two for the frame put
  pub opened_is : same opened (area_left fresh begun) ≡ true
  pub turned_later : in_turn opened later ≡ later_in_turn
  pub later_hops : hops_made opened later ≡ 3 + 1 * 2
  pub later_taken : frames_taken opened later ≡ 0x582 ∷ 0x421 ∷ 0x041 ∷ []
  pub later_area : same (area_left opened later) (area_left opened later_in_turn) ≡ true
