-- Two devices that add up, by computing: a history with drains, local calls and refusals, and the same right round.
use Prim.Native.Nat.{ℕ, ◌+◌}
use mathlib.Core.Path.{◌≡◌, refl}
use mathlib.Core.Bool.{cond}
use mathlib.Core.Option.{none, some}
use mathlib.Core.List.{List, [], ◌∷◌}
use lib.Dec.{ltb, lit<}
use Rattle.order.specs.Line.{Line, Loop, tail, cell, idle, Call, put, hop, take, local, drain, Event, run}
use Rattle.order.specs.Line.{no_hop_made, spent, handing, draining}
use Rattle.order.specs.History.{hops, does, puts, taken, handed, turns, hops_made, refusals}
use Rattle.order.specs.RightRound.{first, right_round, one_by_one}
use Rattle.order.specs.Flat.{links_of}
use Rattle.order.specs.Owed.{owed}

-- A state is a sum. A hop adds the frame to it, sends the sum and hands over a frame above 7. A local call adds less
-- than ten.
abbrev adder : Line
adder = record {
  State = ℕ;
  Frame = ℕ;
  Local = ℕ;
  Byte = ℕ;
  next = λ s f. s + f;
  send = λ s f. s + f;
  hand = λ s f. cond (ltb 7 f) (some f) none;
  act = λ s c. cond (ltb c 10) (some (s + c)) none;
  depth = 4;
  deep = lit< tt;
}

abbrev start : Loop adder
start = idle (0 ∷ 100 ∷ [])

abbrev calls : List (Call adder)
calls =
    take ∷ put 1 ∷ put 2 ∷ hop 1 ∷ hop 0 ∷ local 0 5 ∷ local 1 12 ∷ local 1 7 ∷ put 3 ∷ drain 9 ∷ local 7 1 ∷ take
    ∷ local 1 9 ∷ drain 100 ∷ take ∷ take ∷ take ∷ local 0 8 ∷ []

abbrev end : Loop adder × List (Event adder)
end = run start calls

-- all links are empty, five calls were refused, and three frames past two devices made six hops
ends : end.0 ≡ idle (19 ∷ 136 ∷ [])
ends = refl

counts : ◌≡◌ {A = ℕ × ℕ} (refusals end.1, hops_made end.1) (5, 6)
counts = refl

turns_of_1 : turns end.1 1 ≡ does 7 ∷ hops ∷ hops ∷ does 9 ∷ hops ∷ []
turns_of_1 = refl

-- ---- The same frames right round: another order of the calls, none of them refused

abbrev ref : List (Call adder)
ref = right_round (puts end.1) (first 2 (turns end.1))

ref_is : ref
    ≡ put 1 ∷ hop 0 ∷ local 1 7 ∷ hop 1 ∷ take
    ∷ put 2 ∷ local 0 5 ∷ hop 0 ∷ hop 1 ∷ take
    ∷ put 3 ∷ hop 0 ∷ local 1 9 ∷ hop 1 ∷ take
    ∷ local 0 8 ∷ []
ref_is = refl

ref_ends : ◌≡◌ {A = Loop adder × ℕ} ((run start ref).0, refusals (run start ref).1) (end.0, 0)
ref_ends = refl

ref_taken : ◌≡◌ {A = List ℕ × List ℕ} (taken (run start ref).1, taken end.1)
    (108 ∷ 116 ∷ 136 ∷ [], 108 ∷ 116 ∷ 136 ∷ [])
ref_taken = refl

ref_handed : ◌≡◌ {A = List ℕ × List ℕ} (handed (run start ref).1 1, handed end.1 1) (8 ∷ 11 ∷ [], 8 ∷ 11 ∷ [])
ref_handed = refl

-- ---- Frames in the links: those nearest the tail go first

abbrev loaded : Loop adder
loaded = cell (5 ∷ []) 0 (cell (3 ∷ []) 100 (tail (9 ∷ [])))

loaded_first : one_by_one loaded (6 ∷ []) ((hops ∷ hops ∷ []) ∷ (hops ∷ does 1 ∷ hops ∷ hops ∷ []) ∷ [])
    ≡ take
    ∷ hop 1 ∷ take
    ∷ hop 0 ∷ local 1 1 ∷ hop 1 ∷ take
    ∷ put 6 ∷ hop 0 ∷ hop 1 ∷ take ∷ []
loaded_first = refl

loaded_owes : owed (links_of loaded) ≡ 3
loaded_owes = refl

-- ---- Why a drain stops

abbrev two : Loop adder
two = cell (5 ∷ 3 ∷ []) 0 (cell (3 ∷ []) 100 (tail []))

-- no device can hop; the budget of four hops is spent; the fifth hop hands 8 to device 1, as the budget ends and before
stops_at_rest : (draining 9 start).stop ≡ no_hop_made
stops_at_rest = refl

stops_spent : (draining 4 two).stop ≡ spent
stops_spent = refl

stops_at_byte : (draining 5 two).stop ≡ handing 1 8
stops_at_byte = refl

same_stop : draining 9 two ≡ draining 5 two
same_stop = refl
