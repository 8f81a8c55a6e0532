-- The laws of specs/Laws.antt: each part is written and read at its own place, and sound parts are all that is there.
use Prim.Native.Nat.{ℕ, zero, suc, ◌≤◌, ◌<◌}
use mathlib.Core.Path.{◌≡◌, ap, ◌∙◌}
use mathlib.Core.List.{List, [], ◌∷◌, tail}
use native.Mathlib.Omega.{arith}
use lib.ListN.{length, get_or}
use lib.Seq.{get_or-set_same}
use borrow.Author.Tests.{lt-ltb}
use Rattle.area.specs.Sizes.{depth}
use Rattle.area.specs.Loop.{link}
use Rattle.area.specs.Lookup.{remove}
use Rattle.area.specs.Laws.{AreaBack, LoopSound, LoopBack, AreaSound, AreaBytes, RoomAgain}
use Rattle.area.proofs.Areas.{area_is, loop_good, judge_of_lem, loop_of_lem, bytes_of}

pub area_back : AreaBack
area_back = area_is

pub loop_sound : LoopSound
loop_sound = loop_good

pub loop_back : LoopBack
loop_back = loop_of_lem

pub area_sound : AreaSound
area_sound = judge_of_lem

pub area_bytes : AreaBytes
area_bytes = bytes_of

pub room_again : RoomAgain
room_again l j f fs s e =
    let few : length (f ∷ fs) ≤ depth = rw e at (s.frames j).few in
    let less : link (remove j l) j ≡ fs = get_or-set_same l.links j (tail (link l j)) [] (there l.links j e)
    ∙ ap tail e in
    rw (less, lt-ltb (length fs) depth (omega arith))
  where
    there : (qs : List (List ℕ)) (j : ℕ) → get_or qs j [] ≡ f ∷ fs → j < length qs
    there [] j q = let z : ◌≡◌ {A = ℕ} 0 1 = cc in absurd (omega arith)
    there (x ∷ qs) zero q = omega arith
    there (x ∷ qs) (suc j) q = let h = there qs j q in omega arith
