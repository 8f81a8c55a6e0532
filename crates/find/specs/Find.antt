-- A device by its number (01, The calls): refusals 1 and 2 of the area first, then 3 where there is no such device.
use Rattle.std.specs.Prelude.{ℕ, List, cond, eqb, Option, Some, None, Result, Ok, Err}
use Rattle.area.specs.Loop.{loop_of, judge_of}
use Rattle.area.specs.Lookup.{place_of}
use Rattle.calls.specs.Calls.{no_device}

-- a place in a loop, or refusal 3
abbrev pub found_at : Option ℕ → Result ℕ ℕ
found_at None = Err no_device
found_at (Some i) = Ok i

-- device i of the loop in an area
unfoldable pub found_of : List ℕ → ℕ → Result ℕ ℕ
found_of a i = cond (eqb (judge_of a) 0) (found_at (place_of (loop_of a) i)) (Err (judge_of a))
