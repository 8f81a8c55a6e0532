-- What inner functions ask of their callers: facts that a lookup or a test has shown.
use Rattle.std.specs.Prelude.{ℕ, suc, ◌≤◌, ◌≡◌, true, List, length, Some}
use Rattle.record.specs.Sound.{allowed}
use Rattle.area.specs.Sizes.{area_size}
use Rattle.area.specs.Parts.{all}
use Rattle.area.specs.Loop.{loop_of, link, HasDevice}
use Rattle.area.specs.Lookup.{oldest_of, room_of}
use Rattle.calls.specs.SetUp.{is_items, items_of}

-- device i has this oldest frame, and room behind so many for the frame that it sends
pub record Passes (a : List ℕ) (i f n : ℕ) : Type 0 where
  pub has : HasDevice a i
  pub oldest : oldest_of (link (loop_of a) i) ≡ Some f
  pub room : room_of (link (loop_of a) (suc i)) ≡ Some n

-- an area of n devices, at most so many, and n items
pub record Fit (limit n : ℕ) (a b : List ℕ) : Type 0 where
  pub some : 1 ≤ n
  pub few : n ≤ limit
  pub area : length a ≡ area_size n
  pub items : is_items (length b) n ≡ true

-- and each item is allowed
pub record Sets (limit n : ℕ) (a b : List ℕ) : Type 0 where
  pub fit : Fit limit n a b
  pub each : all allowed (items_of n b) ≡ true
