-- What an inner function promises its callers.
use Rattle.std.specs.Prelude.{ℕ, ◌≡◌, List}
use Rattle.area.specs.Sizes.{area_size}
use Rattle.script.specs.Script.{devices_in}
use Rattle.lister.specs.Chunks.{over, set_up_in}

-- the set-up's refusal, and the area with its first bytes set up
pub record SetUp (line a : List ℕ) (r : ℕ) (a' : List ℕ) : Type 0 where
  pub refusal : r ≡ (set_up_in line a).answer
  pub area : a' ≡ over (area_size (devices_in line)) (set_up_in line a).area a
