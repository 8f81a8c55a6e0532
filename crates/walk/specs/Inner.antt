-- The form of a walk's contract, and what its inner functions ask of their callers.
use Rattle.std.specs.Prelude.{ℕ, ◌*◌, ◌≤◌, ◌≡◌, List, length}
use Rattle.area.specs.Sizes.{most_devices, record_at}
use Rattle.area.specs.Loop.{count_in}
use Rattle.walk.specs.Walk.{told_size, Walked}
use Rattle.walk.specs.declared.WalkAnswer.{WalkAnswer}

-- the answer r, the records a and what is told in t are those of the walk w
pub record IsWalked (w : Walked) (r : WalkAnswer) (a t : List ℕ) : Type 0 where
  pub answer : r ≡ w.answer
  pub records : a ≡ w.records
  pub told : t ≡ w.told

-- the lengths fit, said of the numbers
pub record Fitting (a t : List ℕ) : Type 0 where
  pub some : 1 ≤ count_in a
  pub few : count_in a ≤ most_devices
  pub long : length a ≡ record_at (count_in a)
  pub told : length t ≡ told_size * count_in a
