-- Save and open (02, a and h), with their refusals in the request's order.
use Rattle.std.specs.Prelude.{ℕ, List, ◌&&◌, cond, length, eqb}
use Rattle.area.specs.Sizes.{most_devices, area_size}
use Rattle.area.specs.Loop.{count_in, shape, unsound, shaped_with, sound}
use Rattle.calls.specs.Outcome.{After, after}
use Rattle.saved.specs.Saved.{saved, saved_size, saved_count, formed}
use Rattle.saved.specs.Older.{opened, sound_save}

-- refusal: not the form of a save
abbrev pub bad_save : ℕ
bad_save = 10

-- An area put away by a writer of at most so many devices; what is left is the output: 1 for the area's length or the
-- output's, then 2
unfoldable pub save_with : ℕ → List ℕ → List ℕ → After ℕ
save_with limit a out =
    cond (shaped_with limit a && eqb (length out) (saved_size (count_in a)))
    (cond (sound a) (after 0 (saved a)) (after unsound out))
    (after shape out)

-- A save opened by a reader of at most so many devices: 10, then 1 for the lent area's length, by which alone that area
-- counts, then 2 for what was saved
unfoldable pub open_with : ℕ → List ℕ → List ℕ → After ℕ
open_with limit a s =
    cond (formed limit s)
    (cond (eqb (length a) (area_size (saved_count s)))
    (cond (sound_save s) (after 0 (opened s)) (after unsound a))
    (after shape a))
    (after bad_save a)

-- both by the limit that holds
abbrev pub save_of : List ℕ → List ℕ → After ℕ
save_of a out = save_with most_devices a out

abbrev pub open_of : List ℕ → List ℕ → After ℕ
open_of a s = open_with most_devices a s
