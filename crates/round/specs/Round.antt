-- A frame sent right round (01, the lister): put, a hop of each device in the loop's order, and take, and what is
-- printed of them.
use Rattle.std.specs.Prelude.{ℕ, zero, suc, ◌+◌, ◌*◌, ◌≤◌, ◌≡◌, List, [], ◌++◌, cond, eqb, length}
use Rattle.area.specs.Sizes.{most_devices}
use Rattle.area.specs.Loop.{count_in}
use Rattle.calls.specs.Calls.{put_of, hop_of, take_of}
use Rattle.calls.specs.declared.HopAnswer.{HopAnswer}
use Rattle.text.specs.Out.{hand_size, frame_size, hand_line, frame_line}
use Rattle.text.specs.Write.{Wrote}

-- the line of a byte handed to device i, if any was
abbrev pub handed : ℕ → HopAnswer → List ℕ
handed i hop = cond (eqb hop.handed 1) (hand_line i hop.byte hop.end) []

-- k devices hop, from device i on: the text, and the area after them
unfoldable pub hops_text : ℕ → ℕ → List ℕ → List ℕ
hops_text zero i area = []
hops_text (suc k) i area = handed i (hop_of area i).answer ++ hops_text k (suc i) (hop_of area i).area

unfoldable pub hops_area : ℕ → ℕ → List ℕ → List ℕ
hops_area zero i area = area
hops_area (suc k) i area = hops_area k (suc i) (hop_of area i).area

-- the frame put, and hopped over every device
abbrev pub put_area : ℕ → List ℕ → List ℕ
put_area frame area = (put_of area frame).area

abbrev pub hopped_area : ℕ → List ℕ → List ℕ
hopped_area frame area = hops_area (count_in area) 0 (put_area frame area)

-- all of it, with the frame that comes out
abbrev pub round_text : ℕ → List ℕ → List ℕ
round_text frame area =
    hops_text (count_in area) 0 (put_area frame area) ++ frame_line frame (take_of (hopped_area frame area)).answer.frame

abbrev pub round_area : ℕ → List ℕ → List ℕ
round_area frame area = (take_of (hopped_area frame area)).area

-- bytes that this can need: a hand line for each device and a frame line
abbrev pub text_room : ℕ
text_room = hand_size * most_devices + frame_size

-- every device has hopped: the area and the text, and room left for a frame line
pub record Hopped (a b : List ℕ) (r : ℕ) (a' b' : List ℕ) : Type 0 where
  pub area : a' ≡ hops_area (count_in a) 0 a
  pub text : Wrote (hops_text (count_in a) 0 a) 0 b r b'
  pub room : r + frame_size ≤ length b
