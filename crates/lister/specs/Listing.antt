-- What the lister prints for an input of any bytes (01, the lister).
use Rattle.std.specs.Prelude.{ℕ, suc, List, [], ◌∷◌, ◌++◌, cond, eqb, ltb, length, replicate}
use Rattle.area.specs.Sizes.{area_size}
use Rattle.calls.specs.Outcome.{After}
use Rattle.calls.specs.SetUp.{set_up_of}
use Rattle.text.specs.Digits.{number_at}
use Rattle.lister.specs.Lines.{lines_of}
use Rattle.text.specs.Out.{bad_line, long_line}
use Rattle.script.specs.Script.{devices_in, loop_right, items_in, frame_right}
use Rattle.round.specs.Round.{round_text, round_area}

-- the most bytes of an input
abbrev pub longest : ℕ
longest = 60000

-- line n and all that follow, over an area: a wrong line is the last
unfoldable pub frames_listed : ℕ → List ℕ → List (List ℕ) → List ℕ
frames_listed n area [] = []
frames_listed n area (line ∷ lines) =
    let rest = frames_listed (suc n) (round_area (number_at 0 3 line) area) lines in
    cond (frame_right line) (round_text (number_at 0 3 line) area ++ rest) (bad_line n)

-- the devices of line 1 are set up
abbrev pub set_up : List ℕ → After ℕ
set_up line = set_up_of (replicate (area_size (devices_in line)) 0) (items_in line)

-- and not refused
abbrev pub set_up_listed : After ℕ → List (List ℕ) → List ℕ
set_up_listed s lines = cond (eqb s.answer 0) (frames_listed 2 s.area lines) (bad_line 1)

unfoldable pub script_listed : List (List ℕ) → List ℕ
script_listed [] = bad_line 1
script_listed (line ∷ lines) = cond (loop_right line) (set_up_listed (set_up line) lines) (bad_line 1)

unfoldable pub listing : List ℕ → List ℕ
listing input = cond (ltb longest (length input)) long_line (script_listed (lines_of input))
