-- What each call of the lister does: a chunk of the listing, over a lent area that may be longer than the loop's.
use Rattle.std.specs.Prelude.{ℕ, ◌+◌, ◌≡◌, List, [], ◌++◌, Bool, cond, ◌&&◌, eqb, ltb, leb, length, take, drop}
use Rattle.byte_runs.specs.Bytes.{index_of}
use Rattle.record.specs.Parts.{splice}
use Rattle.area.specs.Sizes.{most_devices, area_size}
use Rattle.area.specs.Loop.{count_in, judge_of}
use Rattle.calls.specs.Outcome.{After}
use Rattle.calls.specs.SetUp.{set_up_of}
use Rattle.text.specs.Words.{newline}
use Rattle.text.specs.Digits.{number_at}
use Rattle.text.specs.Out.{bad_line, long_line}
use Rattle.script.specs.Script.{devices_in, loop_right, items_in, frame_right}
use Rattle.round.specs.Round.{text_room, round_text, round_area}
use Rattle.lister.specs.Listing.{longest}
use Rattle.lister.specs.declared.Chunk.{Chunk}
use Rattle.lister.specs.declared.Next.{Next}

-- ---- what is lent

-- bytes of the largest area
abbrev pub area_room : ℕ
area_room = area_size most_devices

-- the lent area and a buffer of so many bytes are large enough
abbrev pub roomy : List ℕ → ℕ → Bool
roomy area room = leb area_room (length area) && leb text_room room

-- the bytes of a lent area that are the loop's
abbrev pub size_in : List ℕ → ℕ
size_in area = area_size (count_in area)

abbrev pub loop_bytes : List ℕ → List ℕ
loop_bytes area = take (size_in area) area

-- a lent area with its first bytes changed
abbrev pub over : ℕ → List ℕ → List ℕ → List ℕ
over size new area = new ++ drop size area

-- ---- what a call does

-- a text, where the listing goes on, and the lent area afterwards
pub record Does : Type 0 where
  pub text : List ℕ
  pub next : Next
  pub area : List ℕ

abbrev pub does : List ℕ → Next → List ℕ → Does
does text next area = record { text = text; next = next; area = area }

-- the line that starts at a place
abbrev pub line_at : ℕ → List ℕ → List ℕ
line_at at input = take (index_of newline (drop at input)) (drop at input)

-- the first call: line 1
abbrev pub set_up_in : List ℕ → List ℕ → After ℕ
set_up_in line area = set_up_of (take (area_size (devices_in line)) area) (items_in line)

abbrev pub set_up_does : ℕ → List ℕ → After ℕ → List ℕ → Does
set_up_does size line s area =
    cond (eqb s.answer 0)
    (does [] (Next.Line (length line + 1) 2) (over size s.area area))
    (does (bad_line 1) Next.End area)

unfoldable pub first_does : List ℕ → List ℕ → Does
first_does line area =
    cond (loop_right line)
    (set_up_does (area_size (devices_in line)) line (set_up_in line area) area)
    (does (bad_line 1) Next.End area)

unfoldable pub start_does : List ℕ → List ℕ → ℕ → Does
start_does input area room =
    cond (roomy area room)
    (cond (ltb longest (length input)) (does long_line Next.End area) (first_does (line_at 0 input) area))
    (does [] Next.Refused area)

-- each later call: the line n that starts at a place
unfoldable pub line_does : List ℕ → ℕ → ℕ → List ℕ → Does
line_does line at n area =
    let frame = number_at 0 3 line in
    cond (frame_right line)
    (does (round_text frame (loop_bytes area)) (Next.Line (at + length line + 1) (n + 1))
    (over (size_in area) (round_area frame (loop_bytes area)) area))
    (does (bad_line n) Next.End area)

unfoldable pub ready : ℕ → List ℕ → ℕ → Bool
ready n area room =
    roomy area room && (leb n longest && eqb (judge_of (loop_bytes area)) 0)

unfoldable pub step_does : List ℕ → ℕ → ℕ → List ℕ → ℕ → Does
step_does input at n area room =
    cond (ready n area room)
    (cond (ltb at (length input)) (line_does (line_at at input) at n area) (does [] Next.End area))
    (does [] Next.Refused area)

-- the form of both contracts: the text stands at the front of the buffer, whose other bytes are as they were
pub record Did (d : Does) (buffer : List ℕ) (r : Chunk) (area' buffer' : List ℕ) : Type 0 where
  pub written : r.written ≡ length d.text
  pub next : r.next ≡ d.next
  pub area : area' ≡ d.area
  pub out : buffer' ≡ splice 0 d.text buffer
