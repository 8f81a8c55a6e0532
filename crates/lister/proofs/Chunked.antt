-- The chunks are the listing: line 1 sets the loop up as the listing does, and the calls behind it do the lines
-- behind it.
use Prim.Native.Nat.{ℕ, suc, ◌+◌, ◌≤◌, ◌<◌}
use mathlib.Core.Path.{◌≡◌, refl}
use mathlib.Core.List.{List, [], ◌++◌, append-nil}
use mathlib.Core.Bool.{Bool, true, false, cond}
use native.Mathlib.Omega.{arith}
use lib.Dec.{ltb, leb}
use lib.ListN.{length, take, drop, replicate, length-append, length-drop, length-replicate, drop_of_length-le}
use lib.ListN.{length-take}
use lib.Seq.{length-take-le}
use borrow.Author.Tests.{ltb-true, ltb-false, leb-true, leb-false, le-leb}
use Rattle.byte_runs.specs.Bytes.{index_of}
use Rattle.record.specs.Sound.{allowed}
use Rattle.area.specs.Sizes.{most_devices, area_size}
use Rattle.area.specs.Parts.{all}
use Rattle.area.specs.Loop.{area_of, unsound}
use Rattle.calls.specs.Outcome.{after}
use Rattle.calls.specs.SetUp.{items_of, powered_on}
use Rattle.text.specs.Words.{newline, begins}
use Rattle.lister.specs.Lines.{lines_of}
use Rattle.text.specs.Out.{bad_line, long_line}
use Rattle.script.specs.Script.{devices_in, loop_right, items_in}
use Rattle.lister.specs.Listing.{longest, frames_listed, set_up, set_up_listed, script_listed, listing}
use Rattle.round.specs.Round.{text_room}
use Rattle.lister.specs.Chunks.{area_room, over, Does, does, line_at, set_up_in, set_up_does, first_does, start_does}
use Rattle.lister.specs.Laws.{text_from, next_from, ChunksList}
use Rattle.lister.specs.declared.Next.{Next}
use Rattle.lister.proofs.Cut.{index_within, lines_cut}
use Rattle.round.proofs.Held.{long}
use Rattle.lister.proofs.Begin.{items_long, set_up_refused, set_up_done, powered, Line1, line1}
use Rattle.lister.proofs.Listed.{end_text, end_next, listed}

-- no input
first_none : (input area : List ℕ) → input ≡ [] → first_does (line_at 0 input) area ≡ does (bad_line 1) Next.End area
unfolding first_does loop_right begins index_of
first_none input area e = rw e

script_none : (input : List ℕ) → input ≡ [] → script_listed (lines_of input) ≡ bad_line 1
unfolding script_listed lines_of
script_none input e = rw e

module _ (input area : List ℕ) (room : ℕ) (lent : area_room ≤ length area) (buffer : text_room ≤ room) where
  -- a first call and the calls behind it write this text, and come to their end
  Complete : Does → List ℕ → Type 0
  Complete d text =
      (d.text ++ text_from (length input) input d.next d.area room ≡ text)
      × (next_from (length input) input d.next d.area room ≡ Next.End)

  -- the first call is the only one
  alone : (text a : List ℕ) → Complete (does text Next.End a) text
  unfolding Complete
  alone text a = (rw (end_text (length input) input a room) (append-nil text), end_next (length input) input a room)

  module _ (short : length input ≤ longest) (good : loop_right (line_at 0 input) ≡ true) where
    abbrev line : List ℕ
    line = line_at 0 input

    abbrev n : ℕ
    n = devices_in line

    abbrev loop : List ℕ
    loop = area_of (powered_on n (items_in line))

    abbrev lines : List (List ℕ)
    lines = lines_of (drop (suc (index_of newline input)) input)

    -- line 1's set-up, refused or not, and the lines behind it
    abbrev Begun : Type 0
    Begun = Complete (set_up_does (area_size n) line (set_up_in line area) area) (set_up_listed (set_up line) lines)

    -- where line 1 ends
    end : length line + 1 ≡ suc (index_of newline input)
    end = let e = length-take-le (index_of newline input) input (index_within newline input) in omega arith

    first : Line1 line
    first = line1 line good

    module _ (p : 1 ≤ n) (q : n ≤ most_devices) where
      -- each device is allowed
      set_up_lem : all allowed (items_of n (items_in line)) ≡ true →
          Complete (does [] (Next.Line (length line + 1) 2) (over (area_size n) loop area)) (frames_listed 2 loop lines)
      unfolding Complete
      set_up_lem e =
          let h = powered (items_in line) n p q (items_long line) first.bytes e in
          let l = first.long in
          let i = index_within newline input in
          rw end
          (listed input room short buffer n (drop (area_size n) area) (length input)
          (suc (index_of newline input)) 2 loop h
          (rw (length-append, long h, length-drop) (omega arith)) (omega (arith, end)) (omega arith)
          (omega (arith, end)))

      part_long : length (take (area_size n) area) ≡ area_size n
      part_long = length-take-le (area_size n) area (omega arith)

      few : Begun
      few =
          rw (
            set_up_done (take (area_size n) area) (items_in line) n p q part_long (items_long line),
            set_up_done (replicate (area_size n) 0) (items_in line) n p q (length-replicate (area_size n) 0)
                (items_long line),
          )
          (go (all allowed (items_of n (items_in line))) refl)
        where
          go : (t : Bool) → all allowed (items_of n (items_in line)) ≡ t →
              Complete (set_up_does (area_size n) line (cond t (after 0 loop) (after unsound (take (area_size n) area)))
              area)
              (set_up_listed (cond t (after 0 loop) (after unsound (replicate (area_size n) 0))) lines)
          go true e = set_up_lem e
          go false e = alone (bad_line 1) area

    -- too few devices, or too many
    none : ((1 ≤ n) → (n ≤ most_devices) → ⊥) →
        Begun
    none wrong =
        rw (
          set_up_refused (take (area_size n) area) (items_in line) n (items_long line) wrong
              (λ m. rw length-take (omega arith)),
          set_up_refused (replicate (area_size n) 0) (items_in line) n (items_long line) wrong
              (λ m. rw (length-replicate {A = ℕ} (area_size n) 0) (omega arith)),
        )
        (alone (bad_line 1) area)

    any : Begun
    any = go (leb 1 n) (leb n most_devices) refl refl
      where
        go : (t u : Bool) → leb 1 n ≡ t → leb n most_devices ≡ u →
            Begun
        go true true p q = few (leb-true 1 n p) (leb-true n most_devices q)
        go true false p q = none (λ s f. let z = leb-false n most_devices q in omega arith)
        go false u p q = none (λ s f. let z = leb-false 1 n p in omega arith)

  -- line 1, right or wrong, and no line
  script : length input ≤ longest → Complete (first_does (line_at 0 input) area) (script_listed (lines_of input))
  unfolding first_does script_listed
  script short = go (ltb 0 (length input)) refl
    where
      right_or_wrong : (t : Bool) → loop_right (line_at 0 input) ≡ t → 0 < length input →
          Complete (first_does (line_at 0 input) area) (script_listed (lines_of input))
      right_or_wrong true e s = rw (lines_cut input s, e) (any short e)
      right_or_wrong false e s = rw (lines_cut input s, e) (alone (bad_line 1) area)

      go : (t : Bool) → ltb 0 (length input) ≡ t → Complete (first_does (line_at 0 input) area)
          (script_listed (lines_of input))
      go true e = right_or_wrong (loop_right (line_at 0 input)) refl (ltb-true 0 (length input) e)
      go false e =
          let none = drop_of_length-le input {i = 0} (ltb-false 0 (length input) e) in
          rw (first_none input area none, script_none input none) (alone (bad_line 1) area)

  all_of_it : Complete (start_does input area room) (listing input)
  unfolding start_does listing
  all_of_it = rw (le-leb area_room (length area) lent, le-leb text_room room buffer)
      (go (ltb longest (length input)) refl)
    where
      go : (t : Bool) → ltb longest (length input) ≡ t →
          Complete (cond t (does long_line Next.End area) (first_does (line_at 0 input) area))
          (cond t long_line (script_listed (lines_of input)))
      go true e = alone long_line area
      go false e = script (ltb-false longest (length input) e)

pub all_chunks : ChunksList
unfolding Complete
all_chunks input area room lent buffer = all_of_it input area room lent buffer
