-- The chunks are the listing: each call does a line, and leaves the area, the place and the number for the lines behind
-- it.
use Prim.Native.Nat.{ℕ, zero, suc, ◌+◌, ◌≤◌, ◌<◌}
use mathlib.Core.Path.{◌≡◌, refl, ap, ◌∙◌}
use mathlib.Core.List.{List, [], ◌∷◌, ◌++◌, append-nil}
use mathlib.Core.Bool.{Bool, true, false}
use native.Mathlib.Numerals.{add-one}
use native.Mathlib.Omega.{arith}
use lib.Dec.{ltb}
use lib.ListN.{length, drop, length-append, length-drop, drop_of_length-le, get_or-append}
use lib.Seq.{take_at, drop_at, drop-drop, length-take-le}
use borrow.Author.Tests.{ltb-true, ltb-false, lt-ltb, le-ltb, le-leb}
use Rattle.byte_runs.specs.Bytes.{index_of}
use Rattle.area.specs.Sizes.{area_size}
use Rattle.area.specs.Loop.{count_in}
use Rattle.text.specs.Words.{newline}
use Rattle.text.specs.Digits.{number_at}
use Rattle.lister.specs.Lines.{lines_of}
use Rattle.text.specs.Out.{bad_line}
use Rattle.script.specs.Script.{frame_right}
use Rattle.round.specs.Round.{text_room, round_text, round_area}
use Rattle.lister.specs.Listing.{longest, frames_listed}
use Rattle.lister.specs.Chunks.{area_room, size_in, loop_bytes, over, does, line_at, line_does, ready}
use Rattle.lister.specs.Chunks.{step_does}
use Rattle.lister.specs.Laws.{text_from, next_from}
use Rattle.lister.specs.declared.Next.{Next}
use Rattle.lister.proofs.Cut.{index_within, lines_cut}
use Rattle.round.proofs.Held.{Area, judged, counted, long, round_held}

-- ---- a loop's area at the front of the lent one

module _ {m : ℕ} {a : List ℕ} (h : Area m a) (rest : List ℕ) where
  front_count : count_in (a ++ rest) ≡ m
  front_count = get_or-append a rest 0 0 (rw (long h) (omega arith)) ∙ counted h

  pub front_bytes : loop_bytes (a ++ rest) ≡ a
  front_bytes = rw front_count (take_at a rest (area_size m) (long h))

  front_over : (new : List ℕ) → over (size_in (a ++ rest)) new (a ++ rest) ≡ new ++ rest
  front_over new = rw (front_count, drop_at a rest (area_size m) (long h))

  front_ready : (n room : ℕ) → area_room ≤ length (a ++ rest) → text_room ≤ room → n ≤ longest →
      ready n (a ++ rest) room ≡ true
  unfolding ready
  front_ready n room w r k =
      rw (
        le-leb area_room (length (a ++ rest)) w,
        le-leb text_room room r,
        front_count,
        le-leb n longest k,
        take_at a rest (area_size m) (long h),
        judged h,
      )

-- ---- no more calls

pub end_text : (k : ℕ) (input area : List ℕ) (room : ℕ) → text_from k input Next.End area room ≡ []
end_text zero input area room = refl
end_text (suc k) input area room = refl

pub end_next : (k : ℕ) (input area : List ℕ) (room : ℕ) → next_from k input Next.End area room ≡ Next.End
end_next zero input area room = refl
end_next (suc k) input area room = refl

-- ---- all lines from a place on

module _ (input : List ℕ) (room : ℕ) (short : length input ≤ longest) (roomy : text_room ≤ room) (m : ℕ)
    (rest : List ℕ) where
  -- the calls from line n at a place on write the listing of the lines from there on, and come to their end
  abbrev pub Writes : ℕ → ℕ → ℕ → List ℕ → Type 0
  Writes k at n a =
      (text_from k input (Next.Line at n) (a ++ rest) room ≡ frames_listed n a (lines_of (drop at input)))
      × (next_from k input (Next.Line at n) (a ++ rest) room ≡ Next.End)

  abbrev pub Listed : ℕ → Type 0
  Listed k =
      (at n : ℕ) (a : List ℕ) → Area m a → area_room ≤ length (a ++ rest) →
      length input + 1 < at + k → at ≤ length input + 1 → n + 8 ≤ at → Writes k at n a

  -- no line is left
  past : (k at n : ℕ) (a : List ℕ) → ready n (a ++ rest) room ≡ true → length input ≤ at → Writes (suc k) at n a
  unfolding step_does lines_of frames_listed
  past k at n a r p =
      rw (r, le-ltb at (length input) p, drop_of_length-le input {i = at} p)
      (end_text k input (a ++ rest) room, end_next k input (a ++ rest) room)

  -- one is
  module _ (k at n : ℕ) (a : List ℕ) (h : Area m a) (r : ready n (a ++ rest) room ≡ true) (p : at < length input) where
    index : ℕ
    index = index_of newline (drop at input)

    frame : ℕ
    frame = number_at 0 3 (line_at at input)

    -- behind the line stands what is behind its newline
    behind : at + length (line_at at input) + 1 ≡ at + suc index
    unfolding index
    behind =
        let e = length-take-le (index_of newline (drop at input)) (drop at input)
        (index_within newline (drop at input)) in omega arith

    reach : at + suc index ≤ length input + 1
    unfolding index
    reach = omega (arith, index_within newline (drop at input), length-drop at input)

    step_is : step_does input at n (a ++ rest) room ≡ line_does (line_at at input) at n (a ++ rest)
    unfolding step_does
    step_is = rw (r, lt-ltb at (length input) p)

    cut_here : lines_of (drop at input) ≡ line_at at input ∷ lines_of (drop (at + suc index) input)
    unfolding index
    cut_here = lines_cut (drop at input) (rw length-drop (omega arith)) ∙ rw drop-drop

    line_right : frame_right (line_at at input) ≡ true →
        line_does (line_at at input) at n (a ++ rest)
        ≡ does (round_text frame a) (Next.Line (at + suc index) (suc n)) (round_area frame a ++ rest)
    unfolding line_does frame
    line_right e = rw (e, behind, add-one n, front_over h rest, front_bytes h rest)

    wrong : frame_right (line_at at input) ≡ false → Writes (suc k) at n a
    unfolding line_does frames_listed
    wrong e =
        rw (step_is, cut_here, e)
        (rw (end_text k input (a ++ rest) room) (append-nil (bad_line n)), end_next k input (a ++ rest) room)

    right : frame_right (line_at at input) ≡ true → Writes k (at + suc index) (suc n) (round_area frame a) →
        Writes (suc k) at n a
    unfolding frames_listed frame
    right e w = rw (step_is, line_right e, cut_here, e)
        (ap (λ (t : List ℕ). round_text (number_at 0 3 (line_at at input)) a ++ t) w.0, w.1)

    one_line : Listed k → area_room ≤ length (a ++ rest) → length input + 1 < at + suc k → n + 8 ≤ at →
        Writes (suc k) at n a
    one_line next w q o = go (frame_right (line_at at input)) refl
      where
        go : (t : Bool) → frame_right (line_at at input) ≡ t → Writes (suc k) at n a
        go false e = wrong e
        go true e =
            right e
            (next (at + suc index) (suc n) (round_area frame a) (round_held frame h)
            (rw (length-append, long (round_held frame h)) (rw (length-append, long h) at w))
            (omega arith) reach (omega arith))

  pub listed : (k : ℕ) → Listed k
  listed zero at n a h w p q o = absurd (omega arith)
  listed (suc k) at n a h w p q o = go (listed k) (ltb at (length input)) refl
    where
      go : Listed k → (t : Bool) → ltb at (length input) ≡ t → Writes (suc k) at n a
      go next true e =
          one_line k at n a h (front_ready h rest n room w roomy (omega arith))
          (ltb-true at (length input) e) next w p o
      go next false e =
          past k at n a (front_ready h rest n room w roomy (omega arith)) (ltb-false at (length input) e)
