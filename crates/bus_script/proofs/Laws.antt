-- Each line is three digits and a newline, and no digit is one: so the lister cuts the lines where they end, and reads
-- of each the frame that was written.
use Prim.Native.Nat.{ℕ, ◌+◌, ◌*◌, ◌/◌, ◌%◌, ◌≤◌, ◌<◌}
use mathlib.Core.Path.{◌≡◌, refl}
use mathlib.Core.Bool.{Bool, true, false, not, cond}
use mathlib.Core.List.{List, [], ◌∷◌, ◌++◌}
use native.Mathlib.Omega.{arith}
use lib.Dec.{eqb, ltb}
use lib.ListN.{length, length-append}
use borrow.Author.Tests.{lt-ltb, le-ltb, ltb-true, ltb-false, not-true}
use Rattle.frame.specs.Messages.{frames}
use Rattle.frame.proofs.Laws.{both_true}
use Rattle.frame.proofs.Table.{same}
use Rattle.area.specs.Parts.{all}
use Rattle.bus.specs.Codes.{has_command, command_of, rfc}
use Rattle.bus.specs.Rows.{imported, have_commands, byte_without}
use Rattle.bus.proofs.Codes.{low}
use Rattle.bus.proofs.Rows.{lengths}
use Rattle.bus.proofs.Loops.{rfc_is}
use Rattle.text.specs.Digits.{char_of, digit_of, hex, number_at}
use Rattle.text.specs.Words.{newline}
use Rattle.text.specs.Out.{script_line, bad_line, long_line}
use Rattle.text.proofs.Numbers.{five_digits}
use Rattle.script.specs.Script.{frame_right}
use Rattle.lister.specs.Lines.{lines_of}
use Rattle.lister.specs.Listing.{longest}
use Rattle.bus_script.specs.Listing.{text_room, script_of, row_listed, bus_listing}
use Rattle.bus_script.specs.Laws.{HasRoom, Says, InFront, ReadsBack}
use Rattle.bus_script.proofs.Written.{script_long, place_within}

-- ---- room

bad_short : (n : ℕ) → n < 100000 → length (bad_line n) ≤ 10
bad_short n h = let d = five_digits n h in simp length-append (omega arith)

pub has_room : HasRoom
unfolding bus_listing row_listed
has_room row = go (ltb longest (length row)) (have_commands row) refl refl
  where
    go : (t m : Bool) → ltb longest (length row) ≡ t → have_commands row ≡ m →
        length (cond t long_line (cond m (script_of (imported row)) (bad_line (byte_without row)))) ≤ text_room
    go true m e h = omega arith
    go false true e h =
        let l = ltb-false longest (length row) e in
        let s = script_long (imported row) in let i = lengths.of_import row in omega arith
    go false false e h =
        let l = ltb-false longest (length row) e in
        let p = place_within row h in let b = bad_short (byte_without row) (omega arith) in omega arith

-- ---- digits

digit_back : (d : ℕ) → d < 16 → digit_of (char_of d) ≡ d
unfolding digit_of
digit_back d h = same (λ d. digit_of (char_of d)) (λ d. d) 16 d refl h

no_newline : (d : ℕ) → d < 16 → eqb (char_of d) newline ≡ false
no_newline d h = go (eqb (char_of d) newline) (same (λ d. cond (eqb (char_of d) newline) 1 0) (λ d. 0) 16 d refl h)
  where
    go : (t : Bool) → ◌≡◌ {A = ℕ} (cond t 1 0) 0 → t ≡ false
    go true e = absurd (omega arith)
    go false e = refl

-- ---- one line

line_cut : (f : ℕ) (rest : List ℕ) → lines_of (script_line f ++ rest) ≡ hex 3 f ∷ lines_of rest
unfolding lines_of
line_cut f rest =
    rw (
      no_newline (f / 16 / 16 % 16) (omega arith),
      no_newline (f / 16 % 16) (omega arith),
      no_newline (f % 16) (omega arith),
    )

line_says : (f : ℕ) → f < frames → (frame_right (hex 3 f) ≡ true) × (number_at 0 3 (hex 3 f) ≡ f)
unfolding frame_right
line_says f h =
    let x = f / 16 / 16 % 16 in
    let y = f / 16 % 16 in
    let z = f % 16 in
    let e : 16 * (16 * (0 + x) + y) + z ≡ f = omega arith in
    rw (digit_back x (omega arith), digit_back y (omega arith), digit_back z (omega arith), e)
    (rw (lt-ltb x 16 (omega arith), lt-ltb y 16 (omega arith), lt-ltb z 16 (omega arith), lt-ltb f frames h)
    (refl, refl))

-- ---- all lines

pub in_front : InFront
unfolding lines_of all
in_front [] text h = refl
in_front (x ∷ line) text h =
    let p = both_true (not (eqb x newline)) (all (λ x. not (eqb x newline)) line) h in
    rw (not-true (eqb x newline) p.0, in_front line text p.1)

script_says : (fs : List ℕ) → all (λ f. ltb f frames) fs ≡ true → Says (script_of fs) fs
unfolding script_of lines_of all
script_says [] h = record { all_right = refl; in_order = refl }
script_says (f ∷ fs) h =
    let p = both_true (ltb f frames) (all (λ f. ltb f frames) fs) h in
    let l = line_says f (ltb-true f frames p.0) in
    let r = script_says fs p.1 in
    record {
      all_right = rw (line_cut f (script_of fs), l.0) r.all_right;
      in_order = rw (line_cut f (script_of fs), l.1, r.in_order);
    }

imported_frames : (bs : List ℕ) → have_commands bs ≡ true → all (λ f. ltb f frames) (imported bs) ≡ true
unfolding have_commands imported all
imported_frames [] h = refl
imported_frames (b ∷ bs) h =
    let p = both_true (has_command b) (have_commands bs) h in
    rw (
      lt-ltb (command_of b) frames (let l = low b p.0 in omega arith),
      lt-ltb rfc frames (omega (arith, rfc_is)),
      imported_frames bs p.1,
    )

pub reads_back : ReadsBack
unfolding bus_listing row_listed
reads_back row h k = rw (le-ltb longest (length row) k, h) (script_says (imported row) (imported_frames row h))
