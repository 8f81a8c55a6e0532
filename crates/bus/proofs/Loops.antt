-- Rows place by place, as the loops of the code go through them: what is found or written so far, and the rest.
use Prim.Native.Nat.{ℕ, zero, suc, zero-le, ◌+◌, ◌-◌, ◌*◌, ◌%◌, ◌/◌, ◌≤◌, ◌<◌}
use mathlib.Core.Path.{◌≡◌, refl, sym, ap, ◌∙◌}
use mathlib.Core.List.{List, [], ◌∷◌, ◌++◌}
use mathlib.Core.Bool.{Bool, true, false, cond, not, ◌&&◌, ◌||◌}
use native.Mathlib.Nat.{add-zero, zero-add, not-suc-le-zero, le_of_suc-le-suc}
use native.Mathlib.Numerals.{add-one}
use native.Mathlib.Omega.{arith}
use lib.Dec.{eqb, ltb}
use lib.ListN.{length, get_or, drop, set, drop_of_length-le}
use lib.Seq.{drop-cons, take-length, paste, paste-zero, paste-suc, length-paste}
use borrow.Author.Tests.{ltb-true, ltb-false, eqb-true, eqb-false, ne_eqb, eq-eqb}
use Rattle.std.specs.Prelude.{Option, None, Some, unwrap_or}
use Rattle.std.specs.List.{position, position_or_len}
use Rattle.std.proofs.lemmas.Bool.Decides.{nat_tests}
use Rattle.std.proofs.lemmas.List.Recursion.{is_position_or_len}
use Rattle.std.proofs.lemmas.List.Sums.{prefix_len-le-length}
use Rattle.frame.specs.Messages.{messages, first_in, first_of}
use Rattle.frame.specs.Decoding.{data_in}
use Rattle.bus.specs.Codes.{has_command, command_of, has_byte, byte_of, rfc}
use Rattle.bus.specs.Rows.{imported, have_commands, byte_without, exported, are_pairs, frame_without}
use Rattle.bus.specs.Calls.{Written, written, Is, match_answer, no_match, full, import_of, export_of}
use Rattle.bus.specs.declared.MatchAnswer.{MatchAnswer}
use Rattle.bus.proofs.Codes.{false_true, data_is}
use Rattle.bus.proofs.Rows.{lengths, first_byte, first_frame}
use Rattle.bus.proofs.Calls.{unmatched, no_room, done}

-- ---- the first place without a match

turned : (t : Bool) (n : ℕ) → cond t (suc n) 0 ≡ cond (not t) 0 (1 + n)
turned true n = omega arith
turned false n = refl

byte_first : (row : List ℕ) → byte_without row ≡ position_or_len (λ b. not (has_command b)) row
unfolding byte_without
byte_first row = is_position_or_len byte_without (λ b. not (has_command b)) refl
    (λ b bs. turned (has_command b) (byte_without bs)) row

-- the row's length is the place where there is none
or_length : (n i : ℕ) → i ≤ n → unwrap_or (cond (ltb i n) (Some i) None) n ≡ i
or_length n i h = grind (arith, nat_tests)

pub byte_found : (row : List ℕ) {r : Option ℕ} → r ≡ position (λ b. not (has_command b)) row →
    unwrap_or r (length row) ≡ byte_without row
byte_found row e =
    rw (e, byte_first row) (or_length _ _ (prefix_len-le-length (λ b. not (not (has_command b))) row))

no_byte : (f : ℕ) (rest : List ℕ) → has_byte f ≡ false → frame_without (f ∷ rest) ≡ 0
unfolding frame_without
no_byte f [] h = rw h
no_byte f (g ∷ fs) h = rw h

-- RFC's code
pub rfc_is : rfc ≡ 0x500
unfolding rfc first_of first_in messages
rfc_is = refl

module _ (fs : List ℕ) (i : ℕ) (h : frame_without fs ≡ i + frame_without (drop i fs)) (p : i < length fs) where
  pub frame_stops : has_byte (get_or fs i 0) ≡ false → frame_without fs ≡ i
  frame_stops m = h ∙ rw (drop-cons fs i 0 p, no_byte (get_or fs i 0) (drop (suc i) fs) m) (add-zero i)

  pub frame_alone : has_byte (get_or fs i 0) ≡ true → length fs - i < 2 → frame_without fs ≡ length fs
  unfolding frame_without
  frame_alone m l =
      h ∙ rw (drop-cons fs i 0 p, drop_of_length-le fs {i = suc i} (omega arith), m) (omega arith)

  module _ (m : has_byte (get_or fs i 0) ≡ true) (l : 2 ≤ length fs - i) where
    pub frame_breaks : (get_or fs (i + 1) 0 ≡ 0x500 → ⊥) → frame_without fs ≡ i + 1
    unfolding frame_without
    frame_breaks n =
        let k : i + 1 ≡ suc i = add-one i in
        h ∙ rw (drop-cons fs i 0 p, drop-cons fs (suc i) 0 (omega arith), m, ← k, rfc_is)
        (rw (ne_eqb (get_or fs (i + 1) 0) 0x500 n))

    pub frame_goes : get_or fs (i + 1) 0 ≡ 0x500 → frame_without fs ≡ i + 2 + frame_without (drop (i + 2) fs)
    unfolding frame_without
    frame_goes e =
        let k : i + 1 ≡ suc i = add-one i in
        let k2 : i + 2 ≡ suc (suc i) = omega arith in
        let e2 : get_or fs (suc i) 0 ≡ rfc = (rw k at e) ∙ sym rfc_is in
        h ∙ rw (drop-cons fs i 0 p, drop-cons fs (suc i) 0 (omega arith), m, e2, eq-eqb rfc rfc refl, k2) (omega arith)

pub frame_ends : (fs : List ℕ) (i : ℕ) → frame_without fs ≡ i + frame_without (drop i fs) → length fs ≤ i →
    frame_without fs ≡ i
unfolding frame_without
frame_ends fs i h p = h ∙ rw (drop_of_length-le fs {i = i} p) (add-zero i)

-- ---- writing: the first n of a row are in the room, and behind them it is as it was

pub record Writing (row room : List ℕ) (n : ℕ) (now : List ℕ) : Type 0 where
  pub fits : length row ≤ length room
  pub most : n ≤ length row
  pub is : now ≡ paste room 0 row n

module _ {row room : List ℕ} where
  pub starts : length row ≤ length room → Writing row room 0 room
  starts h = record { fits = h; most = zero-le; is = paste-zero room 0 row }

  -- the next of the row is stored
  pub stored : {n x : ℕ} {now : List ℕ} → Writing row room n now → n < length row → get_or row n 0 ≡ x →
      Writing row room (n + 1) (set now n x)
  stored {n} {x} {now} w i e =
      let j = w.fits in
      record {
        fits = j;
        most = omega arith;
        is = rw (w.is, ← e, add-one)
            (ap (λ (k : ℕ). set (paste room 0 row n) k (get_or row n 0)) (sym (zero-add n))
            ∙ paste-suc room 0 row n 0 (omega arith) i);
      }

  pub kept : {n : ℕ} {now : List ℕ} → Writing row room n now → length now ≡ length room
  kept {n} w = let m = w.most in let j = w.fits in rw w.is (length-paste room 0 row n (omega arith) m)

  pub all_written : {n : ℕ} {now : List ℕ} → Writing row room n now → length row ≤ n →
      now ≡ row ++ drop (length row) room
  all_written {n} w h =
      let m = w.most in
      let e : n ≡ length row = omega arith in w.is ∙ rw (e, take-length row, zero-add (length row))

-- what stands in the rows to be written

pub command_at : (bs : List ℕ) (i : ℕ) → i < length bs → get_or (imported bs) (2 * i) 0 ≡ command_of (get_or bs i 0)
unfolding imported
command_at [] i h = absurd (not-suc-le-zero h)
command_at (b ∷ bs) zero h = refl
command_at (b ∷ bs) (suc i) h =
    let e : 2 * suc i ≡ suc (suc (2 * i)) = omega arith in rw e (command_at bs i (le_of_suc-le-suc h))

pub rfc_at : (bs : List ℕ) (i : ℕ) → i < length bs → get_or (imported bs) (2 * i + 1) 0 ≡ 0x500
unfolding imported
rfc_at [] i h = absurd (not-suc-le-zero h)
rfc_at (b ∷ bs) zero h = rfc_is
rfc_at (b ∷ bs) (suc i) h =
    let e : 2 * suc i + 1 ≡ suc (suc (2 * i + 1)) = omega arith in rw e (rfc_at bs i (le_of_suc-le-suc h))

pub byte_at : (fs : List ℕ) (i : ℕ) → i < length fs / 2 → get_or (exported fs) i 0 ≡ byte_of (get_or fs (2 * i) 0)
unfolding exported
byte_at [] i h = absurd (omega arith)
byte_at (f ∷ []) i h = absurd (omega arith)
byte_at (f ∷ g ∷ fs) zero h = refl
byte_at (f ∷ g ∷ fs) (suc i) h =
    let e : 2 * suc i ≡ suc (suc (2 * i)) = omega arith in rw e (byte_at fs i (omega arith))

-- ---- how each call ends

ends : {w : Written} {r : MatchAnswer} {x : List ℕ} → w ≡ written r x → Is w r x
ends e = rw e (refl, refl)

module _ (row room : List ℕ) {p : ℕ} (e : p ≡ byte_without row) where
  have : length row ≤ p → have_commands row ≡ true
  have h =
      let w = (first_byte row).within in
      (first_byte row).none ∙ eq-eqb (byte_without row) (length row) (omega arith)

  pub no_command : p < length row → Is (import_of row room) (record { place = p; refusal = no_match }) room
  no_command h =
      let n : have_commands row ≡ false = (first_byte row).none ∙ ne_eqb (byte_without row) (length row) (omega arith) in
      rw e (ends (unmatched (have_commands row) (byte_without row) (imported row) room n))

  pub no_frames : length row ≤ p → length room / 2 < length row → Is (import_of row room) (match_answer 0 full) room
  no_frames h r =
      let l = lengths.of_import row in
      ends (no_room (have_commands row) (byte_without row) (imported row) room (have h) (omega arith))

  pub imports : length row ≤ p → {n : ℕ} {now : List ℕ} → Writing (imported row) room n now →
      length (imported row) ≤ n → Is (import_of row room) (match_answer 0 0) now
  imports h w k =
      rw (all_written w k)
      (ends (done (have_commands row) (byte_without row) (imported row) room (have h) w.fits))

-- an odd length, or a place before the end
odd_or : (s t : Bool) → (s || t) ≡ false → (s ≡ false) × (t ≡ false)
odd_or true t h = false_true (sym h)
odd_or false t h = (refl, h)

module _ (fs room : List ℕ) {p : ℕ} (e : p ≡ frame_without fs) where
  pub paired : (ltb p (length fs) || eqb (length fs % 2) 1) ≡ false → are_pairs fs ≡ true
  paired h =
      let o = odd_or (ltb p (length fs)) (eqb (length fs % 2) 1) h in
      let l = ltb-false p (length fs) o.0 in
      let d = eqb-false (length fs % 2) 1 o.1 in
      let w = (first_frame fs).within in
      (first_frame fs).none
      ∙ rw (eq-eqb (frame_without fs) (length fs) (omega arith), eq-eqb (length fs % 2) 0 (omega arith))

  unpaired : (s t : Bool) → ltb p (length fs) ≡ s → eqb (length fs % 2) 1 ≡ t → (s || t) ≡ true →
      (eqb (frame_without fs) (length fs) && eqb (length fs % 2) 0) ≡ false
  unpaired true t i j h =
      let l = ltb-true p (length fs) i in rw (ne_eqb (frame_without fs) (length fs) (omega arith))
  unpaired false true i j h =
      let o = eqb-true (length fs % 2) 1 j in
      rw (ne_eqb (length fs % 2) 0 (omega arith)) (go (eqb (frame_without fs) (length fs)))
    where
      go : (b : Bool) → (b && false) ≡ false
      go true = refl
      go false = refl
  unpaired false false i j h = false_true h

  pub no_pair : (ltb p (length fs) || eqb (length fs % 2) 1) ≡ true →
      Is (export_of fs room) (record { place = p; refusal = no_match }) room
  no_pair h =
      let n : are_pairs fs ≡ false =
      (first_frame fs).none ∙ unpaired (ltb p (length fs)) (eqb (length fs % 2) 1) refl refl h in
      rw e (ends (unmatched (are_pairs fs) (frame_without fs) (exported fs) room n))

  module _ (h : (ltb p (length fs) || eqb (length fs % 2) 1) ≡ false) where
    pub no_bytes : length room < length fs / 2 → Is (export_of fs room) (match_answer 0 full) room
    no_bytes r =
        let l = lengths.of_export fs in
        ends (no_room (are_pairs fs) (frame_without fs) (exported fs) room (paired h) (omega arith))

    pub exports : {n : ℕ} {now : List ℕ} → Writing (exported fs) room n now → length (exported fs) ≤ n →
        Is (export_of fs room) (match_answer 0 0) now
    exports w k =
        rw (all_written w k)
        (ends (done (are_pairs fs) (frame_without fs) (exported fs) room (paired h) w.fits))

    -- the frame of a pair has a byte, which is its data bits
    pub data_at : (i : ℕ) → i < length fs / 2 → get_or (exported fs) i 0 ≡ data_in (get_or fs (2 * i) 0)
    data_at i k =
        let o = odd_or (ltb p (length fs)) (eqb (length fs % 2) 1) h in
        let l = ltb-false p (length fs) o.0 in
        let t : 2 * i % 2 ≡ 0 = omega arith in
        let s : has_byte (get_or fs (2 * i) 0) ≡ true = rw t at ((first_frame fs).before (2 * i) (omega arith)) in
        byte_at fs i k ∙ sym (data_is (get_or fs (2 * i) 0) s)
