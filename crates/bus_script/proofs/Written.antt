-- Lines of frames one behind the other, four bytes each; and how an import ends whose room is long enough.
use Prim.Native.Nat.{ℕ, zero-le, ◌+◌, ◌*◌, ◌≤◌, ◌<◌}
use mathlib.Core.Path.{◌≡◌, refl, sym, ap, ◌∙◌}
use mathlib.Core.Bool.{Bool, true, false}
use mathlib.Core.List.{List, [], ◌∷◌, ◌++◌, append_assoc, append-nil}
use native.Mathlib.Nat.{zero-add}
use native.Mathlib.Numerals.{add-one}
use native.Mathlib.Omega.{arith}
use lib.ListN.{length, get_or, take, drop, length-append}
use borrow.Author.Tests.{eqb-false}
use lib.Seq.{take-suc, take_all, length-take-le}
use Rattle.bus.specs.Rows.{imported, have_commands, byte_without}
use Rattle.bus.specs.Calls.{Written, Is, match_answer, import_of}
use Rattle.bus.specs.declared.MatchAnswer.{MatchAnswer}
use Rattle.bus.proofs.Rows.{lengths, first_byte}
use Rattle.bus.proofs.Calls.{unmatched, done}
use Rattle.text.specs.Out.{script_size, script_line}
use Rattle.text.specs.Write.{Wrote}
use Rattle.text.proofs.Splices.{next, long, nothing}
use Rattle.bus_script.specs.Listing.{script_of}

pub script_long : (fs : List ℕ) → length (script_of fs) ≡ script_size * length fs
unfolding script_of
script_long [] = refl
script_long (f ∷ fs) = let h = script_long fs in length-append (script_line f) (script_of fs) ∙ omega arith

script_join : (fs gs : List ℕ) → script_of (fs ++ gs) ≡ script_of fs ++ script_of gs
unfolding script_of
script_join [] gs = refl
script_join (f ∷ fs) gs = rw (script_join fs gs) (sym (append_assoc (script_line f) (script_of fs) (script_of gs)))

-- one frame more
pub script_next : (fs : List ℕ) (i : ℕ) → i < length fs →
    script_of (take i fs) ++ script_line (get_or fs i 0) ≡ script_of (take (i + 1) fs)
unfolding script_of
script_next fs i h =
    rw (add-one i, take-suc fs i 0 h, script_join (take i fs) (get_or fs i 0 ∷ []))
    (ap (λ (t : List ℕ). script_of (take i fs) ++ t) (sym (append-nil (script_line (get_or fs i 0)))))

-- ---- the first i lines are written, and there is room for all

pub record Lined (frames room : List ℕ) (i at : ℕ) (now : List ℕ) : Type 0 where
  pub fits : script_size * length frames ≤ length room
  pub most : i ≤ length frames
  pub wrote : Wrote (script_of (take i frames)) 0 room at now

module _ {frames room : List ℕ} where
  pub starts : script_size * length frames ≤ length room → Lined frames room 0 0 room
  unfolding script_of
  starts h = record { fits = h; most = zero-le; wrote = nothing room 0 }

  module _ {i at : ℕ} {now : List ℕ} (l : Lined frames room i at now) where
    pub ends_at : at ≡ script_size * i
    ends_at =
        l.wrote.behind ∙ zero-add (length (script_of (take i frames)))
        ∙ script_long (take i frames) ∙ rw (length-take-le i frames l.most)

    pub room_kept : length now ≡ length room
    room_kept =
        let s = script_long (take i frames) in
        let t = length-take-le i frames l.most in
        let f = l.fits in
        let m = l.most in long (omega arith) l.wrote

    pub line_more : {r : ℕ} {then : List ℕ} → i < length frames → Wrote (script_line (get_or frames i 0)) at now r then →
        Lined frames room (i + 1) r then
    line_more h w =
        record {
          fits = l.fits;
          most = omega arith;
          wrote = rw (← script_next frames i h) (next zero-le l.wrote w);
        }

    pub all_lined : length frames ≤ i → Wrote (script_of frames) 0 room at now
    all_lined h = rw (take_all i frames h) at l.wrote

-- ---- an import with room enough ends with 11, or with the row

module _ (row room : List ℕ) (fits : 2 * length row ≤ length room) {r : MatchAnswer} {x : List ℕ}
    (is : Is (import_of row room) r x) where
  no_match : have_commands row ≡ false → r ≡ record { place = byte_without row; refusal = 11 }
  no_match e =
      is.0 ∙ ap (λ (w : Written). w.answer) (unmatched (have_commands row) (byte_without row) (imported row) room e)

  all_match : have_commands row ≡ true →
      (r ≡ match_answer 0 0) × (x ≡ imported row ++ drop (length (imported row)) room)
  all_match e =
      let w = done (have_commands row) (byte_without row) (imported row) room e (rw (lengths.of_import row) fits) in
      (is.0 ∙ ap (λ (w : Written). w.answer) w, is.1 ∙ ap (λ (w : Written). w.room) w)

  pub with_11 : r.refusal ≡ 11 → (have_commands row ≡ false) × (r.place ≡ byte_without row)
  with_11 h = go (have_commands row) refl
    where
      go : (m : Bool) → have_commands row ≡ m → (have_commands row ≡ false) × (r.place ≡ byte_without row)
      go true e =
          let z : ◌≡◌ {A = ℕ} 0 11 = sym (ap (λ (a : MatchAnswer). a.refusal) (all_match e).0) ∙ h in
          absurd (omega arith)
      go false e = (e, ap (λ (a : MatchAnswer). a.place) (no_match e))

  pub without_11 : (r.refusal ≡ 11 → ⊥) →
      (have_commands row ≡ true) × (x ≡ imported row ++ drop (length (imported row)) room)
  without_11 h = go (have_commands row) refl
    where
      go : (m : Bool) → have_commands row ≡ m →
          (have_commands row ≡ true) × (x ≡ imported row ++ drop (length (imported row)) room)
      go true e = (e, (all_match e).1)
      go false e = absurd (h (ap (λ (a : MatchAnswer). a.refusal) (no_match e)))

-- the place of a byte without a command is before the row's end
pub place_within : (row : List ℕ) → have_commands row ≡ false → byte_without row < length row
place_within row e =
    let f = first_byte row in
    let n = eqb-false (byte_without row) (length row) (sym f.none ∙ e) in omega (arith, f.within)
