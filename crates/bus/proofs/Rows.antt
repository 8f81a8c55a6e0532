-- The laws of rows, each by induction on the row: byte by byte, and pair by pair.
use Prim.Native.Nat.{ℕ, zero, suc, zero-le, ◌*◌, ◌%◌, ◌/◌, ◌≤◌, ◌<◌}
use mathlib.Core.Path.{◌≡◌, refl, ◌∙◌}
use mathlib.Core.List.{List, [], ◌∷◌}
use mathlib.Core.Bool.{Bool, true, false, cond, ◌&&◌}
use native.Mathlib.Nat.{not-suc-le-zero, le_of_suc-le-suc}
use native.Mathlib.Omega.{arith}
use lib.Dec.{eqb, eqb-suc-suc}
use lib.ListN.{length, get_or}
use borrow.Author.Tests.{eqb-true, eq-eqb, ne_eqb}
use Rattle.frame.proofs.Laws.{both_true}
use Rattle.bus.specs.Codes.{has_command, has_byte, rfc}
use Rattle.bus.specs.Rows.{imported, have_commands, byte_without, exported, are_pairs, frame_without}
use Rattle.bus.specs.Laws.{Needs, FirstByte, stands, FirstFrame}
use Rattle.bus.proofs.Codes.{equal_codes_lem}

-- ---- lengths

imported_long : (bs : List ℕ) → length (imported bs) ≡ 2 * length bs
unfolding imported
imported_long [] = refl
imported_long (b ∷ bs) = let h = imported_long bs in omega arith

exported_long : (fs : List ℕ) → length (exported fs) ≡ length fs / 2
unfolding exported
exported_long [] = refl
exported_long (f ∷ []) = refl
exported_long (f ∷ g ∷ fs) = let h = exported_long fs in omega arith

pub lengths : Needs
lengths = record { of_import = imported_long; of_export = exported_long }

-- ---- the first byte without a command

-- p is the first place where a row's number fails a test, or the row's length
record First (test : ℕ → ℕ → Bool) (xs : List ℕ) (p : ℕ) : Type 0 where
  before : (i : ℕ) → i < p → test i (get_or xs i 0) ≡ true
  there : p < length xs → test p (get_or xs p 0) ≡ false
  within : p ≤ length xs

module _ (test : ℕ → ℕ → Bool) where
  at_end : First test [] 0
  at_end =
      record {
        before = λ i h. absurd (not-suc-le-zero h);
        there = λ h. absurd (not-suc-le-zero h);
        within = zero-le;
      }

  fails : (x : ℕ) (xs : List ℕ) → test 0 x ≡ false → First test (x ∷ xs) 0
  fails x xs e = record { before = λ i h. absurd (not-suc-le-zero h); there = λ h. e; within = zero-le }

  passes : (x : ℕ) (xs : List ℕ) (p : ℕ) → test 0 x ≡ true → First (λ i. test (suc i)) xs p →
      First test (x ∷ xs) (suc p)
  passes x xs p e r =
      record {
        before = go;
        there = λ h. r.there (le_of_suc-le-suc h);
        within = let w = r.within in omega arith;
      }
    where
      go : (i : ℕ) → i < suc p → test i (get_or (x ∷ xs) i 0) ≡ true
      go zero h = e
      go (suc i) h = r.before i (le_of_suc-le-suc h)

-- a test that is the same at every place
has : ℕ → ℕ → Bool
has i b = has_command b

byte_first : (bs : List ℕ) → First has bs (byte_without bs)
unfolding byte_without has
byte_first [] = at_end has
byte_first (b ∷ bs) = go (has_command b) refl (byte_first bs)
  where
    go : (t : Bool) → has_command b ≡ t → First has bs (byte_without bs) →
        First has (b ∷ bs) (cond t (suc (byte_without bs)) 0)
    go true e r = passes has b bs (byte_without bs) e r
    go false e r = fails has b bs e

byte_none : (bs : List ℕ) → have_commands bs ≡ eqb (byte_without bs) (length bs)
unfolding byte_without have_commands
byte_none [] = refl
byte_none (b ∷ bs) = go (has_command b) (byte_none bs)
  where
    go : (t : Bool) → have_commands bs ≡ eqb (byte_without bs) (length bs) →
        (t && have_commands bs) ≡ eqb (cond t (suc (byte_without bs)) 0) (suc (length bs))
    go true r = rw (eqb-suc-suc (byte_without bs) (length bs)) r
    go false r = rw (ne_eqb 0 (suc (length bs)) (omega arith))

pub first_byte : (bs : List ℕ) → FirstByte bs
unfolding has
first_byte bs =
    let f = byte_first bs in
    record { before = f.before; there = f.there; within = f.within; none = byte_none bs }

-- ---- the first frame that breaks a pair or has no byte

-- two places further on the same stands
turned : (i f : ℕ) → stands (suc (suc i)) f ≡ stands i f
turned i f = let e : suc (suc i) % 2 ≡ i % 2 = omega arith in rw e

again : (xs : List ℕ) (p : ℕ) → First stands xs p → First (λ i. stands (suc (suc i))) xs p
again xs p r =
    record {
      before = λ i h. turned i (get_or xs i 0) ∙ r.before i h;
      there = λ h. turned p (get_or xs p 0) ∙ r.there h;
      within = r.within;
    }

frame_first : (fs : List ℕ) → First stands fs (frame_without fs)
unfolding frame_without
frame_first [] = at_end stands
frame_first (f ∷ []) = go (has_byte f) refl
  where
    go : (t : Bool) → has_byte f ≡ t → First stands (f ∷ []) (cond t 1 0)
    go true e = passes stands f [] 0 e (at_end (λ i. stands (suc i)))
    go false e = fails stands f [] e
frame_first (f ∷ g ∷ fs) = go (has_byte f) (eqb g rfc) refl refl (frame_first fs)
  where
    go : (t u : Bool) → has_byte f ≡ t → eqb g rfc ≡ u → First stands fs (frame_without fs) →
        First stands (f ∷ g ∷ fs) (cond t (cond u (suc (suc (frame_without fs))) 1) 0)
    go true true e k r =
        passes stands f (g ∷ fs) (suc (frame_without fs)) e
        (passes (λ i. stands (suc i)) g fs (frame_without fs) k (again fs (frame_without fs) r))
    go true false e k r = passes stands f (g ∷ fs) 0 e (fails (λ i. stands (suc i)) g fs k)
    go false u e k r = fails stands f (g ∷ fs) e

frame_none : (fs : List ℕ) → are_pairs fs ≡ (eqb (frame_without fs) (length fs) && eqb (length fs % 2) 0)
unfolding frame_without are_pairs
frame_none [] = refl
frame_none (f ∷ []) = go (has_byte f)
  where
    go : (t : Bool) → false ≡ (eqb (cond t 1 0) 1 && false)
    go true = refl
    go false = refl
frame_none (f ∷ g ∷ fs) =
    let e : suc (suc (length fs)) % 2 ≡ length fs % 2 = omega arith in
    rw e (go (has_byte f) (eqb g rfc) (frame_none fs))
  where
    go : (t u : Bool) → are_pairs fs ≡ (eqb (frame_without fs) (length fs) && eqb (length fs % 2) 0) →
        (t && (u && are_pairs fs)) ≡
        (eqb (cond t (cond u (suc (suc (frame_without fs))) 1) 0) (suc (suc (length fs))) && eqb (length fs % 2) 0)
    go true true r =
        rw (eqb-suc-suc (suc (frame_without fs)) (suc (length fs)), eqb-suc-suc (frame_without fs) (length fs)) r
    go true false r = rw (ne_eqb 1 (suc (suc (length fs))) (omega arith))
    go false u r = rw (ne_eqb 0 (suc (suc (length fs))) (omega arith))

pub first_frame : (fs : List ℕ) → FirstFrame fs
first_frame fs =
    let f = frame_first fs in
    record { before = f.before; there = f.there; within = f.within; none = frame_none fs }

-- ---- there and back

pub import_export : (bs : List ℕ) → have_commands bs ≡ true →
    (are_pairs (imported bs) ≡ true) × (exported (imported bs) ≡ bs)
unfolding imported exported have_commands are_pairs
import_export [] h = (refl, refl)
import_export (b ∷ bs) h =
    let p = both_true (has_command b) (have_commands bs) h in
    let c = equal_codes_lem.of_byte b p.0 in
    let r = import_export bs p.1 in
    (rw (c.1, eq-eqb rfc rfc refl, r.0), rw (c.2, r.1))

pub export_import : (fs : List ℕ) → are_pairs fs ≡ true →
    (have_commands (exported fs) ≡ true) × (imported (exported fs) ≡ fs)
unfolding imported exported have_commands are_pairs
export_import [] h = (refl, refl)
export_import (f ∷ []) h = absurd (let z : ◌≡◌ {A = ℕ} 0 1 = cc in omega arith)
export_import (f ∷ g ∷ fs) h =
    let p = both_true (has_byte f) (eqb g rfc && are_pairs fs) h in
    let q = both_true (eqb g rfc) (are_pairs fs) p.1 in
    let c = equal_codes_lem.of_frame f p.0 in
    let r = export_import fs q.1 in
    (rw (c.0, r.0), rw (c.1, eqb-true g rfc q.0, r.1))
