-- How a call ends, by whether its row matches and has room; and so the two calls one after the other: what the first
-- wrote is a row that matches for the second.
use Prim.Native.Nat.{ℕ, ◌*◌, ◌/◌, ◌≤◌, ◌<◌}
use mathlib.Core.Path.{◌≡◌, refl, sym, ◌∙◌}
use mathlib.Core.List.{List, ◌++◌}
use mathlib.Core.Bool.{Bool, true, false, not, cond}
use native.Mathlib.Omega.{arith}
use lib.Dec.{ltb}
use lib.ListN.{length, drop}
use lib.Seq.{take_at}
use borrow.Author.Tests.{ltb-false, lt-ltb, le-ltb}
use Rattle.bus.specs.Rows.{imported, have_commands, byte_without, exported, are_pairs, frame_without}
use Rattle.bus.specs.Calls.{written, match_answer, full, no_match, writes}
use Rattle.bus.specs.Laws.{MatchUnique, ImportExport, ExportImport}
use Rattle.bus.proofs.Rows.{lengths, import_export, export_import}

pub match_unique : MatchUnique
match_unique w r s x y p q = (p.0 ∙ sym q.0, p.1 ∙ sym q.1)

-- what is written was accepted: it matches, and has room
pub accepted : (m : Bool) (p : ℕ) (row room : List ℕ) → (writes m p row room).answer.refusal ≡ 0 →
    (m ≡ true) × (length row ≤ length room)
unfolding writes
accepted m p row room h = go m (ltb (length room) (length row)) refl h
  where
    go : (m t : Bool) → ltb (length room) (length row) ≡ t →
        (cond (not m) (written (match_answer p no_match) room)
        (cond t (written (match_answer p full) room) (written (match_answer p 0) (row ++ drop (length row) room)))
        ).answer.refusal ≡ 0 → (m ≡ true) × (length row ≤ length room)
    go true true e h = absurd (omega arith)
    go true false e h = (refl, ltb-false (length room) (length row) e)
    go false t e h = absurd (omega arith)

-- what has no match, what matches and has no room, and what has both
pub unmatched : (m : Bool) (p : ℕ) (row room : List ℕ) → m ≡ false →
    writes m p row room ≡ written (record { place = p; refusal = no_match }) room
unfolding writes
unmatched m p row room e = rw e

pub no_room : (m : Bool) (p : ℕ) (row room : List ℕ) → m ≡ true → length room < length row →
    writes m p row room ≡ written (match_answer 0 full) room
unfolding writes
no_room m p row room e h = rw (e, lt-ltb (length room) (length row) h)

pub done : (m : Bool) (p : ℕ) (row room : List ℕ) → m ≡ true → length row ≤ length room →
    writes m p row room ≡ written (match_answer 0 0) (row ++ drop (length row) room)
unfolding writes
done m p row room e h = rw (e, le-ltb (length room) (length row) h)

pub import_then_export : ImportExport
import_then_export bytes lent room h r =
    let a = accepted (have_commands bytes) (byte_without bytes) (imported bytes) lent h in
    let b = import_export bytes a.0 in
    rw (
      done (have_commands bytes) (byte_without bytes) (imported bytes) lent a.0 a.1,
      take_at (imported bytes) (drop (length (imported bytes)) lent) (2 * length bytes) (lengths.of_import bytes),
    )
    (done (are_pairs (imported bytes)) (frame_without (imported bytes)) (exported (imported bytes)) room b.0
    (rw b.1 r) ∙ rw b.1)

pub export_then_import : ExportImport
export_then_import fs lent room h r =
    let a = accepted (are_pairs fs) (frame_without fs) (exported fs) lent h in
    let b = export_import fs a.0 in
    rw (
      done (are_pairs fs) (frame_without fs) (exported fs) lent a.0 a.1,
      take_at (exported fs) (drop (length (exported fs)) lent) (length fs / 2) (lengths.of_export fs),
    )
    (done (have_commands (exported fs)) (byte_without (exported fs)) (imported (exported fs)) room b.0
    (rw b.1 r) ∙ rw b.1)
