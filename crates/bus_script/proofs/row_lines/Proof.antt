-- With the room there is, an import ends with 11 and the place, or with the row's frames, whose lines are written.
use Prim.Native.Nat.{◌*◌}
use mathlib.Core.Path.{sym}
use native.Mathlib.Omega.{arith}
use lib.ListN.{length, drop, length-take}
use lib.Seq.{length-take-le, take_at}
use borrow.Author.Rules.{rules}
use Rattle.bus.specs.Rows.{imported}
use Rattle.bus.proofs.Rows.{lengths}
use Rattle.bus_script.specs.Listing.{row_listed}
use Rattle.bus_script.proofs.Written.{with_11, without_11, place_within}
use Rattle.bus_script.proofs.row_lines.Statement.{statement}
use Rattle.bus_script.proofs.row_lines.Tie as tie

bad_line-requires : tie.Need-bad_line-requires
bad_line-requires c κs =
    let b = with_11 c.args.row.now c.args.frames.now c.requires.1 c.import-found.ensures c.if-found-eq-NO_MATCH.true in
    (omega (arith, b.1, place_within c.args.row.now b.0, c.requires.0), omega (arith, c.requires.2))

returns-then-found-eq-NO_MATCH : tie.Need-returns-then-found-eq-NO_MATCH
unfolding row_listed
returns-then-found-eq-NO_MATCH c =
    let b = with_11 c.args.row.now c.args.frames.now c.requires.1 c.import-found.ensures c.if-found-eq-NO_MATCH.true in
    rw (b.0, ← b.1) c.bad_line.ensures

slice_bounds-lines-end-2 : tie.Need-slice_bounds-lines-end-2
slice_bounds-lines-end-2 c = sym (length-take-le _ _ (search rules))

lines-requires : tie.Need-lines-requires
lines-requires c κs =
    rw length-take (omega (arith, c.requires.0, c.requires.2))

returns : tie.Need-returns
unfolding row_listed
returns c =
    let row = c.args.row.now in
    let g = without_11 row c.args.frames.now c.requires.1 c.import-found.ensures c.if-found-eq-NO_MATCH.false in
    let t = take_at (imported row) (drop (length (imported row)) c.args.frames.now) (2 * length row)
    (lengths.of_import row) in
    rw g.0 (rw (g.1, t) at c.lines.ensures)

pub row_lines_spec : {M : Type 1} → statement M
row_lines_spec =
    tie.close
    (tie.spec
    (λ c κs. search rules)
    bad_line-requires
    (λ c. search rules)
    (λ c. search rules)
    returns-then-found-eq-NO_MATCH
    (λ c. search rules)
    (λ c. search rules)
    slice_bounds-lines-end-2
    lines-requires
    (λ c. search rules)
    (λ c. search rules)
    returns)
