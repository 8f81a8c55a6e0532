-- What was read is what was lent, and a copy of as many bytes leaves none of the old ones.
use mathlib.Core.Path.{◌≡◌, sym, ap, ◌∙◌}
use native.Mathlib.Omega.{arith}
use lib.ListN.{length, take}
use borrow.Author.Rules.{rules}
use Rattle.saved.proofs.Runs.{copied, read_back, read_long}
use Rattle.saved.proofs.fill.Statement.{statement}
use Rattle.saved.proofs.fill.Tie as tie

copy-n-requires : tie.Need-copy-n-requires
copy-n-requires c κs = c.requires.1

was_read : (c : tie.After-copy-n) →
    take c.copy-n.result c.copy-n.new.to ≡ c.args.from.now
was_read c =
    read_back _ c.args.from.now _ _ c.copy-n.ensures.0 c.copy-n.ensures.1

slice_bounds-read-end : tie.Need-slice_bounds-read-end
slice_bounds-read-end c = read_long _ c.args.from.now _ _ c.copy-n.ensures.0 c.copy-n.ensures.1

slice_bounds-copy-end-2 : tie.Need-slice_bounds-copy-end-2
slice_bounds-copy-end-2 c = c.copy-n.ensures.0 ∙ ap length (sym (was_read c.before.before))

copy-requires : tie.Need-copy-requires
copy-requires c κs =
    rw (was_read c.before.before.before) (omega (arith, c.requires.0))

returns : tie.Need-returns
returns c =
    c.copy.ensures.1 ∙ rw (was_read c.before.before.before.before.before.before) (copied c.args.from.now c.args.to.now c.requires.0)

pub fill_spec : {M : Type 1} → statement M
fill_spec =
    tie.close
    (tie.spec
    (λ c. search rules)
    copy-n-requires
    slice_bounds-read-end
    slice_bounds-copy-end-2
    copy-requires
    (λ c. search rules)
    returns)
