-- A save too short for a count has none; else the tests of its count and of its length, then the heads and the edition.
use mathlib.Core.Path.{refl, sym, ◌∙◌}
use native.Mathlib.Omega.{arith}
use borrow.Author.Tests.{not-true, not-false}
use Rattle.area.specs.Sizes.{most_devices}
use Rattle.saved.proofs.Tests.{form_short, form_count, form_long, form_heads}
use borrow.Author.Rules.{rules}
use Rattle.form.proofs.form_right.Statement.{statement}
use Rattle.form.proofs.form_right.Tie as tie

returns-then-len-le-HEAD_SIZE : tie.Need-returns-then-len-le-HEAD_SIZE
returns-then-len-le-HEAD_SIZE c = form_short most_devices _ (omega arith)

cast_n : tie.Need-overflow_cast-n
cast_n c = omega (arith, c.shared_slice_known-2-1.given 6)

returns-then-not-is_count : tie.Need-returns-then-not-is_count
returns-then-not-is_count c =
    form_count most_devices _ (sym c.is_count.ensures ∙ not-true c.is_count.result c.if-not-is_count.true-raw)

saved_size-end-requires : tie.Need-saved_size-end-requires
saved_size-end-requires c κs = omega (arith, c.shared_slice_known-2-1.given 6)

returns-then-len-end : tie.Need-returns-then-len-end
returns-then-len-end c = form_long most_devices _ (λ e. omega (arith, e, c.if-len-end.true, c.saved_size-end.ensures))

heads_right-requires : tie.Need-heads_right-requires
heads_right-requires c κs =
    record {
      count = refl;
      small = omega (arith, c.shared_slice_known-2-1.given 6);
      long = omega arith;
    }

returns : tie.Need-returns
returns c =
    rw c.heads_right.ensures
    (form_heads most_devices _ (sym c.is_count.ensures ∙ not-false c.is_count.result c.if-not-is_count.false-raw)
    (omega arith))

pub form_right_spec : {M : Type 1} → statement M
form_right_spec =
    tie.close
    (tie.spec
    returns-then-len-le-HEAD_SIZE
    (λ c. search rules)
    cast_n
    (λ c κs. search rules)
    returns-then-not-is_count
    saved_size-end-requires
    returns-then-len-end
    heads_right-requires
    (λ c. search rules)
    returns)
