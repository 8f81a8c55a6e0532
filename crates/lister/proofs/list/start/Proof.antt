-- Without the room nothing is done; an input that is too long is said to be; else line 1 is what stands before the
-- newline.
use mathlib.Core.Path.{◌≡◌, refl, sym, ◌∙◌}
use mathlib.Core.Bool.{true}
use native.Mathlib.Nat.{sub-zero}
use native.Mathlib.Omega.{arith}
use lib.ListN.{length}
use lib.Seq.{length-take-le}
use borrow.Author.Rules.{rules}
use borrow.Author.Tests.{not-true, not-false}
use Rattle.lister.specs.Chunks.{roomy}
use Rattle.text.proofs.Splices.{nothing}
use Rattle.lister.proofs.Doing.{did, Lent, lent, found, start_refused, start_long, start_first}
use Rattle.lister.proofs.list.start.Statement.{statement}
use Rattle.lister.proofs.list.start.Tie as tie

returns-then-not-is_roomy : tie.Need-returns-then-not-is_roomy
returns-then-not-is_roomy c =
    rw (start_refused c.args.input.now c.args.area.now (length c.args.out.now)
    (sym c.is_roomy.ensures ∙ not-true c.is_roomy.result c.if-not-is_roomy.true-raw))
    (did (nothing c.args.out.now 0) c.refused.ensures.0 c.refused.ensures.1 refl)

-- the room is there
room : (c : tie.Else-not-is_roomy) →
    roomy c.args.area.now
    (length c.args.out.now) ≡ true
room c = sym c.is_roomy.ensures ∙ not-false c.is_roomy.result c.if-not-is_roomy.false-raw

given : (c : tie.Else-not-is_roomy) →
    Lent c.args.area.now
    (length c.args.out.now)
given c = lent _ _ (room c)

put-requires : tie.Need-put-requires
put-requires c κs = omega (arith, (given c.before.before.before.before).buffer)

returns-then-input-gt-LONGEST : tie.Need-returns-then-input-gt-LONGEST
returns-then-input-gt-LONGEST c =
    rw (start_long c.args.input.now c.args.area.now (length c.args.out.now) (room c.before.before.before.before.before.before.before.before) c.if-input-gt-LONGEST.true)
    (did c.put.ensures c.last.ensures.0 c.last.ensures.1 refl)

slice_bounds-first-end : tie.Need-slice_bounds-first-end
slice_bounds-first-end c = sym (length-take-le _ _ c.find-end.ensures.1)

first-requires : tie.Need-first-requires
first-requires c κs = let g = given c.before.before.before.before in
    (omega (arith, g.area), omega (arith, g.buffer))

returns : tie.Need-returns
returns c =
    rw (
      start_first c.args.input.now c.args.area.now (length c.args.out.now) (room c.before.before.before.before.before.before.before.before.before)
          c.if-input-gt-LONGEST.false,
      ← found c.args.input.now 0 c.find-end.result c.find-end.ensures.0,
      sub-zero c.find-end.result,
    )
    c.first.ensures

pub start_spec : {M : Type 1} → statement M
start_spec =
    tie.close
    (tie.spec
    (λ c κs. search rules)
    (λ c κs. search rules)
    (λ c. search rules)
    (λ c. search rules)
    returns-then-not-is_roomy
    put-requires
    (λ c κs. search rules)
    (λ c. search rules)
    (λ c. search rules)
    returns-then-input-gt-LONGEST
    (λ c κs. search rules)
    slice_bounds-first-end
    first-requires
    (λ c. search rules)
    (λ c. search rules)
    returns)
