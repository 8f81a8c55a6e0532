-- Nothing is done where the loop is not there; no line is left; or the line is what stands before the next newline.
use mathlib.Core.Path.{◌≡◌, refl, sym, ◌∙◌}
use mathlib.Core.Bool.{true}
use native.Mathlib.Omega.{arith}
use lib.ListN.{length, length-take}
use borrow.Author.Rules.{rules}
use borrow.Author.Tests.{not-true, not-false}
use Rattle.lister.specs.Chunks.{ready}
use Rattle.text.proofs.Splices.{nothing}
use Rattle.lister.proofs.Doing.{did, found, step_refused, step_end, step_line}
use Rattle.lister.proofs.list.step.Statement.{statement}
use Rattle.lister.proofs.list.step.Tie as tie

returns-then-not-is_ready : tie.Need-returns-then-not-is_ready
returns-then-not-is_ready c =
    rw (step_refused c.args.input.now c.args.area.now c.args.at c.args.number
    (length c.args.out.now) (sym c.is_ready.ensures ∙
    not-true c.is_ready.result c.if-not-is_ready.true-raw))
    (did (nothing c.args.out.now 0) c.refused.ensures.0 c.refused.ensures.1 refl)

-- all is there
here : (c : tie.Else-not-is_ready) →
    ready c.args.number
    c.args.area.now
    (length c.args.out.now) ≡ true
here c = sym c.is_ready.ensures ∙ not-false c.is_ready.result c.if-not-is_ready.false-raw

returns-then-input-at : tie.Need-returns-then-input-at
returns-then-input-at c =
    rw (step_end c.args.input.now c.args.area.now c.args.at c.args.number
    (length c.args.out.now) (here c.before.before) c.if-input-at.true)
    (did (nothing c.args.out.now 0) c.last.ensures.0 c.last.ensures.1 refl)

line-requires : tie.Need-line-requires
line-requires c κs =
    (here c.before.before.before.before.before, rw length-take (omega (arith, c.if-input-at.false, c.find-end.ensures.1, c.well_formed)))

returns : tie.Need-returns
returns c =
    rw (
      step_line c.args.input.now c.args.area.now c.args.at c.args.number (length c.args.out.now)
          (here c.before.before.before.before.before.before.before.before.before.before) c.if-input-at.false,
      ← found c.args.input.now c.args.at c.find-end.result c.find-end.ensures.0,
    )
    c.line.ensures

pub step_spec : {M : Type 1} → statement M
step_spec =
    tie.close
    (tie.spec
    (λ c κs. search rules)
    (λ c κs. search rules)
    (λ c. search rules)
    (λ c. search rules)
    returns-then-not-is_ready
    (λ c κs. search rules)
    (λ c. search rules)
    (λ c. search rules)
    returns-then-input-at
    (λ c κs. search rules)
    (λ c. search rules)
    (λ c. search rules)
    (λ c. search rules)
    line-requires
    (λ c. search rules)
    (λ c. search rules)
    returns)
