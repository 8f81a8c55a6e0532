-- The area is as long as its number of devices says, so link j is in it.
use native.Mathlib.Omega.{arith}
use Rattle.area.proofs.Areas.{sized}
use borrow.Author.Rules.{rules}
use Rattle.area.proofs.lookup.link_start.Statement.{statement}
use Rattle.area.proofs.lookup.link_start.Tie as tie

returns : tie.Need-returns
returns c = omega (arith, sized c.args.area.now c.requires.judged, c.requires.there)

pub link_start_spec : {M : Type 1} → statement M
link_start_spec =
    tie.close
    (tie.spec
    (λ c κs. search rules)
    (λ c. search rules)
    (λ c. search rules)
    (λ c. search rules)
    (λ c. search rules)
    returns)
