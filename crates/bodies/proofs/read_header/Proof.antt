-- The body, and then the area's own byte.
use borrow.Author.Rules.{rules}
use Rattle.bodies.proofs.read_header.Statement.{statement}
use Rattle.bodies.proofs.read_header.Tie as tie

returns : tie.Need-returns
returns c = rw c.fill.ensures

pub read_header_spec : {M : Type 1} → statement M
read_header_spec =
    tie.close
    (tie.spec
    (λ c κs. search rules)
    (λ c. search rules)
    (λ c. search rules)
    returns)
