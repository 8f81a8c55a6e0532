-- A line is written where a byte was handed, and nothing otherwise.
use borrow.Author.Rules.{rules}
use borrow.Author.Tests.{eq-eqb, ne_eqb}
use Rattle.text.proofs.Splices.{nothing}
use Rattle.round.proofs.hand.Statement.{statement}
use Rattle.round.proofs.hand.Tie as tie

returns-then-hop-eq1 : tie.Need-returns-then-hop-eq1
returns-then-hop-eq1 c =
    rw (eq-eqb c.args.hop.handed 1 c.if-hop-eq1.true) c.hand_line.ensures

returns : tie.Need-returns
returns c =
    rw (ne_eqb c.args.hop.handed 1 c.if-hop-eq1.false) (nothing c.args.out.now c.args.at)

pub hand_spec : {M : Type 1} → statement M
hand_spec = tie.close (tie.spec (λ c κs. search rules) (λ c. search rules) returns-then-hop-eq1 returns)
