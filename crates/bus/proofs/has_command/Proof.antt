-- `bus::has_command` meets its contract: its tests were computed against the rows at every byte.
use borrow.Author.Rules.{rules}
use Rattle.bus.proofs.Codes.{below_addresses, among_addresses}
use Rattle.bus.proofs.has_command.Statement.{statement}
use Rattle.bus.proofs.has_command.Tie as tie

returns-then-b-lt32 : tie.Need-returns-then-b-lt32
returns-then-b-lt32 c = below_addresses c.args.b c.if-b-lt32.true

returns : tie.Need-returns
returns c = among_addresses c.args.b c.if-b-lt32.false c.ranges.b.fits

pub has_command_spec : {M : Type 1} → statement M
has_command_spec = tie.close (tie.spec (λ c. search rules) returns-then-b-lt32 returns)
