-- Where there is data the choice is set, and else nothing.
use lib.ListN.{get_or}
use borrow.Author.Rules.{rules}
use borrow.Author.Tests.{lt-ltb, le-ltb}
use Rattle.device.specs.Change.{loadlength}
use Rattle.older.proofs.ask_one.Statement.{statement}
use Rattle.older.proofs.ask_one.Tie as tie

returns-then-rec-gt0 : tie.Need-returns-then-rec-gt0
returns-then-rec-gt0 c = let b = c.args.rec.now in rw (lt-ltb 0 (get_or b loadlength 0) c.if-rec-gt0.true)

returns-else-rec-gt0 : tie.Need-returns-else-rec-gt0
returns-else-rec-gt0 c = let b = c.args.rec.now in rw (le-ltb 0 (get_or b loadlength 0) c.if-rec-gt0.false)

pub ask_one_spec : {M : Type 1} → statement M
ask_one_spec =
    tie.close
    (tie.spec
    (λ c. search rules)
    (λ c. search rules)
    (λ c. search rules)
    returns-then-rec-gt0
    returns-else-rec-gt0)
