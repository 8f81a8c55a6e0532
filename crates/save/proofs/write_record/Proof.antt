-- The head is copied to the front, and the body behind it.
use mathlib.Core.Path.{ap, ◌∙◌}
use lib.ListN.{length}
use Rattle.saved.specs.Saved.{head_size, recorded}
use Rattle.saved.proofs.Record.{head_wide}
use Rattle.saved.proofs.Runs.{headed}
use borrow.Author.Rules.{rules}
use Rattle.save.proofs.write_record.Statement.{statement}
use Rattle.save.proofs.write_record.Tie as tie

returns : tie.Need-returns
unfolding recorded
returns c =
    rw (← c.head_of-head.ensures)
    (headed head_size c.head_of-head.result c.args.body.now c.args.to.now _ _
    (ap length c.head_of-head.ensures ∙ head_wide c.args.kind _) c.requires.0 c.copy.ensures.1
    c.fill.ensures)

pub write_record_spec : {M : Type 1} → statement M
write_record_spec =
    tie.close
    (tie.spec
    (λ c κs. search rules)
    (λ c. search rules)
    (λ c κs. search rules)
    (λ c. search rules)
    (λ c. search rules)
    (λ c. search rules)
    (λ c κs. search rules)
    (λ c. search rules)
    returns)
