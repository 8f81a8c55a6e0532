-- By the ability, what the clause comes to.
use Rattle.std.proofs.Common.{sym, ◌∙◌}
use Rattle.record.specs.Record.{device_of}
use Rattle.sound.proofs.Polls.{unable_right, able_right}
use Rattle.sound.proofs.poll_right.Goals as goal

pub returns-then-has_further : goal.returns-then-has_further
unfolding device_of
returns-then-has_further c = able_right (device_of c.args.rec.now) (sym c.has_further.ensures ∙ c.if-has_further.true)

pub returns : goal.returns
unfolding device_of
returns c = unable_right (device_of c.args.rec.now) (sym c.has_further.ensures ∙ c.if-has_further.false)
