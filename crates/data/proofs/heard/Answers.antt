-- Each return follows from the test on its way, and the parts of the frame are those of its decoding.
use mathlib.Core.Path.{◌≡◌, ap, ◌∙◌}
use native.Mathlib.Omega.{arith}
use Rattle.frame.specs.Decoding.{decoded}
use Rattle.frame.specs.declared.Message.{Message}
use Rattle.frame.proofs.Laws.{data_free}
use Rattle.device.specs.Reply.{marked}
use Rattle.device.specs.Data.{end_bit, heard}
use Rattle.device.specs.declared.Device.{Device}
use Rattle.device.proofs.Arms.{arms}
use Rattle.device.proofs.Marked.{asked}
use Rattle.state.specs.State.{with}
use Rattle.data.proofs.heard.Goals as goal
use Rattle.data.proofs.heard.Goals.{After-marked-out}

pub marked-out-requires : goal.marked-out-requires
marked-out-requires c =
    let a = asked c.args.frame (data_free c.args.frame c.requires.past) in
    let e = ap (λ (m : Message). m.c1) c.data_of-came.ensures in
    (omega (arith, c.requires.past), omega (arith, a.c1), omega (arith, a.within))

-- the frame goes out marked
out : (c : After-marked-out) (d : Device) →
    c.marked-out.result ≡ marked (with d c.args.state) (decoded c.args.frame)
out c d =
    let f = c.args.frame in
    c.marked-out.ensures d (decoded f) (asked f (data_free f c.requires.past)).frame
    (ap (λ (m : Message). m.c1) c.data_of-came.ensures)

pub returns-then-state-eq1 : goal.returns-then-state-eq1
unfolding heard
returns-then-state-eq1 c d =
    let e = c.data_of-came.ensures in
    rw (
      ← out (goal.at.returns-then-state-eq1 c).After-marked-out d,
      ← ap (λ (n : Message). n.offset) e,
      ← (c.end_bit.ensures ∙ ap end_bit e),
    ) (search arms)

pub returns : goal.returns
unfolding heard
returns c d = rw (← out (goal.at.returns c).After-marked-out d) (search (arms, c.sends.ensures))
