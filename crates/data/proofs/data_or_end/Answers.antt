-- Each return follows from the test on its way.
use Rattle.device.specs.Data.{data_or_end}
use Rattle.device.proofs.Arms.{arms}
use Rattle.device.proofs.Classes.{data_frame_lem}
use Rattle.data.proofs.data_or_end.Goals as goal

pub returns-then-state-gt-ADDRESSED : goal.returns-then-state-gt-ADDRESSED
unfolding data_or_end
returns-then-state-gt-ADDRESSED c =
    rw (data_frame_lem _ c.args.frame c.requires.0.past) (search arms)

pub returns : goal.returns
unfolding data_or_end
returns c =
    rw (data_frame_lem _ c.args.frame c.requires.0.past) (search (arms, c.heard.ensures))
