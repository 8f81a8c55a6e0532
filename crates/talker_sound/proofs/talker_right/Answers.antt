-- The clauses that go by the state are tested after the others.
use Rattle.record.proofs.Both.{chain}
use Rattle.talker_sound.proofs.Parted.{talker_parted}
use Rattle.talker_sound.proofs.talker_right.Goals as goal

pub returns : goal.returns
returns c = rw talker_parted (search chain)
