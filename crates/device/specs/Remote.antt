-- Remote and local (02, d; 001, 2.17): how each message, and the panel key, moves a device between the four states.
use Rattle.std.specs.Prelude.{ℕ, eqb}
use Rattle.device.specs.Choose.{choose}
use Rattle.device.specs.Device.{LOCS, REMS, LWLS, RWLS}
use Rattle.device.specs.Change.{remoting, enabling}
use Rattle.device.specs.declared.Device.{Device}

-- REN: the flag is set
abbrev pub ren : Device → Device
ren d = enabling d 1

-- NRE: the flag is clear, and the state LOCS
abbrev pub nre : Device → Device
nre d = enabling (remoting d LOCS) 0

-- state a becomes b, and c becomes e; any other stays
unfoldable pub moves : (state a b c e : ℕ) → ℕ
moves state a b c e = choose (eqb state a) b (choose (eqb state c) e state)

abbrev pub moved : Device → (a b c e : ℕ) → Device
moved d a b c e = remoting d (moves d.remote a b c e)

-- what own LAD does while enabled, besides `lad`, which asks for the rest: local to remote, locked or not
unfoldable pub to_remote : Device → Device
to_remote d = choose (eqb d.enabled 1) (moved d LOCS REMS LWLS RWLS) d

-- LLO, while enabled: local and remote become locked
unfoldable pub llo : Device → Device
llo d = choose (eqb d.enabled 1) (moved d LOCS LWLS REMS RWLS) d

-- GTL, at an addressed listener: remote to local, the lock as it was
unfoldable pub gtl : Device → Device
gtl d = choose (eqb d.listener 1) (moved d REMS LOCS RWLS LWLS) d

-- the panel key: unlocked remote to local, and nothing from any other state
unfoldable pub key : Device → Device
key d = choose (eqb d.remote REMS) (remoting d LOCS) d
