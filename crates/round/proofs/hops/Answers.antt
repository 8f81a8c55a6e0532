-- A turn is a device's hop and its line, and behind the last device nothing is left to do.
use Rattle.std.proofs.Common.{◌<◌, ℕ, get_or, rules}
use Rattle.round.proofs.Held.{Area, area_held, judged, devices, counted}
use Rattle.round.proofs.Hopping as laws
use Rattle.round.proofs.hops.Goals.{After-devices_in-n}
use Rattle.round.proofs.hops.Goals as goal

-- the lent area is a sound loop's
area : (c : After-devices_in-n) → Area c.devices_in-n.result c.args.area.now
area c =
    let bytes : (i : ℕ) → get_or c.args.area.now i 0 < 256 = λ (i : ℕ). search rules in
    rw c.devices_in-n.ensures.0 (area_held c.args.area.now bytes c.requires.0)

pub loop-i-init : goal.loop-i-init
loop-i-init c =
    laws.starts c.devices_in-n.result c.args.area.now c.args.out.now (area (goal.at.loop-i-init c).After-devices_in-n)

pub hop_at-hop-requires : goal.hop_at-hop-requires
hop_at-hop-requires c =
    let h = c.loop-i.invariant.held in record { judged = judged h; there = rw (devices h) c.loop-i-test.true }

pub loop-i-preserved : goal.loop-i-preserved
loop-i-preserved c =
    let x = c.loop-i in
    laws.hops c.devices_in-n.result c.args.area.now c.args.out.now x.i x.area x.at x.out
    c.hop_at-hop.result c.hop_at-hop.new.area c.hand-at.result c.hand-at.new.out c.requires.1 x.invariant
    c.loop-i-test.true c.hop_at-hop.ensures c.hand-at.ensures

pub returns : goal.returns
returns c =
    let x = c.loop-i in
    laws.ends c.devices_in-n.result c.args.area.now c.args.out.now x.i x.area x.at x.out
    c.requires.1 (counted (area (goal.at.returns c).After-devices_in-n)) x.invariant c.loop-i-test.false
