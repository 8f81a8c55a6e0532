-- Each link's hops come off those that are left, and all are few; in the end the tail is left, which owes none.
use Rattle.std.proofs.Common.{◌≡◌, ◌+◌, ◌*◌, ◌-◌, ℕ, arith, drop}
use Rattle.area.specs.Loop.{loop_of}
use Rattle.order.specs.Owed.{owed}
use Rattle.owed.proofs.Links.{Known, known, more, all_but_tail}
use Rattle.owed.proofs.owed_in.Goals.{After-devices_in-devices, After-frames_at-frames}
use Rattle.owed.proofs.owed_in.Goals as goal

area : (c : After-devices_in-devices) → Known c.args.area.now
area c = known c.args.area.now (λ (i : ℕ). (c.type_inv.area i).fits) c.requires

summed : (c : After-frames_at-frames) →
    let qs = (loop_of c.args.area.now).links in
    c.loop-j.hops + c.frames_at-frames.result * (c.devices_in-devices.result - c.loop-j.j)
    + owed (drop (c.loop-j.j + 1) qs) ≡ owed qs
summed c =
    let k = known c.args.area.now (λ (i : ℕ). (c.type_inv.area i).fits) c.requires in
    more c.args.area.now k c.devices_in-devices.result c.devices_in-devices.ensures.0 c.loop-j.j c.loop-j.hops _ c.loop-j-test.true c.loop-j.invariant c.frames_at-frames.ensures

pub overflow_mul-hops : goal.overflow_mul-hops
overflow_mul-hops c =
    let p = goal.at.overflow_mul-hops c in
    omega (arith, summed p.After-frames_at-frames, (area p.After-devices_in-devices).few)

pub overflow_add-hops : goal.overflow_add-hops
overflow_add-hops c =
    let p = goal.at.overflow_add-hops c in
    omega (arith, summed p.After-frames_at-frames, (area p.After-devices_in-devices).few)

pub loop-j-preserved : goal.loop-j-preserved
loop-j-preserved c = summed (goal.at.loop-j-preserved c).After-frames_at-frames

pub overflow_cast-result : goal.overflow_cast-result
overflow_cast-result c =
    omega (arith, c.loop-j.invariant, (area (goal.at.overflow_cast-result c).After-devices_in-devices).few)

pub returns : goal.returns
returns c =
    let n = c.devices_in-devices.result in
    let j : c.loop-j.j ≡ n = omega arith in
    let k = area (goal.at.returns c).After-devices_in-devices in
    omega (arith, rw j at c.loop-j.invariant, all_but_tail c.args.area.now k n c.devices_in-devices.ensures.0)
