-- A turn is a device's step of the walk, and past the last one the walk is done.
use Rattle.std.proofs.Common.{ℕ, ◌+◌, ◌*◌, refl, arith}
use Rattle.engine.proofs.Strip.{lent_wide}
use Rattle.engine.proofs.Walking.{starts, steps, ends, good}
use Rattle.engine.proofs.past_all.Goals as goal

pub loop-i-init : goal.loop-i-init
loop-i-init c =
    let a = c.args in
    let bytes = λ (i : ℕ). (c.type_inv.records i).fits in
    record {
      count = refl;
      good = good a.records.now a.told.now bytes c.requires.0 c.requires.1;
      read = c.read-message.ensures;
      walking = starts a.records.now a.told.now a.frame bytes c.requires.0 c.requires.1;
    }

pub take_here-passed-requires : goal.take_here-passed-requires
take_here-passed-requires c =
    let x = c.loop-i in (
      lent_wide x.records (8 + 64 * x.i) 64 (omega (arith, c.loop-i-test.true, x.invariant.walking.long)),
      x.invariant.read,
    )

pub loop-i-preserved : goal.loop-i-preserved
loop-i-preserved c =
    let a = c.args in
    let x = c.loop-i in
    let p = c.take_here-passed in
    record {
      count = x.invariant.count;
      good = x.invariant.good;
      read = c.read_again-message.ensures;
      walking = steps a.records.now a.told.now a.frame x.i x.records x.told x.out x.invariant.walking c.loop-i-test.true
          x.invariant.good p.new.part c.tell.new.told p.result p.ensures.fact p.ensures.result_after c.tell.ensures;
    }

pub returns : goal.returns
returns c =
    let x = c.loop-i in
    ends c.args.records.now c.args.told.now c.args.frame x.i x.records x.told x.out x.invariant.walking
    c.loop-i-test.false
