-- Each turn writes one more item.
use Rattle.std.proofs.Common.{ap, ◌∙◌, length}
use native.Mathlib.Omega.{arith}
use Rattle.script.proofs.Items.{Next, none_filled, there, next_right, fill, filled}
use Rattle.script.proofs.items_in.Goals as goal

pub loop-group-init : goal.loop-group-init
loop-group-init c =
    let k = c.chunks_exact-group-items.ensures in
    rw (c.into_iter-group-iterator.ensures.into_iter_gives, k.rest)
    (k.size, (c.args.n, none_filled c.args.n c.args.groups.now c.args.items.now c.requires.0 c.requires.2))

pub item_of-requires : goal.item_of-requires
item_of-requires c =
    let a = c.args in
    let l = c.loop-group in
    let s = c.in-Some.ensures.steps in
    let e : Next c.in-Some.group.now _ _ = record { cut = s.1.0; wide = s.1.1 ∙ l.invariant.0 } in
    (e.wide, next_right a.n a.groups.now a.items.now _ _ _ l.at l.items e l.invariant.1.0 l.invariant.1.1)

pub put-at-requires : goal.put-at-requires
put-at-requires c =
    let a = c.args in
    let l = c.loop-group in
    let s = c.in-Some.ensures.steps in
    let e : Next c.in-Some.group.now _ _ = record { cut = s.1.0; wide = s.1.1 ∙ l.invariant.0 } in
    let h = l.invariant.1.1 in
    let k = there a.n a.groups.now a.items.now _ _ _ l.at l.items e l.invariant.1.0 h in
    omega (arith, ap length c.item_of.ensures, h.place, h.size, c.requires.1, k)

pub loop-group-preserved : goal.loop-group-preserved
loop-group-preserved c =
    let a = c.args in
    let l = c.loop-group in
    let s = c.in-Some.ensures.steps in
    let e : Next c.in-Some.group.now _ _ = record { cut = s.1.0; wide = s.1.1 ∙ l.invariant.0 } in (
      s.0 ∙ l.invariant.0,
      fill a.n a.groups.now a.items.now _ _ _ l.at l.items e l.invariant.1.0 _ _ c.requires.1 l.invariant.1.1
          (rw c.item_of.ensures at c.put-at.ensures),
    )

pub returns : goal.returns
returns c =
    let l = c.loop-group in
    filled c.args.n c.args.groups.now c.args.items.now l.invariant.1.0 _ l.at l.items l.invariant.1.1
    (omega (arith, c.in-None.ensures.steps.1.0, l.invariant.0))
