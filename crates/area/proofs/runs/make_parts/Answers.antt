-- Each turn makes one more part.
use Rattle.std.proofs.Common.{rules, ◌≡◌, ◌*◌, ◌≤◌, ◌∙◌, length}
use native.Mathlib.Omega.{arith}
use native.Mathlib.Nat.{mul-suc, mul-le-mul_left, add-sub_cancel_left}
use Rattle.area.proofs.Made.{none_made, next_made, all_made}
use Rattle.area.proofs.runs.make_parts.Goals as goal

pub loop-i-init : goal.loop-i-init
loop-i-init g c = λ f tells. none_made f c.args.width c.args.made c.args.n c.args.from.now c.args.to.now

pub loop-i-preserved : goal.loop-i-preserved
loop-i-preserved g c = λ f tells.
    let a = c.args in
    let l = c.loop-i in
    let room : a.made * l.i ≤ length l.to =
    omega (arith, mul-le-mul_left a.made c.loop-i-test.true, mul-suc a.made l.i, c.requires.room, l.auto.to) in
    next_made f a.width a.made a.n a.from.now l.i _ l.to c.make.new.arg3 c.loop-i-test.true room (search rules)
    (rw add-sub_cancel_left at (tells _ _ _ (search rules) (search rules) c.make.ensures)) (l.invariant f tells)

pub returns : goal.returns
returns g c = λ f tells.
    let a = c.args in
    let l = c.loop-i in
    let i : l.i ≡ a.n = omega (arith, l.auto) in
    all_made f a.width a.made a.n a.from.now l.to (l.auto.to ∙ c.requires.room) (rw i at (l.invariant f tells))
