-- A number below ten is one digit; any other is its tenth, written by the same function, and one digit behind it.
use Rattle.std.proofs.Common.{ap, arith, length, length-append}
use Rattle.text.proofs.Splices.{next}
use Rattle.text.proofs.Numbers.{one_digit, one_more}
use Rattle.text.proofs.+decimal.Goals as goal

pub put-requires : goal.put-requires
put-requires t c = omega (arith, c.requires, ap length (one_digit c.args.n c.if-n-lt10.true))

pub returns-then-n-lt10 : goal.returns-then-n-lt10
returns-then-n-lt10 t c = rw (one_digit c.args.n c.if-n-lt10.true) c.put.ensures

pub decimal-next-requires : goal.decimal-next-requires
decimal-next-requires t c =
    let more = simp length-append at (ap length (one_more c.args.n c.if-n-lt10.false)) in
    (omega (arith, c.if-n-lt10.false, c.decreases), omega (arith, c.requires))

pub put-requires-2 : goal.put-requires-2
put-requires-2 t c =
    let more = simp length-append at (ap length (one_more c.args.n c.if-n-lt10.false)) in
    omega (arith, c.requires, c.decimal-next.ensures.behind, c.decimal-next.auto.out)

pub returns : goal.returns
returns t c =
    rw (one_more c.args.n c.if-n-lt10.false)
    (next (omega (arith, c.requires)) c.decimal-next.ensures c.put-2.ensures)
