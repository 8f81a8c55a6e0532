-- The tests are the clauses, on bytes 7, 22 and 23, and two zeros pass all of them.
use Rattle.std.proofs.Common.{◌≡◌, refl, Bool, true, false, not, ◌&&◌, ◌||◌, bit_and, eqb, get_or}
use borrow.Author.Tests.{eqb-true}
use Rattle.record.specs.Record.{device_of}
use Rattle.record.proofs.Both.{left, right}
use Rattle.engine_clauses.proofs.poll.Goals as goal

zeros_pass : (h : Bool) → true ≡ (not (not h) || true)
zeros_pass true = refl
zeros_pass false = refl

pub returns-then-bit-status : goal.returns-then-bit-status
unfolding device_of
returns-then-bit-status c =
    let b = c.args.rec.now in
    let x = eqb (get_or b 22 0) 0 in
    let y = eqb (get_or b 23 0) 0 in
    let t : (x && y) ≡ true = c.if-bit-status.true in
    rw (eqb-true (get_or b 22 0) 0 (left x y t), eqb-true (get_or b 23 0) 0 (right x y t))
    (zeros_pass (not (eqb (bit_and (get_or b 7 0) 1) 0)))

pub returns : goal.returns
unfolding device_of
returns c = refl
