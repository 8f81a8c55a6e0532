-- Both stretches are zero past their length, which is 0 where it was tested to be.
use Rattle.std.proofs.Common.{◌≡◌, ◌∙◌, true, ◌&&◌, eqb, get_or}
use borrow.Author.Tests.{eqb-true}
use Rattle.record.specs.Record.{device_of}
use Rattle.record.proofs.Both.{left, right}
use Rattle.engine_zeros.proofs.Stretch.{joined}
use Rattle.engine_sound.proofs.zeros_behind.Goals as goal

pub returns-then-id-data : goal.returns-then-id-data
unfolding device_of
returns-then-id-data c =
    let b = c.args.rec.now in
    let t : (eqb (get_or b 11 0) 0 && eqb (get_or b 12 0) 0) ≡ true = c.if-id-data.true in
    let x = eqb (get_or b 11 0) 0 in
    let y = eqb (get_or b 12 0) 0 in
    rw (eqb-true (get_or b 11 0) 0 (left x y t), eqb-true (get_or b 12 0) 0 (right x y t))
    (c.zero_past.ensures ∙ joined b 24 8 32)

pub returns : goal.returns
unfolding device_of
returns c = rw (c.zero_past-2.ensures, c.zero_past-3.ensures)
