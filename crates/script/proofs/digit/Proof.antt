-- The character's range decides the digit.
use native.Mathlib.Omega.{arith}
use borrow.Author.Tests.{leb-true}
use Rattle.record.proofs.Both.{left}
use Rattle.text.specs.Digits.{digit_of}
use Rattle.script.proofs.digit.Statement.{statement}
use Rattle.script.proofs.digit.Tie as tie

sub_result : tie.Need-overflow_sub-result
sub_result c = omega (arith, leb-true 48 c.args.b (left _ _ c.if-b.true))

returns-then-b : tie.Need-returns-then-b
unfolding digit_of
returns-then-b c = rw c.if-b.true

sub_result_2 : tie.Need-overflow_sub-result-then-b-2
sub_result_2 c = omega (arith, leb-true 97 c.args.b (left _ _ c.if-b-2.true))

returns-then-b-2 : tie.Need-returns-then-b-2
unfolding digit_of
returns-then-b-2 c = rw (c.if-b.false, c.if-b-2.true)

returns : tie.Need-returns
unfolding digit_of
returns c = rw (c.if-b.false, c.if-b-2.false)

pub digit_spec : {M : Type 1} → statement M
digit_spec = tie.close (tie.spec sub_result returns-then-b sub_result_2 returns-then-b-2 returns)
