-- `poll_count::counted` meets its contract: a byte has eight bits, so that both counts are those over its places.
use Prim.Native.Nat.{ℕ, ◌≤◌, ◌<◌}
use native.Mathlib.Omega.{arith}
use lib.Count.{ones, count_leading_zeros, count_trailing_zeros, ones-le, leading_le, trailing_le}
use Rattle.poll_count.proofs.Count.{ones_are, lowest_is}
use Rattle.poll_count.proofs.counted.Statement.{statement}
use Rattle.poll_count.proofs.counted.Tie as tie

-- no count of a byte's bits is more than 8
record Few (x : ℕ) : Type 0 where
  set : ones x ≤ 8
  above : count_leading_zeros 8 x ≤ 8
  below : count_trailing_zeros 8 x ≤ 8

few : (x : ℕ) → x < 256 → Few x
few x h = record { set = ones-le 8 x h; above = leading_le 8 x; below = trailing_le 8 x }

returns : tie.Need-returns
returns c =
    let x = c.args.bits in rw (ones_are 8 x c.ranges.bits.fits, lowest_is 8 x)

pub counted_spec : {M : Type 1} → statement M
counted_spec =
    tie.close
    (tie.spec
    (λ c. record { fits = omega (arith, few c.args.bits c.ranges.bits.fits) })
    (λ c. record { fits = omega (arith, few c.args.bits c.ranges.bits.fits) })
    returns)
