-- The processor's counts of a byte's bits, which go by halves, are those over the bits' places.
use Prim.Native.Nat.{ℕ, zero, suc, ◌+◌, ◌/◌, ◌%◌, ◌^◌, ◌<◌}
use native.Mathlib.Nat.{pow-suc}
use native.Mathlib.Omega.{arith}
use mathlib.Core.Path.{◌≡◌, refl, sym, ap, ◌∙◌}
use mathlib.Core.Bool.{Bool, true, false, cond}
use lib.Count.{ones, ones_in as digitsIn, ones_step, under, count_trailing_zeros}
use lib.Dec.{eqb}
use Rattle.frame.specs.Bits.{bit}
use Rattle.poll_count.specs.Count.{ones_in, lowest_from}

-- the lowest bit, and the others of the half
ones_first : (n x : ℕ) → ones_in (suc n) x ≡ x % 2 + ones_in n (x / 2)
ones_first zero x = omega arith
ones_first (suc n) x = let h = ones_first n x in omega arith

pub ones_are : (n x : ℕ) → x < 2 ^ n → ones x ≡ ones_in n x
unfolding ones digitsIn
ones_are zero x h = let z : x ≡ 0 = omega arith in rw z
ones_are (suc n) x h =
    let p = pow-suc 2 n in
    ones_step x ∙ ap (λ (y : ℕ). x % 2 + y) (ones_are n (x / 2) (omega arith)) ∙ sym (ones_first n x)

-- a place further up is one further up in the half
lowest_next : (i n x : ℕ) → lowest_from (suc i) n x ≡ suc (lowest_from i n (x / 2))
lowest_next i zero x = refl
lowest_next i (suc n) x = rw (lowest_next (suc i) n x) (go (eqb (bit i (x / 2)) 1))
  where
    go : (b : Bool) → cond b (suc i) (suc (lowest_from (suc i) n (x / 2))) ≡
        suc (cond b i (lowest_from (suc i) n (x / 2)))
    go true = refl
    go false = refl

pub lowest_is : (n x : ℕ) → count_trailing_zeros n x ≡ lowest_from 0 n x
unfolding count_trailing_zeros
lowest_is zero x = refl
lowest_is (suc n) x =
    rw (lowest_is n (x / 2), lowest_next 0 n x) (go (x % 2) (omega arith))
  where
    go : (b : ℕ) → b < 2 → under b (lowest_from 0 n (x / 2)) ≡ cond (eqb b 1) 0 (suc (lowest_from 0 n (x / 2)))
    go zero h = refl
    go (suc zero) h = refl
    go (suc (suc b)) h = absurd (omega arith)
