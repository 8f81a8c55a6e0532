-- The bits of an or, of a power of two and of zero, place by place.
use Prim.Native.Nat.{ℕ, zero, suc, ◌+◌, ◌*◌, ◌/◌, ◌%◌, ◌^◌, ◌≤◌, ◌<◌, max}
use native.Mathlib.Nat.{pow-suc, max-le}
use native.Mathlib.Omega.{arith}
use mathlib.Core.Path.{◌≡◌, refl, ap, ◌∙◌}
use mathlib.Core.Bool.{cond}
use lib.Dec.{eqb, eqb-zero-suc, eqb-suc-zero, eqb-suc-suc}
use lib.Bits.{bit_or, or_step}
use Rattle.frame.specs.Bits.{bit}

pub bit_below : (i x : ℕ) → bit i x ≤ 1
bit_below zero x = omega arith
bit_below (suc i) x = bit_below i (x / 2)

pub bit_zero : (i : ℕ) → bit i 0 ≡ 0
bit_zero zero = refl
bit_zero (suc i) = bit_zero i

-- an or's lowest digit, and the rest of them
or_digits : (x y : ℕ) → (bit_or x y % 2 ≡ max (x % 2) (y % 2)) × (bit_or x y / 2 ≡ bit_or (x / 2) (y / 2))
or_digits x y =
    let s = or_step x y in
    let m : max (x % 2) (y % 2) ≤ 1 = max-le (omega arith) (omega arith) in
    (omega arith, omega arith)

pub bit_or_lem : (i x y : ℕ) → bit i (bit_or x y) ≡ max (bit i x) (bit i y)
bit_or_lem zero x y = (or_digits x y).0
bit_or_lem (suc i) x y = ap (λ (z : ℕ). bit i z) (or_digits x y).1 ∙ bit_or_lem i (x / 2) (y / 2)

pub bit_power : (i j : ℕ) → bit i (2 ^ j) ≡ cond (eqb j i) 1 0
bit_power zero zero = refl
bit_power zero (suc j) = let p = pow-suc 2 j in rw (eqb-suc-zero j) (omega arith)
bit_power (suc i) zero = rw (eqb-zero-suc i) (bit_zero i)
bit_power (suc i) (suc j) =
    let p = pow-suc 2 j in
    let h : 2 ^ suc j / 2 ≡ 2 ^ j = omega arith in
    rw (eqb-suc-suc j i) (ap (λ (z : ℕ). bit i z) h ∙ bit_power i j)
