-- One mask for the four abilities of a talker: by one computed test over all bytes.
use Prim.Native.Nat.{ℕ, ◌<◌}
use mathlib.Core.Path.{◌≡◌, refl}
use mathlib.Core.Bool.{Bool, true, false, not, cond, ◌||◌}
use lib.Bits.{bit_and}
use lib.Dec.{eqb}
use Rattle.frame.proofs.Table.{same}

-- a test as a number, so that tests are compared as a table's values are
abbrev number : Bool → ℕ
number b = cond b 1 0

numbered : (a b : Bool) → number a ≡ number b → a ≡ b
numbered true true e = refl
numbered true false e = let z : ◌≡◌ {A = ℕ} 1 0 = e in cc
numbered false true e = let z : ◌≡◌ {A = ℕ} 0 1 = e in cc
numbered false false e = refl

abbrev any : (mask : ℕ) → ℕ → Bool
any mask x = not (eqb (bit_and x mask) 0)

pub any_of_four : (x : ℕ) → x < 256 → any 30 x ≡ (any 2 x || (any 4 x || (any 8 x || any 16 x)))
any_of_four x h =
    let four : ℕ → Bool = λ y. any 2 y || (any 4 y || (any 8 y || any 16 y)) in
    numbered _ _ (same (λ y. number (any 30 y)) (λ y. number (four y)) 256 x refl h)
