-- Decimal digits one at a time: a number below ten is one digit, any other its tenth's digits and one more.
use Prim.Native.Nat.{ℕ, zero, suc, ◌+◌, ◌/◌, ◌%◌, ◌≤◌, ◌<◌}
use mathlib.Core.Path.{◌≡◌, refl}
use mathlib.Core.List.{[], ◌∷◌, ◌++◌}
use mathlib.Core.Bool.{Bool, true, false, cond}
use native.Mathlib.Omega.{arith}
use lib.Dec.{ltb}
use lib.ListN.{length, length-append}
use borrow.Author.Tests.{ltb-true, ltb-false, lt-ltb, le-ltb}
use Rattle.text.specs.Digits.{decimal_by, decimal}

-- how many digits are allowed does not matter, where they are enough
enough : (k m v : ℕ) → v < k → v < m → decimal_by k v ≡ decimal_by m v
unfolding decimal_by
enough zero m v p q = absurd (omega arith)
enough (suc k) zero v p q = absurd (omega arith)
enough (suc k) (suc m) v p q = go (λ r s. enough k m (v / 10) r s) (ltb v 10) refl
  where
    go : (v / 10 < k → v / 10 < m → decimal_by k (v / 10) ≡ decimal_by m (v / 10)) → (t : Bool) → ltb v 10 ≡ t →
        cond t ((48 + v) ∷ []) (decimal_by k (v / 10) ++ ((48 + v % 10) ∷ []))
        ≡ cond t ((48 + v) ∷ []) (decimal_by m (v / 10) ++ ((48 + v % 10) ∷ []))
    go tenth true e = refl
    go tenth false e = let ten = ltb-false v 10 e in rw (tenth (omega arith) (omega arith))

pub one_digit : (v : ℕ) → v < 10 → decimal v ≡ (48 + v) ∷ []
unfolding decimal decimal_by
one_digit v h = rw (lt-ltb v 10 h)

pub one_more : (v : ℕ) → 10 ≤ v → decimal v ≡ decimal (v / 10) ++ ((48 + v % 10) ∷ [])
unfolding decimal decimal_by
one_more v h = rw (le-ltb v 10 h, enough v (suc (v / 10)) (v / 10) (omega arith) (omega arith))

-- a number has at most one digit more than its tenth
pub longer : (k v : ℕ) → length (decimal (v / 10)) ≤ k → length (decimal v) ≤ k + 1
longer k v h = go (ltb v 10) refl
  where
    go : (t : Bool) → ltb v 10 ≡ t → length (decimal v) ≤ k + 1
    go true e = rw (one_digit v (ltb-true v 10 e)) (omega arith)
    go false e = rw (one_more v (ltb-false v 10 e), length-append) (omega arith)

pub two_digits : (v : ℕ) → v < 100 → length (decimal v) ≤ 2
two_digits v h = longer 1 v (rw (one_digit (v / 10) (omega arith)) (omega arith))

pub five_digits : (v : ℕ) → v < 100000 → length (decimal v) ≤ 5
five_digits v h =
    longer 4 v (longer 3 (v / 10) (longer 2 (v / 10 / 10) (two_digits (v / 10 / 10 / 10) (omega arith))))
