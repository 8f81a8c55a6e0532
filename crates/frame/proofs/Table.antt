-- A constant table that holds a definition's values from 0 on: the comparison of the table with the values is computed,
-- and the law gives each entry. So it is with two definitions that have the same values up to a number.
use mathlib.Core.Path.{◌≡◌, ◌∙◌, ap, sym}
use mathlib.Core.List.{List, [], ◌∷◌}
use Prim.Native.Nat.{ℕ, zero, suc, ◌+◌, ◌<◌}
use native.Mathlib.Nat.{add-zero, zero-add, add-suc, suc-add, le_of_suc-le-suc, not-suc-le-zero}
use lib.ListN.{get_or}

-- the n values of g from g i on
abbrev pub values : (ℕ → ℕ) → ℕ → ℕ → List ℕ
values g i zero = []
values g i (suc n) = g i ∷ values g (suc i) n

from : (g : ℕ → ℕ) (n i k : ℕ) → k < n → get_or (values g i n) k 0 ≡ g (i + k)
from g zero i k h = absurd (not-suc-le-zero h)
from g (suc n) i zero h = ap g (sym (add-zero i))
from g (suc n) i (suc k) h = from g n (suc i) k (le_of_suc-le-suc h) ∙ ap g (suc-add i k ∙ sym (add-suc i k))

pub entry : (g : ℕ → ℕ) (n k : ℕ) → k < n → get_or (values g 0 n) k 0 ≡ g k
entry g n k h = from g n 0 k h ∙ ap g (zero-add k)

pub same : (g h : ℕ → ℕ) (n k : ℕ) → values g 0 n ≡ values h 0 n → k < n → g k ≡ h k
same g h n k e i = sym (entry g n k i) ∙ ap (λ (v : List ℕ). get_or v k 0) e ∙ entry h n k i
