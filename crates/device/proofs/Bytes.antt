-- Laws of the bytes of a list from a place on.
use Prim.Native.Nat.{ℕ, zero, suc, ◌+◌, ◌-◌, ◌≤◌}
use mathlib.Core.Path.{◌≡◌, refl, sym, ap, ◌∙◌}
use mathlib.Core.List.{List, [], ◌∷◌, ◌++◌}
use native.Mathlib.Omega.{arith}
use lib.ListN.{length, take, drop, get_or, replicate, get_or-eq_default, drop_of_length-le}
use lib.Seq.{drop-cons, take_all}
use Rattle.device.specs.PowerOn.{bytes_from}

-- a place past the end holds 0
pub past : (xs : List ℕ) (i n : ℕ) → length xs ≡ n → n ≤ i → 0 ≡ get_or xs i 0
past xs i n e h = sym (get_or-eq_default xs 0 (omega arith))

-- there are n of them
pub bytes_wide : (k n : ℕ) (b : List ℕ) → length (bytes_from k n b) ≡ n
unfolding bytes_from
bytes_wide k zero b = refl
bytes_wide k (suc n) b = ap suc (bytes_wide (suc k) n b)

-- a part that the list has
pub take_bytes : (n k : ℕ) (b : List ℕ) → k + n ≤ length b → take n (drop k b) ≡ bytes_from k n b
unfolding bytes_from
take_bytes zero k b h = refl
take_bytes (suc n) k b h =
    rw (drop-cons b k 0 (omega arith)) (ap (λ (r : List ℕ). get_or b k 0 ∷ r) (take_bytes n (suc k) b (omega arith)))

-- past the end all are 0
zeros_from : (n k : ℕ) (b : List ℕ) → length b ≤ k → replicate n 0 ≡ bytes_from k n b
unfolding bytes_from
zeros_from zero k b h = refl
zeros_from (suc n) k b h =
    rw (get_or-eq_default b 0 {n = k} h) (ap (λ (r : List ℕ). 0 ∷ r) (zeros_from n (suc k) b (omega arith)))

drop_zeros : (i m : ℕ) → drop {A = ℕ} i (replicate (i + m) 0) ≡ replicate m 0
drop_zeros zero m = rw zero-add
  where
    zero-add : 0 + m ≡ m
    zero-add = omega arith
drop_zeros (suc i) m = let e : suc i + m ≡ suc (i + m) = omega arith in rw e (drop_zeros i m)

-- the rest of a list, and zeros behind it
rest : (m n k : ℕ) (b : List ℕ) → length b ≡ k + m → drop k b ++ replicate n 0 ≡ bytes_from k (m + n) b
unfolding bytes_from
rest zero n k b h =
    let e : 0 + n ≡ n = omega arith in rw (e, drop_of_length-le b {i = k} (omega arith))
    (zeros_from n k b (omega arith))
rest (suc m) n k b h =
    let e : suc m + n ≡ suc (m + n) = omega arith in
    rw (e, drop-cons b k 0 (omega arith)) (ap (λ (r : List ℕ). get_or b k 0 ∷ r) (rest m n (suc k) b (omega arith)))

-- a list copied into zeros
pub padded_is : (b : List ℕ) (n : ℕ) → length b ≤ n →
    take (length b) b ++ drop (length b) (replicate n 0) ≡ bytes_from 0 n b
padded_is b n h =
    let m = n - length b in
    let e : n ≡ length b + m = omega arith in
    let t : take (length b) b ≡ b = take_whole b in
    rw (e, drop_zeros (length b) m, t) (rest (length b) m 0 b (omega arith))
  where
    take_whole : (l : List ℕ) → take (length l) l ≡ l
    take_whole [] = refl
    take_whole (x ∷ l) = ap (λ (r : List ℕ). x ∷ r) (take_whole l)

-- all of a list
pub bytes_all : (n : ℕ) (b : List ℕ) → length b ≡ n → b ≡ bytes_from 0 n b
bytes_all n b h = sym (take_whole n b h) ∙ take_bytes n 0 b (omega arith)
  where
    take_whole : (n : ℕ) (l : List ℕ) → length l ≡ n → take n (drop 0 l) ≡ l
    take_whole n l h = take_all n l (omega arith)
