-- A slice filled from its start by one copy, and the bytes of a part given back to the whole.
use mathlib.Core.Path.{◌≡◌, refl, sym, ◌∙◌}
use mathlib.Core.List.{List, [], ◌∷◌, ◌++◌, append_assoc, append-nil}
use Prim.Native.Nat.{ℕ, zero, suc, ◌+◌, ◌-◌, ◌≤◌}
use native.Mathlib.Omega.{arith}
use native.Mathlib.Nat.{zero-add, suc-add}
use lib.ListN.{length, take, drop, length-append, length-drop, drop_of_length-le}
use lib.Seq.{length-take-le, take_all, take_at, drop_at, take-nil, drop-nil}

-- ---- a copy

pub copied : (from to : List ℕ) → length to ≡ length from → take (length from) from ++ drop (length from) to ≡ from
copied from to e =
    rw (take_all (length from) from (omega arith), drop_of_length-le to {i = length from} (omega arith))
    (append-nil from)

-- the front of a longer slice that was copied to
module _ (n : ℕ) (from to read : List ℕ) (h : n ≡ length from)
    (e : read ≡ take (length from) from ++ drop (length from) to) where
  pub read_back : take n read ≡ from
  read_back = rw (e, take_all (length from) from (omega arith)) (take_at from (drop (length from) to) n (sym h))

  pub read_long : n ≤ length read
  read_long = rw (e, length-append, take_all (length from) from (omega arith)) (omega arith)

-- ---- a part of a part

pub part_of : (n m : ℕ) (b : List ℕ) → take m (drop n b) ≡ drop n (take (n + m) b)
part_of zero m b = rw zero-add
part_of (suc n) m [] = simp (take-nil, drop-nil)
part_of (suc n) m (x ∷ b) = rw suc-add (part_of n m b)

-- ---- the bytes from `at` to `end`, as they are lent, and given back

abbrev pub given : ℕ → ℕ → List ℕ → List ℕ → List ℕ
given at end new to = take at to ++ (new ++ drop (end - at) (drop at to))

pub lent_long : (at end m : ℕ) (b : List ℕ) → end ≤ length b → end - at ≡ m → length (take (end - at) (drop at b)) ≡ m
lent_long at end m b h e = length-take-le (end - at) (drop at b) (simp length-drop (omega arith)) ∙ e

module _ (at end : ℕ) (to new : List ℕ) (wide : at + length new ≡ end) (fit : end ≤ length to) where
  so_far : length (take at to ++ new) ≡ end
  so_far = simp (length-append, length-take-le at to (omega arith)) wide

  pub given_so_far : take end (given at end new to) ≡ take at to ++ new
  given_so_far =
      rw (← (append_assoc (take at to) new (drop (end - at) (drop at to))))
      (take_at (take at to ++ new) (drop (end - at) (drop at to)) end so_far)

  -- and what is left is what it was
  pub given_rest : drop end (given at end new to) ≡ drop (end - at) (drop at to)
  given_rest =
      rw (← (append_assoc (take at to) new (drop (end - at) (drop at to))))
      (drop_at (take at to ++ new) (drop (end - at) (drop at to)) end so_far)

  pub given_long : length (given at end new to) ≡ length to
  given_long = simp (length-append, length-take-le at to (omega arith), length-drop) (omega arith)

  pub given_last : end ≡ length to → given at end new to ≡ take at to ++ new
  given_last e = sym (take_all end (given at end new to) (omega (arith, given_long))) ∙ given_so_far

-- three parts of a slice, each as long as what was lent, are all of it
module _ (u m : ℕ) (to p q r : List ℕ) (h : u ≤ m) (k : m ≤ length to) (pl : length p ≡ length (take u to)) where
  abbrev one : List ℕ
  one = given 0 u p to

  abbrev two : List ℕ
  two = given u m q one

  pub three : length q ≡ length (take (m - u) (drop u one)) →
      length r ≡ length (take (length two - m) (drop m two)) → given m (length two) r two ≡ p ++ (q ++ r)
  three ql rl =
      let pw : length p ≡ u = pl ∙ length-take-le u to (omega arith) in
      let l₁ = given_long 0 u to p (omega arith) (omega arith) in
      let qw : length q ≡ m - u = ql ∙ lent_long u m (m - u) one (omega arith) refl in
      let l₂ = given_long u m one q (omega arith) (omega arith) in
      let rl : length r ≡ length two - m = rl ∙ lent_long m (length two) (length two - m) two (omega arith) refl in
      given_last m (length two) two r (omega arith) (omega arith) refl
      ∙ rw (given_so_far u m one q (omega arith) (omega arith), given_so_far 0 u to p (omega arith) (omega arith))
      (append_assoc p q r)

-- what stands before a body copied to the front, and the body behind it
pub headed : (m : ℕ) (h b to to₁ new : List ℕ) → length h ≡ m → length to ≡ m + length b →
    to₁ ≡ take (length h) h ++ drop (length h) to → new ≡ b → given m (length to₁) new to₁ ≡ h ++ b
headed m h b to to₁ new hm l e n =
    let t : to₁ ≡ h ++ drop m to = e ∙ rw (take_all (length h) h (omega arith), hm) in
    let w : length to₁ ≡ m + length b = rw t (simp (length-append, length-drop) (omega arith)) in
    let f : take m to₁ ≡ h = rw t (take_at h (drop m to) m hm) in
    rw n (given_last m (length to₁) to₁ b (omega arith) (omega arith) refl ∙ rw f)
