-- What tests of single characters say: a line begins with a word, and bytes are those of a device.
use Prim.Native.Nat.{ℕ, ◌+◌, ◌≤◌, ◌<◌, zero-le, suc-le-suc}
use mathlib.Core.Path.{◌≡◌, refl}
use mathlib.Core.List.{List, [], ◌∷◌}
use mathlib.Core.Bool.{Bool, true, false, ◌&&◌, and-true, and_assoc}
use native.Mathlib.Nat.{zero-add}
use native.Mathlib.Omega.{arith}
use lib.Dec.{eqb, ltb}
use lib.ListN.{length, get_or}
use borrow.Author.Tests.{eq-eqb, ne_eqb, ltb-true}
use Rattle.record.proofs.Both.{left, right}
use Rattle.text.specs.Words.{begins}
use Rattle.text.specs.Digits.{digit_at}
use Rattle.script.specs.Script.{group_right}

false_true : false ≡ true → ⊥
false_true e = let z : ◌≡◌ {A = ℕ} 0 1 = cc in omega arith

-- ---- a word

-- a line that begins with a word is as long
pub has_word : (word line : List ℕ) → begins word line ≡ true → length word ≤ length line
unfolding begins
has_word [] line h = zero-le
has_word (w ∷ ws) [] h = let z : ◌≡◌ {A = Bool} false true = h in absurd (false_true z)
has_word (w ∷ ws) (x ∷ xs) h = suc-le-suc (has_word ws xs (right (eqb x w) (begins ws xs) h))

-- ---- a device's group

-- a test of a space and four digits, and what it says of the digits
pub group_is : (g : List ℕ) {a b c d : ℕ} → a ≡ digit_at 1 g → b ≡ digit_at 2 g → c ≡ digit_at 3 g → d ≡ digit_at 4 g →
    (eqb (get_or g 0 0) 32 && (ltb a 16 && (ltb b 16 && (ltb c 16 && ltb d 16)))) ≡ group_right g
unfolding group_right
group_is g p q r s = rw (p, q, r, s, and-true)

pub record Four (a b c d : ℕ) : Type 0 where
  pub first : a < 16
  pub second : b < 16
  pub third : c < 16
  pub fourth : d < 16

pub group_digits : (g : List ℕ) → group_right g ≡ true → Four (digit_at 1 g) (digit_at 2 g) (digit_at 3 g) (digit_at 4 g)
unfolding group_right
group_digits g h =
    let a = ltb (digit_at 1 g) 16 in
    let b = ltb (digit_at 2 g) 16 in
    let c = ltb (digit_at 3 g) 16 in
    let d = ltb (digit_at 4 g) 16 in
    let h1 = right (eqb (get_or g 0 0) 32) (a && (b && (c && (d && true)))) h in
    let h2 = right a (b && (c && (d && true))) h1 in
    let h3 = right b (c && (d && true)) h2 in
    let h4 = right c (d && true) h3 in
    record {
      first = ltb-true (digit_at 1 g) 16 (left a (b && (c && (d && true))) h1);
      second = ltb-true (digit_at 2 g) 16 (left b (c && (d && true)) h2);
      third = ltb-true (digit_at 3 g) 16 (left c (d && true) h3);
      fourth = ltb-true (digit_at 4 g) 16 (left d true h4);
    }
