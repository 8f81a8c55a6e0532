-- A clause asks for something where its number is the one that it names, and is met by all others; and one that goes by
-- the variant is that of the device's own.
use Prim.Native.Nat.{ℕ}
use mathlib.Core.Path.{◌≡◌, refl}
use mathlib.Core.Bool.{Bool, true, false, not, cond}
use lib.Dec.{eqb}
use borrow.Author.Tests.{eq-eqb, ne_eqb}
use Rattle.record.specs.Sound.{only}
use Rattle.record.proofs.Both.{both, chain}

pub asked : {m n : ℕ} {x b : Bool} → m ≡ n → x ≡ b → x ≡ only (eqb m n) b
asked {m} {n} e h = rw (eq-eqb m n e) h

pub unasked : {m n : ℕ} (b : Bool) → (m ≡ n → ⊥) → true ≡ only (eqb m n) b
unasked {m} {n} b e = rw (ne_eqb m n e)

-- the test is a call's result
pub first : {t r x p : Bool} (q : Bool) → r ≡ t → r ≡ true → x ≡ p → x ≡ cond t p q
first q e t h = rw (← e, t) h

pub second : {t r x q : Bool} (p : Bool) → r ≡ t → r ≡ false → x ≡ q → x ≡ cond t p q
second p e t h = rw (← e, t) h

pub negated : {p q : Bool} → p ≡ q → not p ≡ not q
negated e = rw e

pub ruleset clause = (refl, asked, unasked, first, second, negated, both, chain)
