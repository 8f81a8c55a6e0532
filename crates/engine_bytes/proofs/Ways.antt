-- What a test of an ability's bit that was passed, or failed, says of a value that it chooses.
use Prim.Native.Nat.{ℕ}
use mathlib.Core.Path.{◌≡◌}
use mathlib.Core.Bool.{not}
use lib.Dec.{eqb}
use borrow.Author.Tests.{eq-eqb, ne_eqb}
use Rattle.device.specs.Choose.{choose}

module _ {A : Type 0} {x : A} (p q : A) where
  pub able : {m n : ℕ} → (m ≡ n → ⊥) → x ≡ p → x ≡ choose (not (eqb m n)) p q
  unfolding choose
  able {m} {n} e h = rw (ne_eqb m n e) h

  pub unable : {m n : ℕ} → m ≡ n → x ≡ q → x ≡ choose (not (eqb m n)) p q
  unfolding choose
  unable {m} {n} e h = rw (eq-eqb m n e) h
