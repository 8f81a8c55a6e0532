-- What a test that was passed, or failed, says of a value that it chooses. `search arms` answers a return from the
-- tests on its way.
use Prim.Native.Nat.{ℕ, ◌+◌, ◌≤◌, ◌<◌}
use mathlib.Core.Path.{◌≡◌, refl, sym, ◌∙◌}
use mathlib.Core.Bool.{Bool, true, false, ◌||◌}
use native.Mathlib.Omega.{arith}
use lib.Dec.{eqb, ltb, leb}
use borrow.Author.Tests.{eq-eqb, ne_eqb, lt-ltb, le-ltb, le-leb, lt-leb}
use Rattle.frame.specs.declared.Message.{Message}
use Rattle.device.specs.Choose.{choose}
use Rattle.device.specs.Change.{talking}
use Rattle.device.specs.Reply.{sends, marked, continues}
use Rattle.device.specs.declared.Device.{Device}
use Rattle.device.specs.Sent.{Sent}

yes : {A : Type 0} {b : Bool} {x a : A} (z : A) → b ≡ true → x ≡ a → x ≡ choose b a z
unfolding choose
yes z e h = rw e h

nay : {A : Type 0} {b : Bool} {x z : A} (a : A) → b ≡ false → x ≡ z → x ≡ choose b a z
unfolding choose
nay a e h = rw e h

module _ {A : Type 0} {x : A} (p q : A) where
  -- the test is a call's result
  pub when : {b r : Bool} → r ≡ b → r ≡ true → x ≡ p → x ≡ choose b p q
  when s t h = yes q (sym s ∙ t) h

  pub unless : {b r : Bool} → r ≡ b → r ≡ false → x ≡ q → x ≡ choose b p q
  unless s t h = nay p (sym s ∙ t) h

  pub when_eq : {m n : ℕ} → m ≡ n → x ≡ p → x ≡ choose (eqb m n) p q
  when_eq {m} {n} e h = yes q (eq-eqb m n e) h

  pub unless_eq : {m n : ℕ} → (m ≡ n → ⊥) → x ≡ q → x ≡ choose (eqb m n) p q
  unless_eq {m} {n} e h = nay p (ne_eqb m n e) h

  pub when_lt : {m n : ℕ} → m < n → x ≡ p → x ≡ choose (ltb m n) p q
  when_lt {m} {n} e h = yes q (lt-ltb m n e) h

  pub unless_lt : {m n : ℕ} → n ≤ m → x ≡ q → x ≡ choose (ltb m n) p q
  unless_lt {m} {n} e h = nay p (le-ltb m n e) h

  pub when_le : {m n : ℕ} → m ≤ n → x ≡ p → x ≡ choose (leb m n) p q
  when_le {m} {n} e h = yes q (le-leb m n e) h

  pub unless_le : {m n : ℕ} → n < m → x ≡ q → x ≡ choose (leb m n) p q
  unless_le {m} {n} e h = nay p (lt-leb m n e) h

  -- the bound is a call's result
  pub when_lt_of : {m n r : ℕ} → r ≡ n → m < r → x ≡ p → x ≡ choose (ltb m n) p q
  when_lt_of {m} {n} e l h = when_lt {m = m} {n = n} (omega arith) h

  pub unless_lt_of : {m n r : ℕ} → r ≡ n → r ≤ m → x ≡ q → x ≡ choose (ltb m n) p q
  unless_lt_of {m} {n} e l h = unless_lt {m = m} {n = n} (omega arith) h

-- what a call gave, where its argument is a call's result
pub sends_on : {d e : Device} {r : Sent} (f : ℕ) → r ≡ sends d f → d ≡ e → r ≡ sends e f
sends_on f p q = rw (← q) p

pub marked_on : {r : ℕ} {x y : Message} (d : Device) → r ≡ marked d x → x ≡ y → r ≡ marked d y
marked_on d p q = rw (← q) p

pub continues_on : {r : Sent} {d e : Device} → r ≡ continues d → d ≡ e → r ≡ continues e
continues_on p q = rw (← q) p

pub talking_on : {r d e : Device} (x : ℕ) → r ≡ talking d x → d ≡ e → r ≡ talking e x
talking_on x p q = rw (← q) p

pub plus : {x y : ℕ} (n : ℕ) → x ≡ y → x + n ≡ y + n
plus n p = rw p

pub either : {p q a b : Bool} → p ≡ a → q ≡ b → (p || q) ≡ (a || b)
either e f = rw (e, f)

pub ruleset arms = (
  refl,
  when,
  unless,
  when_eq,
  unless_eq,
  when_lt,
  unless_lt,
  when_le,
  unless_le,
  when_lt_of,
  unless_lt_of,
  sends_on,
  marked_on,
  continues_on,
  talking_on,
  plus,
  either,
)
