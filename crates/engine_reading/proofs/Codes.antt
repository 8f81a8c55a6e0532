-- Kinds by parts of a frame's number: what a part gives is tried on all the numbers that it can be, by computing, and a
-- match's keys and what is none of them are found there.
use Prim.Native.Nat.{ℕ, ◌+◌, ◌*◌, ◌-◌, ◌/◌, ◌%◌, ◌<◌}
use mathlib.Core.Path.{◌≡◌, refl, sym, ap, ◌∙◌}
use mathlib.Core.Bool.{Bool, false, cond, ◌||◌}
use mathlib.Core.List.{List, [], ◌∷◌}
use native.Mathlib.Omega.{arith}
use lib.Dec.{eqb}
use borrow.Author.Tests.{ne_eqb}
use Rattle.frame.specs.Messages.{kind_at}
use Rattle.frame.proofs.Table.{values, same}

-- a key of a match
pub keyed : (g : ℕ → ℕ) {x n : ℕ} (k : ℕ) → x ≡ k → n ≡ g k → n ≡ g x
keyed g k e h = rw e h

-- the keys of a match
abbrev pub is_in : ℕ → List ℕ → Bool
is_in x [] = false
is_in x (k ∷ ks) = eqb x k || is_in x ks

abbrev pub NotIn : ℕ → List ℕ → Type 0
NotIn x [] = Unit {0}
NotIn x (k ∷ ks) = (x ≡ k → ⊥) × NotIn x ks

pub not_in : (x : ℕ) (ks : List ℕ) → NotIn x ks → is_in x ks ≡ false
not_in x [] h = refl
not_in x (k ∷ ks) h = rw (ne_eqb x k h.0) (not_in x ks h.1)

-- zero wherever p does not hold: so where it does not
pub others : (g : ℕ → ℕ) (p : ℕ → Bool) (n : ℕ) → values (λ x. cond (p x) 0 (g x)) 0 n ≡ values (λ x. 0) 0 n →
    (x : ℕ) → x < n → p x ≡ false → 0 ≡ g x
others g p n e x h f = sym (rw f at (same (λ y. cond (p y) 0 (g y)) (λ y. 0) n x e h))

-- a group of 32 codes
pub in_group : (g : ℕ) (h : ℕ → ℕ) → values h 0 32 ≡ values (λ x. kind_at (32 * g + x)) 0 32 → (f : ℕ) → f / 32 ≡ g →
    h (f % 32) ≡ kind_at f
in_group g h e f q =
    let i : 32 * g + f % 32 ≡ f = omega arith in
    same h (λ x. kind_at (32 * g + x)) 32 (f % 32) e (omega arith) ∙ ap kind_at i
