-- What an arm of the decoder's match knows of its frame, and the kind that this gives it: a code that stands alone is
-- looked up; the arms of ranges know that the frame is none of those codes, and the bounds of their tests.
use Prim.Native.Nat.{ℕ, suc, ◌+◌, ◌≤◌, ◌<◌}
use mathlib.Core.Path.{◌≡◌, refl, sym}
use mathlib.Core.List.{List, [], ◌∷◌}
use mathlib.Core.Bool.{Bool, true, false, cond, ◌&&◌}
use native.Mathlib.Omega.{arith}
use lib.Dec.{leb, eqb}
use borrow.Author.Tests.{leb-true, eqb-true}
use Rattle.frame.specs.Messages.{Row, messages, within, lookup, kind_at, first_of, codes_of}
use Rattle.frame.proofs.Rows.{ranged}

pub alone : (f : ℕ) {k n : ℕ} → f ≡ k → n ≡ lookup messages k → n ≡ kind_at f
unfolding kind_at
alone f e h = rw e h

-- A range that starts after a code p that stands alone: its test lets p through
pub after : (p : ℕ) {k f : ℕ} → (f ≡ p → ⊥) → p ≤ f → first_of k ≤ suc p → f < first_of k + codes_of k →
    k ≡ kind_at f
after p {k} {f} d i j l = ranged k f (omega arith) l

abbrev either : Bool → Type 0 → Type 0 → Type 0
either true A B = A
either false A B = B

abbrev single : Row → Bool
single r = eqb r.first r.last

-- P, and f is none of the codes that stand alone: in the order in which the match leaves them
abbrev pub NoCode : Type 0 → List Row → ℕ → Type 0
NoCode P [] f = P
NoCode P (r ∷ rs) f = NoCode (either (single r) (P × (f ≡ r.first → ⊥)) P) rs f

-- f is in none of the ranges
abbrev pub NoRange : List Row → ℕ → Type 0
NoRange [] f = Unit {0}
NoRange (r ∷ rs) f = either (single r) (NoRange rs f) ((r.first ≤ f → f ≤ r.last → ⊥) × NoRange rs f)

off : (r : Row) (f n : ℕ) → (r.first ≤ f → f ≤ r.last → ⊥) → cond (within r f) r.kind n ≡ n
unfolding within
off r f n h = split (leb r.first f) (leb f r.last) refl refl
  where
    split : (s t : Bool) → leb r.first f ≡ s → leb f r.last ≡ t → cond (s && t) r.kind n ≡ n
    split true true p q = absurd (h (leb-true _ _ p) (leb-true _ _ q))
    split true false p q = refl
    split false t p q = refl

missed : (P : Type 0) (rs : List Row) (f : ℕ) → NoCode P rs f → NoRange rs f → P × (lookup rs f ≡ 0)
unfolding lookup
missed P [] f c d = (c, refl)
missed P (r ∷ rs) f c d =
    split (single r) refl (missed (either (single r) (P × (f ≡ r.first → ⊥)) P) rs f c) d
  where
    split : (s : Bool) → single r ≡ s → (NoRange rs f → either s (P × (f ≡ r.first → ⊥)) P × (lookup rs f ≡ 0)) →
        either s (NoRange rs f) ((r.first ≤ f → f ≤ r.last → ⊥) × NoRange rs f) →
        P × (cond (within r f) r.kind (lookup rs f) ≡ 0)
    split true e more d =
        let m = more d in
        let z : r.first ≡ r.last = eqb-true _ _ e in (m.0.0, rw (off r f (lookup rs f) (omega arith)) m.1)
    split false e more d = let m = more d.1 in (m.0, rw (off r f (lookup rs f) d.0) m.1)

pub unlisted : (f : ℕ) → NoCode (Unit {0}) messages f → NoRange messages f → 0 ≡ kind_at f
unfolding kind_at
unlisted f c d = sym (missed (Unit {0}) messages f c d).1
