-- Demand 1: each call's tests are the table's conditions in the table's order, so the refusal it answers is the first
-- that holds.
use Prim.Native.Nat.{ℕ, suc}
use mathlib.Core.Path.{◌≡◌, refl}
use mathlib.Core.Bool.{Bool, true, false, not, cond, ◌&&◌, ◌||◌}
use mathlib.Core.List.{List, [], ◌∷◌}
use native.Mathlib.Omega.{arith}
use lib.ListN.{length}
use lib.Dec.{eqb, ltb, leb}
use borrow.Author.Tests.{ltb-true, ltb-false, ne_eqb, le-leb, lt-leb}
use Rattle.std.specs.Prelude.{Some, None}
use Rattle.area.specs.Loop.{Loop, loop_of, shaped, sound, judge_with}
use Rattle.area.specs.Lookup.{oldest_of}
use Rattle.calls.specs.Outcome.{Outcome, refuse, done, After, after, after_of, call_of, call_with}

-- what an outcome tells of its refusal: a refusal is no 0, and what is done answers 0
pub data Told (A : Type 0) (get : A → ℕ) : Outcome A → ℕ → Type 0 where
  no : (k : ℕ) → (k ≡ 0 → ⊥) → Told A get (refuse k) k
  yes : (r : A) (l : Loop) → get r ≡ 0 → Told A get (done r l) 0

-- a call on an area, held to the refusal k
pub record Met {A : Type 0} (get : A → ℕ) (deny : ℕ → A) (a : List ℕ) (o : After A) (k : ℕ) : Type 0 where
  pub refusal : get o.answer ≡ k
  pub refused : (k ≡ 0 → ⊥) → (o.answer ≡ deny k) × (o.area ≡ a)

module _ {A : Type 0} (get : A → ℕ) (deny : ℕ → A) (same : (k : ℕ) → get (deny k) ≡ k) where
  denied : (a : List ℕ) (k : ℕ) → Met get deny a (after (deny k) a) k
  denied a k = record { refusal = same k; refused = λ z. (refl, refl) }

  after_met : (a : List ℕ) (o : Outcome A) (k : ℕ) → Told A get o k → Met get deny a (after_of deny a o) k
  after_met a o k (no j h) = denied a j
  after_met a o k (yes r l e) = record { refusal = e; refused = λ z. absurd (z refl) }

  pub call_met : (a : List ℕ) (call : Loop → Outcome A) (k : ℕ) → Told A get (call (loop_of a)) k →
      Met get deny a (call_of deny call a) (cond (not (shaped a)) 1 (cond (not (sound a)) 2 k))
  unfolding call_with judge_with
  call_met a call k t = go (shaped a) (sound a)
    where
      go : (s u : Bool) → Met get deny a
          (cond (eqb (cond s (cond u 0 2) 1) 0) (after_of deny a (call (loop_of a)))
          (after (deny (cond s (cond u 0 2) 1)) a))
          (cond (not s) 1 (cond (not u) 2 k))
      go false u = denied a 1
      go true false = denied a 2
      go true true = after_met a (call (loop_of a)) k t

-- ---- tests, turned round

pub leb_turned : (m n : ℕ) → leb n m ≡ not (ltb m n)
leb_turned m n = go (ltb m n) refl
  where
    go : (t : Bool) → ltb m n ≡ t → leb n m ≡ not t
    go true e = lt-leb n m (ltb-true m n e)
    go false e = le-leb n m (ltb-false m n e)

pub either_turned : (s t : Bool) → (not s || not t) ≡ not (s && t)
either_turned true t = refl
either_turned false t = refl

pub turned_lt : (m n x y : ℕ) → cond (leb n m) x y ≡ cond (ltb m n) y x
turned_lt m n x y = rw (leb_turned m n) (go (ltb m n))
  where
    go : (t : Bool) → cond (not t) x y ≡ cond t y x
    go true = refl
    go false = refl

pub told_cond : {A : Type 0} {get : A → ℕ} (b : Bool) (o p : Outcome A) (j k : ℕ) → Told A get o j → Told A get p k →
    Told A get (cond b o p) (cond b j k)
told_cond true o p j k t u = t
told_cond false o p j k t u = u

-- a link's oldest frame, and whether it holds none
pub none_is : (fs : List ℕ) (x : ℕ) → oldest_of fs ≡ None → cond (eqb (length fs) 0) 5 x ≡ 5
none_is [] x e = refl
none_is (f ∷ fs) x e = let z : ◌≡◌ {A = ℕ} 0 1 = cc in absurd (omega arith)

pub some_is : (fs : List ℕ) (f x : ℕ) → oldest_of fs ≡ Some f → cond (eqb (length fs) 0) 5 x ≡ x
some_is [] f x e = let z : ◌≡◌ {A = ℕ} 0 1 = cc in absurd (omega arith)
some_is (g ∷ fs) f x e = rw (ne_eqb (suc (length fs)) 0 (λ z. omega arith))
