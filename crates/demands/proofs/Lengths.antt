-- The number of devices of a length, an area's or that of header and records: found by trying each, by a division, or
-- in byte 0. All say the same, since no two numbers have one length.
use Prim.Native.Nat.{ℕ, zero, suc, ◌≤◌}
use mathlib.Core.Path.{◌≡◌, refl, sym, ap, ◌∙◌}
use mathlib.Core.Bool.{Bool, true, false, not, cond, ◌&&◌, ◌||◌}
use mathlib.Core.List.{List}
use native.Mathlib.Omega.{arith}
use lib.ListN.{length}
use lib.Dec.{eqb, leb}
use borrow.Author.Tests.{eqb-true, eqb-false, leb-true, leb-false, ne_eqb}
use Rattle.record.proofs.Both.{never}
use Rattle.area.specs.Sizes.{record_at, area_size, most_devices, is_count}
use Rattle.area.specs.Loop.{count_in, shaped, shaped_with}
use Rattle.calls.specs.SetUp.{devices_for}
use Rattle.demands.specs.Conditions.{devices_up_to, devices_at, devices_walked}

-- what is found is right
pub record Found (bytes : ℕ → ℕ) (m size d : ℕ) : Type 0 where
  pub some : 1 ≤ d
  pub few : d ≤ m
  pub long : size ≡ bytes d

found_up_to : (bytes : ℕ → ℕ) (m size : ℕ) → (devices_up_to bytes m size ≡ 0 → ⊥) →
    Found bytes m size (devices_up_to bytes m size)
found_up_to bytes zero size h = absurd (h refl)
found_up_to bytes (suc m) size h = go (eqb size (bytes (suc m))) refl h (λ k. found_up_to bytes m size k)
  where
    go : (t : Bool) → eqb size (bytes (suc m)) ≡ t → (cond t (suc m) (devices_up_to bytes m size) ≡ 0 → ⊥) →
        ((devices_up_to bytes m size ≡ 0 → ⊥) → Found bytes m size (devices_up_to bytes m size)) →
        Found bytes (suc m) size (cond t (suc m) (devices_up_to bytes m size))
    go true e k r = record { some = omega arith; few = omega arith; long = eqb-true _ _ e }
    go false e k r = let f = r k in record { some = f.some; few = omega (arith, f.few); long = f.long }

-- and what is there is found, where no two numbers have one length
module _ (bytes : ℕ → ℕ) (once : (m n : ℕ) → bytes m ≡ bytes n → m ≡ n) where
  less : (m n : ℕ) → n ≤ suc m → (bytes n ≡ bytes (suc m) → ⊥) → n ≤ m
  less m n h k = go (leb n m) refl
    where
      go : (t : Bool) → leb n m ≡ t → n ≤ m
      go true e = leb-true _ _ e
      go false e = let z : n ≡ suc m = omega (arith, leb-false n m e) in absurd (k (ap bytes z))

  up_to_is : (m n : ℕ) → 1 ≤ n → n ≤ m → devices_up_to bytes m (bytes n) ≡ n
  up_to_is zero n h k = absurd (omega arith)
  up_to_is (suc m) n h k = go (eqb (bytes n) (bytes (suc m))) refl (λ i. up_to_is m n h i)
    where
      go : (t : Bool) → eqb (bytes n) (bytes (suc m)) ≡ t → (n ≤ m → devices_up_to bytes m (bytes n) ≡ n) →
          cond t (suc m) (devices_up_to bytes m (bytes n)) ≡ n
      go true e r = sym (once n (suc m) (eqb-true _ _ e))
      go false e r = r (less m n k (eqb-false (bytes n) (bytes (suc m)) e))

  -- nothing is found where nothing is there
  none_at : (size : ℕ) → (Found bytes most_devices size (devices_up_to bytes most_devices size) → ⊥) →
      devices_up_to bytes most_devices size ≡ 0
  none_at size h = go (eqb (devices_up_to bytes most_devices size) 0) refl
    where
      go : (t : Bool) → eqb (devices_up_to bytes most_devices size) 0 ≡ t → devices_up_to bytes most_devices size ≡ 0
      go true e = eqb-true _ _ e
      go false e = absurd (h (found_up_to bytes most_devices size (eqb-false (devices_up_to bytes most_devices size) 0 e)))

  -- ---- byte 0

  within : (size n : ℕ) (s t : Bool) → leb 1 n ≡ s → leb n most_devices ≡ t → size ≡ bytes n →
      (eqb (devices_up_to bytes most_devices size) 0 || false) ≡ not ((s && t) && true)
  within size n true true p q e =
      let d : devices_up_to bytes most_devices size ≡ n =
      ap (devices_up_to bytes most_devices) e ∙ up_to_is most_devices n (leb-true _ _ p) (leb-true _ _ q) in
      rw (d, ne_eqb n 0 (λ z. omega (arith, leb-true 1 n p)))
  within size n true false p q e =
      let d : devices_up_to bytes most_devices size ≡ 0 =
      none_at size (λ f. omega (arith, once _ n (sym f.long ∙ e), f.few, leb-false n most_devices q)) in
      rw d
  within size n false t p q e =
      let d : devices_up_to bytes most_devices size ≡ 0 =
      none_at size (λ f. omega (arith, once _ n (sym f.long ∙ e), f.some, leb-false 1 n p)) in
      rw d

  length_is : (size n : ℕ) →
      (eqb (devices_up_to bytes most_devices size) 0 || not (eqb size (bytes n))) ≡
      not (is_count most_devices n && eqb size (bytes n))
  length_is size n = go (eqb size (bytes n)) refl
    where
      or_true : (b : Bool) → (b || true) ≡ true
      or_true true = refl
      or_true false = refl

      go : (t : Bool) → eqb size (bytes n) ≡ t →
          (eqb (devices_up_to bytes most_devices size) 0 || not t) ≡ not (is_count most_devices n && t)
      go true e = within size n _ _ refl refl (eqb-true _ _ e)
      go false e = rw (never (is_count most_devices n), or_true (eqb (devices_up_to bytes most_devices size) 0))

-- ---- areas

areas_once : (m n : ℕ) → area_size m ≡ area_size n → m ≡ n
areas_once m n e = omega arith

pub found_at : (size : ℕ) → (devices_at size ≡ 0 → ⊥) → Found area_size most_devices size (devices_at size)
found_at size h = found_up_to area_size most_devices size h

pub at_is : (n : ℕ) → 1 ≤ n → n ≤ most_devices → devices_at (area_size n) ≡ n
at_is n h k = up_to_is area_size areas_once most_devices n h k

pub shape_is : (a : List ℕ) →
    (eqb (devices_at (length a)) 0 || not (eqb (length a) (area_size (count_in a)))) ≡ not (shaped a)
unfolding shaped_with
shape_is a = length_is area_size areas_once (length a) (count_in a)

-- the division
divided : (n : ℕ) → devices_for (area_size n) ≡ n
divided n = omega arith

pub for_is : (size : ℕ) → (devices_at size ≡ 0 → ⊥) → devices_for size ≡ devices_at size
for_is size h = let f = found_at size h in ap devices_for f.long ∙ divided (devices_at size)

-- ---- header and records

pub records_are : (a : List ℕ) →
    (eqb (devices_walked (length a)) 0 || not (eqb (length a) (record_at (count_in a)))) ≡
    not (is_count most_devices (count_in a) && eqb (length a) (record_at (count_in a)))
records_are a = length_is record_at (λ m n e. omega arith) (length a) (count_in a)
