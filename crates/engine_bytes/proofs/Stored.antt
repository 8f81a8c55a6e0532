-- A record after values were stored in it where they lie is the record of the changed device: its bytes stand at fixed
-- places, and ID and data are as they were.
use Prim.Native.Nat.{ℕ, ◌<◌}
use mathlib.Core.Path.{◌≡◌, refl, sym, ap, ◌∙◌}
use mathlib.Core.Bool.{Bool, true, false, ◌||◌}
use mathlib.Core.List.{List, [], ◌∷◌}
use native.Mathlib.Omega.{arith}
use lib.Dec.{eqb}
use lib.ListN.{length, set}
use borrow.Author.Tests.{eqb-true}
use Rattle.device.specs.Change.{Edit, ◌becomes◌, changed}
use Rattle.device.specs.declared.Device.{Device}
use Rattle.record.specs.Record.{record_size, device_of, record_of}
use Rattle.record.specs.Fits.{Bytes}
use Rattle.record.specs.Written.{IsRecord}
use Rattle.record.proofs.Laws.{record_wide, read_again, read_sizes}
use Rattle.record.proofs.Whole.{record_is}
use Rattle.engine_bytes.specs.Single.{singles, is_in, is_single}

-- what a change in place ensures
abbrev pub Now : List ℕ → Device → Type 0
Now b d = IsRecord b × (device_of b ≡ d)

-- `over` stores in a record; where it makes that of any device the changed one's, it does so here
pub stored : (over : List ℕ → List ℕ) (es : List Edit) → ((d : Device) → over (record_of d) ≡ record_of (changed d es)) →
    (b : List ℕ) → IsRecord b → Now (over b) (changed (device_of b) es)
stored over es h b i =
    let d = device_of b in
    let e : over b ≡ record_of (changed d es) = ap over (sym i.whole) ∙ h d in
    let z = read_sizes b in
    let r : device_of (over b) ≡ changed d es = ap device_of e ∙ read_again (changed d es) z.0 z.1 in
    (record { long = ap (λ (x : List ℕ). length x) e ∙ record_wide (changed d es); whole = ap record_of r ∙ sym e }, r)

-- the device in the bytes of an array, which are a record's by their type
pub stored_here : (over : List ℕ → List ℕ) (es : List Edit) →
    ((d : Device) → over (record_of d) ≡ record_of (changed d es)) → (b : List ℕ) → length b ≡ record_size → Bytes b →
    device_of (over b) ≡ changed (device_of b) es
stored_here over es h b long small = (stored over es h b (record_is b long small)).1

-- ---- one value, by its place

abbrev Each : (ℕ → Type 0) → List ℕ → Type 0
Each P [] = Unit {0}
Each P (p ∷ ps) = P p × Each P ps

pick : (P : ℕ → Type 0) (ps : List ℕ) (p : ℕ) → Each P ps → is_in p ps ≡ true → P p
pick P [] p h e = let z : ◌≡◌ {A = ℕ} 0 1 = cc in absurd (omega arith)
pick P (q ∷ qs) p h e = go (eqb p q) refl (pick P qs p h.1) e
  where
    go : (t : Bool) → eqb p q ≡ t → (is_in p qs ≡ true → P p) → (t || is_in p qs) ≡ true → P p
    go true x later u = rw (eqb-true p q x) h.0
    go false x later u = later u

abbrev Put : ℕ → Device → ℕ → Type 0
Put x d p = set (record_of d) p x ≡ record_of (changed d (p becomes x ∷ []))

pub inside : (p : ℕ) → is_single p ≡ true → p < record_size
inside p e =
    pick (λ q. q < record_size) singles p
    (omega arith, (omega arith, (omega arith, (omega arith, (omega arith, (omega arith, tt)))))) e

pub single : (p x : ℕ) → is_single p ≡ true → (d : Device) → Put x d p
unfolding record_of
single p x e d = pick (Put x d) singles p (refl, (refl, (refl, (refl, (refl, (refl, tt)))))) e
