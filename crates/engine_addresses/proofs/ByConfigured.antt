-- The clauses ask for something of devices with one value of byte 3 only; so that value says what is left of them.
use Prim.Native.Nat.{ℕ, zero, suc, ◌*◌}
use mathlib.Core.Path.{◌≡◌, refl}
use mathlib.Core.Bool.{Bool, not, ◌&&◌, and-true, and_assoc}
use native.Mathlib.Omega.{arith}
use lib.Bits.{bit_and}
use lib.Dec.{eqb, ltb, leb}
use borrow.Author.Tests.{ne_eqb, lt-leb}
use Rattle.device.specs.Device.{auto_address, extended, no_address, received, has, fixed_second, present_second}
use Rattle.device.specs.declared.Device.{Device}
use Rattle.record.specs.Sound.{only, configured_both}
use Rattle.record.specs.Sound.{address_right}
use Rattle.engine_addresses.specs.Addresses.{simple_at, extended_at}

-- configured, and nothing else
single : (c : ℕ) (b n : Bool) → (c ≡ 0 → ⊥) → (eqb c 1 && (b && n)) ≡ (only (eqb c 1) b && (leb c 1 && n))
single zero b n h = absurd (h refl)
single (suc zero) b n h = refl
single (suc (suc c)) b n h = rw (ne_eqb (suc (suc c)) 1 (omega arith), lt-leb (suc (suc c)) 1 (omega arith))

module _ (d : Device) where
  abbrev no_second : Bool
  no_second = eqb d.fixedsecond 0 && eqb d.second 0

  pub simple_unconfigured : d.configured ≡ 0 → (eqb d.address d.fixed && no_second) ≡ simple_at d
  simple_unconfigured h = rw h

  pub simple_configured : (d.configured ≡ 0 → ⊥) →
      (eqb d.configured 1 && ((has d auto_address && ltb d.address no_address) && no_second)) ≡ simple_at d
  simple_configured h =
      rw (ne_eqb d.configured 0 h)
      (single d.configured (has d auto_address && ltb d.address no_address) no_second h)

  abbrev in_range : Bool
  in_range = ltb d.fixedsecond (2 * received) && ltb d.second (2 * received)

  pub extended_unconfigured : d.configured ≡ 0 →
      (eqb d.address d.fixed &&
      (not (has d auto_address) && (in_range && eqb (present_second d) (fixed_second d)))) ≡ extended_at d
  extended_unconfigured h = rw h (simp (and_assoc, and-true))

  pub extended_assigned : (d.configured ≡ 0 → ⊥) →
      (not (has d auto_address) && (in_range && configured_both d)) ≡ extended_at d
  extended_assigned h = rw (ne_eqb d.configured 0 h) (simp and_assoc)

  -- the clauses of its variant
  pub is_extended : (bit_and d.further extended ≡ 0 → ⊥) → extended_at d ≡ address_right d
  is_extended h = rw (ne_eqb (bit_and d.further extended) 0 h)

  pub is_simple : bit_and d.further extended ≡ 0 → simple_at d ≡ address_right d
  is_simple h = rw h
