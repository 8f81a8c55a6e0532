-- Bits move a device as the definition's pairs do: on the four states by a computed test, and any other number stays.
use Prim.Native.Nat.{ℕ, ◌<◌}
use mathlib.Core.Path.{◌≡◌, ap}
use native.Mathlib.Omega.{arith}
use native.Mathlib.Decide.{dec_lt}
use lib.Bits.{bit_and, bit_or}
use borrow.Author.Tests.{lt-ltb, le-ltb, ne_eqb}
use Rattle.frame.proofs.Table.{values, same}
use Rattle.device.specs.Choose.{choose}
use Rattle.device.specs.Change.{remoting}
use Rattle.device.specs.Remote.{moves, moved}
use Rattle.device.specs.declared.Device.{Device}
use Rattle.engine_remote.specs.Bits.{bits_of, bits_moved}

module _ (kept set a b c e : ℕ)
    (all : values (λ s. bit_or (bit_and s kept) set) 0 4 ≡ values (λ s. moves s a b c e) 0 4)
    (here : a < 4) (there : c < 4) where
  bits_are : (s : ℕ) → bits_of s kept set ≡ moves s a b c e
  unfolding moves choose
  bits_are s = go (dec_lt s 4)
    where
      go : Dec (s < 4) → bits_of s kept set ≡ moves s a b c e
      go (yes h) = rw (lt-ltb s 4 h) (same (λ x. bit_or (bit_and x kept) set) (λ x. moves x a b c e) 4 s all h)
      go (no h) = rw (le-ltb s 4 (omega arith), ne_eqb s a (λ x. omega arith), ne_eqb s c (λ x. omega arith))

  pub by_bits : (d : Device) → bits_moved d kept set ≡ moved d a b c e
  by_bits d = ap (remoting d) (bits_are d.remote)
