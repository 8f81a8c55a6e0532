-- What is said of the devices of an area is said of the states of its line, and the other way.
use Prim.Native.Nat.{ℕ, zero, suc, ◌<◌}
use mathlib.Core.List.{List, []}
use native.Mathlib.Omega.{arith}
use lib.ListN.{get_or}
use Rattle.device.specs.declared.Device.{Device}
use Rattle.record.specs.Fits.{Good}
use Rattle.record.specs.Record.{device_of}
use Rattle.area.specs.Loop.{loop_of, device}
use Rattle.area.proofs.Laws.{loop_sound}
use Rattle.order.specs.Line as line
use Rattle.order.specs.Flat as flat
use Rattle.demands.specs.Histories.{papers, line_of}
use Rattle.demands.specs.Demands.{Judged}
use Rattle.demands.proofs.Flowing.{line_count, line_states}
use Rattle.addresses.specs.Addresses.{EachDevice}
use Rattle.addresses.proofs.Lines.{States}

each_state : (P : ℕ → Device → Type 0) (d : Device) (l : line.Loop papers) →
    ((i : ℕ) → i < line.devices l → P i (get_or (flat.states_of l) i d)) → States papers P l
each_state P d (line.tail q) h = tt
each_state P d (line.cell q s r) h =
    (h 0 (omega arith), each_state (λ i. P (suc i)) d r (λ i k. h (suc i) (omega arith)))

state_of : (P : ℕ → Device → Type 0) (d : Device) (l : line.Loop papers) → States papers P l →
    (i : ℕ) → i < line.devices l → P i (get_or (flat.states_of l) i d)
state_of P d (line.tail q) h i k = absurd (omega arith)
state_of P d (line.cell q s r) h zero k = h.0
state_of P d (line.cell q s r) h (suc i) k = state_of (λ i. P (suc i)) d r h.1 i (omega arith)

module _ (a : List ℕ) (j : Judged a) where
  pub device_good : (i : ℕ) → Good (device (loop_of a) i)
  device_good i = (loop_sound a j.bytes j.sound).devices i

  pub to_states : (P : ℕ → Device → Type 0) → EachDevice P a → States papers P (line_of a)
  to_states P u =
      each_state P (device_of []) (line_of a) (λ i k. rw (line_states a j) (u i (rw (line_count a j) k)))

  pub of_states : (P : ℕ → Device → Type 0) → States papers P (line_of a) → EachDevice P a
  of_states P u i k =
      rw (line_states a j) at (state_of P (device_of []) (line_of a) u i (rw (line_count a j) at k))
