-- A loop owes what the line of its links and devices owes: so a hop pays one of the hops owed, and they are few.
use Prim.Native.Nat.{ℕ, ◌+◌, ◌*◌, ◌≤◌}
use mathlib.Core.Path.{◌≡◌, refl}
use mathlib.Core.Option.{Option, none, some}
use native.Mathlib.Omega.{arith}
use native.Mathlib.Nat.{mul-le-mul_right}
use Rattle.area.specs.Sizes.{depth, most_devices}
use Rattle.area.specs.Loop.{Loop, size, SoundLoop}
use Rattle.order.specs.Line.{Line}
use Rattle.order.specs.Flat.{Flat, hop_flat}
use Rattle.order.specs.Owed.{owed}
use Rattle.order.proofs.Owed as order
use Rattle.calls.specs.Outcome.{Outcome, loop_after}
use Rattle.calls.specs.Calls.{hop_in}
use Rattle.calls.specs.declared.HopAnswer.{HopAnswer}
use Rattle.calls.proofs.Outcomes.{IsDone}
use Rattle.calls.proofs.Lined.{ruled, Alike, both_refuse, both_do, hop_alike}

-- what is handed, and local calls, do not matter here
abbrev line : Line
line = ruled {Local = ⊥} {Byte = ⊥} (λ d f. none) (λ d c. none)

abbrev lined : Loop → Flat line
lined l = record { links = l.links; states = l.devices }

pub hop_pays : (i : ℕ) (l : Loop) → SoundLoop l → IsDone (hop_in i l) →
    owed (loop_after l (hop_in i l)).links + 1 ≡ owed l.links
hop_pays i l s = go (hop_in i l) (hop_flat (lined l) i) refl
    (hop_alike {Local = ⊥} {Byte = ⊥} (λ d f. none) (λ d c. none) (λ r h. Unit {0}) (λ d f. tt) i (lined l))
  where
    go : (o : Outcome HopAnswer) (p : Option (Flat line × Option ⊥)) → hop_flat (lined l) i ≡ p →
        Alike {Local = ⊥} {Byte = ⊥} (λ d f. none) (λ d c. none) HopAnswer (Option ⊥) (λ r h. Unit {0}) o p →
        IsDone o → owed (loop_after l o).links + 1 ≡ owed l.links
    go o none e (both_refuse k z) d = absurd d
    go o (some q) e (both_do r m y h same u) d = rw same (order.hop_pays line (lined l) y i h s.ends e)

-- with at most four frames in each link
pub loop_owes : (l : Loop) → SoundLoop l → owed l.links ≤ 2 * (size l * (size l + 1))
loop_owes l s = omega (arith, order.owed_at_most ℕ depth (size l) l.links s.ends (λ j. (s.frames j).few))

-- and with at most as many devices as a loop can have
pub owed_few : (l : Loop) → SoundLoop l → owed l.links ≤ 2 * (most_devices * (most_devices + 1))
owed_few l s = omega (arith, loop_owes l s, mul-le-mul_right (size l + 1) s.few, s.few)
