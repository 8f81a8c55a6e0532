-- A copy of a part into a list is a splice.
use Prim.Native.Nat.{ℕ, ◌+◌, ◌-◌, ◌≤◌}
use mathlib.Core.Path.{◌≡◌}
use mathlib.Core.List.{List, ◌++◌, append-nil}
use native.Mathlib.Nat.{add-sub_cancel_left}
use native.Mathlib.Omega.{arith}
use lib.ListN.{length, take, drop, length-take, drop_of_length-le}
use lib.Seq.{take-length, drop-drop}
use Rattle.record.specs.Parts.{splice}

-- the whole of a part, copied into as many bytes that were lent
pub filled : (to part : List ℕ) (at : ℕ) → at + length part ≤ length to →
    take at to ++ ((take (length part) part ++ drop (length part) (take (at + length part - at) (drop at to))) ++ drop
    (at + length part - at) (drop at to))
    ≡ splice at part to
unfolding splice
filled to part at h =
    rw (
      add-sub_cancel_left at (length part),
      take-length part,
      drop_of_length-le (take (length part) (drop at to)) {i = length part} (simp length-take (omega arith)),
      append-nil part,
      drop-drop (length part) at to,
    )
