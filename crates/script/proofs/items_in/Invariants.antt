-- The items of the groups before those that the iterator has left are written.
use Rattle.std.proofs.Common.{◌≡◌, ℕ}
use Rattle.std.specs.Slice.Iter.{chunks_exact_rest, chunks_exact_size}
use Rattle.script.specs.Script.{group_size}
use Rattle.script.proofs.Items.{Filling}
use Rattle.script.proofs.items_in.Given as goal

abbrev pub invariant-loop-group : goal.invariant-loop-group
invariant-loop-group l =
    (chunks_exact_size l.group-iterator ≡ group_size)
    × ((k : ℕ) × Filling l.n l.groups l.fn.items k (chunks_exact_rest l.group-iterator) l.at l.items)
