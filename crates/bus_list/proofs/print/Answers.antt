-- What was written stands within the buffer.
use Rattle.std.proofs.Common.{arith, ◌≡◌, ℕ, ◌≤◌, List, length, sym, length-take-le}
use Rattle.text.specs.Write.{Wrote}
use Rattle.bus_script.specs.Listing.{text_room, bus_listing}
use Rattle.bus_script.proofs.Laws.{has_room}
use Rattle.bus_list.proofs.print.Goals as goal

within : (row : List ℕ) {b c : List ℕ} {r : ℕ} → Wrote (bus_listing row) 0 b r c → text_room ≤ length b → length c ≡ length b → r ≤ length c
within row w h k = omega (arith, has_room row, w.behind)

pub slice_bounds-write_all-end : goal.slice_bounds-write_all-end
slice_bounds-write_all-end g c = within c.args.row.now c.list-written.ensures c.requires c.list-written.auto.out

pub slice_bounds-write_all-end-2 : goal.slice_bounds-write_all-end-2
slice_bounds-write_all-end-2 g c = sym (length-take-le _ _ (within c.args.row.now c.list-written.ensures c.requires c.list-written.auto.out))
