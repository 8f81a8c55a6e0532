-- A number of devices that no loop has is refused as an area; with the room there, the area has its first byte and its
-- loop's bytes.
use Rattle.std.proofs.Common.{sym, length}
use Rattle.refusal.proofs.Numbers.{ok_told}
use Rattle.lister.proofs.Doing.{not_roomy, not_count, ready_is}
use Rattle.lister.proofs.list.is_ready.Goals as goal

pub returns-then-not-is_roomy : goal.returns-then-not-is_roomy
returns-then-not-is_roomy c =
    sym (not_roomy c.args.number c.args.area.now (length c.args.out.now) (sym c.if-not-is_roomy.ensures))

pub returns-then-not-is_count : goal.returns-then-not-is_count
returns-then-not-is_count c =
    sym (not_count c.args.number c.args.area.now (length c.args.out.now) (sym c.if-not-is_count.ensures))

pub returns : goal.returns
returns c =
    rw (c.is_ok.ensures.value, ok_told c.judge.result, c.judge.ensures, c.area_size-size.ensures)
    (sym (ready_is c.args.number c.args.area.now (length c.args.out.now) (sym c.if-not-is_roomy.ensures)))
