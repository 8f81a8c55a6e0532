-- The items are those of line 1, and the first bytes of the lent area are as many as the set-up takes.
use mathlib.Core.Path.{sym}
use native.Mathlib.Omega.{arith}
use Prim.Native.Nat.{◌≤◌}
use lib.ListN.{length, length-drop}
use lib.Seq.{length-take-le}
use borrow.Author.Rules.{rules}
use Rattle.area.proofs.Parts.{rest_is}
use Rattle.script.specs.Script.{word_size}
use Rattle.text.proofs.Splices.{front}
use Rattle.lister.proofs.Begin.{Line1, line1}
use Rattle.lister.proofs.Doing.{Devices, devices, set_up_told}
use Rattle.lister.proofs.list.set_up.Statement.{statement}
use Rattle.lister.proofs.list.set_up.Tie as tie

-- what line 1 says
told : (s : tie.Start) → Devices s.args.line.now s.args.n
told s = devices s.args.line.now s.args.n s.requires.0

formed : (s : tie.Start) → Line1 s.args.line.now
formed s = line1 s.args.line.now (told s).good

sub_items_in : tie.Need-slice_bounds-items_in-count
sub_items_in c = omega (arith, (formed c.before.before).long)

part_start : tie.Need-slice_bounds-items_in-start
part_start c = omega (arith, (formed c.before.before).long)

items_in-requires : tie.Need-items_in-requires
items_in-requires c κs =
    let d = told c.before.before.before.before in
    let l = formed c.before.before.before.before in
    rw (rest_is word_size c.args.line.now, ← d.count)
    (rw length-drop (omega (arith, l.long)), omega (arith, d.count, d.few), l.groups)

area_size-size-requires : tie.Need-area_size-size-requires
area_size-size-requires c κs = omega (arith, (told c.before.before.before.before.before.before).few)

-- the part of the area that is lent on
part : (c : tie.After-area_size-size) → c.area_size-size.result ≤ length
    c.args.area.now
part c =
    omega (arith, c.area_size-size.ensures, (told c.before.before.before.before.before.before.before).few, c.requires.1)

aggregate : tie.Need-slice_bounds-set_up-end-2
aggregate c = sym (length-take-le _ _ (part c.before))

-- the items that are lent on
some_items : tie.Need-slice_bounds-items-end
some_items c =
    omega (arith, (told c.before.before.before.before.before.before.before.before).few, c.items_in.auto.items)

aggregate_2 : tie.Need-slice_bounds-set_up-end-3
aggregate_2 c = sym (length-take-le _ _ (some_items c.before))

returns : tie.Need-returns
returns c =
    set_up_told c.args.line.now c.items_in.new.items (told c.before.before.before.before.before.before.before.before.before.before.before.before) c.area_size-size.ensures
    (front (omega arith) c.items_in.ensures) c.set_up.ensures

pub set_up_spec : {M : Type 1} → statement M
set_up_spec =
    tie.close
    (tie.spec
    sub_items_in
    part_start
    (λ c. search rules)
    (λ c. search rules)
    items_in-requires
    area_size-size-requires
    part
    aggregate
    (λ c. search rules)
    some_items
    aggregate_2
    (λ c κs. search rules)
    (λ c. search rules)
    returns)
