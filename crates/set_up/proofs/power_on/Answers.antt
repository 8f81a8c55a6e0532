-- Item by item: each turn makes a blank device that of its item, and at the end there are no blank ones left.
use Prim.Native.Nat.{ℕ, ◌+◌, ◌*◌, ◌≤◌, ◌<◌}
use mathlib.Core.Path.{◌≡◌, refl, ap, ◌∙◌}
use mathlib.Core.Bool.{true}
use mathlib.Core.List.{List}
use native.Mathlib.Omega.{arith}
use native.Mathlib.Numerals.{add-one}
use native.Mathlib.Nat.{add-sub_cancel_left}
use lib.ListN.{length, drop, length-drop}
use lib.Seq.{length-take-le}
use Rattle.device.specs.declared.Device.{Device}
use Rattle.device.specs.PowerOn.{bytes_from, power_on}
use Rattle.area.specs.Sizes.{long_item_size}
use Rattle.area.specs.Parts.{part}
use Rattle.area.proofs.Parts.{lent, lent_is}
use Rattle.calls.specs.SetUp.{is_items, item_width}
use Rattle.calls.proofs.Powered.{width_few, width_times, width_all, item_within, padded_powered, first_item}
use Rattle.calls.proofs.Powered.{next_item, size_at, last_item, item_good}
use Rattle.set_up.proofs.power_on.Goals as goal

-- item i, of w bytes, lies within the items
record Item (w i : ℕ) (items : List ℕ) : Type 0 where
  few : w ≤ 14
  times : w * i ≤ 14 * i
  within : w * i + w ≤ length items

item_at : (w i n : ℕ) (items : List ℕ) → w ≡ item_width (length items) n → is_items (length items) n ≡ true → i < n →
    Item w i items
item_at w i n items e h k =
    let l = length items in
    rw e
    (record {
      few = width_few l n;
      times = width_times l n i;
      within = omega (arith, item_within (item_width l n) i n k, width_all l n h);
    })

item : (c : goal.In-loop-i) → Item c.item_width-width.result c.loop-i.i c.args.items.now
item c = item_at _ c.loop-i.i c.args.n c.args.items.now c.item_width-width.ensures c.requires.fit.items c.loop-i-test.true

pub loop-i-init : goal.loop-i-init
loop-i-init c = rw (← (first_item c.args.n c.args.items.now)) c.blank.ensures

pub overflow_mul-at : goal.overflow_mul-at
overflow_mul-at c = record { fits = omega (arith, item c) }

pub overflow_add-at : goal.overflow_add-at
overflow_add-at c = record { fits = omega (arith, item c) }

pub slice_bounds-item_of-end : goal.slice_bounds-item_of-end
slice_bounds-item_of-end c = omega (arith, item c)

pub item_of-item-requires : goal.item_of-item-requires
item_of-item-requires c =
    let w = c.item_width-width.result in
    let at = w * c.loop-i.i in
    let h = item_at w c.loop-i.i c.args.n c.args.items.now c.item_width-width.ensures c.requires.fit.items
    c.loop-i-test.true in
    let long = length-take-le w (drop at c.args.items.now) (simp length-drop (omega (arith, h))) in
    rw (add-sub_cancel_left at w, long) h.few

-- the device that is made is that of the item
made : (w i bytes n : ℕ) (items item : List ℕ) (d : Device) → w ≡ item_width bytes n →
    item ≡ bytes_from 0 long_item_size (lent (w * i) w items) → d ≡ power_on item →
    d ≡ power_on (part (item_width bytes n * i) (item_width bytes n) items)
made w i bytes n items item d e f h =
    rw (← e)
    (h ∙ ap power_on (f ∙ ap (bytes_from 0 long_item_size) (lent_is (w * i) (w * i) w items refl)) ∙ padded_powered _)

pub set_device-requires : goal.set_device-requires
set_device-requires c =
    let l = c.loop-i in
    let n = c.args.n in
    let items = c.args.items.now in
    let d = made _ l.i (length items) n items _ _ c.item_width-width.ensures c.item_of-item.ensures c.power_on.ensures in (
      record { judged = l.invariant.judged; there = rw (l.invariant.held, size_at n items l.i l.auto.i-end) (omega arith) },
      rw d (item_good n items (λ k. (c.type_inv.items k).fits) c.requires.each l.i c.loop-i-test.true),
    )

pub loop-i-preserved : goal.loop-i-preserved
loop-i-preserved c =
    let l = c.loop-i in
    let n = c.args.n in
    let items = c.args.items.now in
    let d = made _ l.i (length items) n items _ _ c.item_width-width.ensures c.item_of-item.ensures c.power_on.ensures in
    rw (l.invariant.held, d, next_item n items l.i c.loop-i-test.true, ← (add-one l.i)) at c.set_device.ensures

pub returns : goal.returns
returns c = let l = c.loop-i in rw (last_item c.args.n c.args.items.now l.i (omega arith)) at l.invariant
