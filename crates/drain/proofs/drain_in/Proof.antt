-- Each turn is one of the definition's: the search finds the highest device that can hop, and its hop pays one of the
-- hops owed.
use Prim.Native.Nat.{◌≤◌, ◌-◌, ◌<◌}
use mathlib.Core.Path.{◌≡◌, refl, sym, ◌∙◌}
use mathlib.Core.Bool.{true}
use native.Mathlib.Omega.{arith}
use Rattle.std.specs.Prelude.{Some}
use Rattle.area.specs.Loop.{loop_of}
use Rattle.area.proofs.Areas.{loop_good}
use Rattle.calls.specs.Drain.{can_hop, highest}
use Rattle.calls.proofs.Owing.{owed_few}
use Rattle.calls.proofs.Turns.{Turn, first_turn, none_left, none_more, handed_over, event_seen, next_turn, next_top}
use Rattle.calls.proofs.Turns.{highest_found, highest_next, highest_none}
use borrow.Author.Rules.{rules}
use Rattle.drain.proofs.drain_in.Statement.{statement}
use Rattle.drain.proofs.drain_in.Tie as tie

abbrev invariant-search : tie.invariant-search
invariant-search area budget n top hops device byte end i₀ i = (i ≤ n) × (highest n (loop_of area) ≡ highest i (loop_of area))

abbrev decreases-search : tie.decreases-search
decreases-search area budget n top hops device byte end i₀ i = i

abbrev invariant-turns : tie.invariant-turns
invariant-turns area₀ budget n top₀ hops₀ device₀ byte₀ end₀ area top hops device byte end =
    Turn area₀ area budget n hops × ((top ≤ n) × (highest n (loop_of area) ≡ highest top (loop_of area))) ×
    (device ≡ 0) × (byte ≡ 0) × (end ≡ 0)

abbrev decreases-turns : tie.decreases-turns
decreases-turns area₀ budget n top₀ hops₀ device₀ byte₀ end₀ area top hops device byte end = budget - hops

-- the device found is the highest that can hop
found : (c : tie.Then-can_hop invariant-search decreases-search invariant-turns decreases-turns) →
    let i = c.search.i - 1 in
    (highest c.devices_in-n.result (loop_of c.turns.area) ≡ Some i) ×
    (i < c.devices_in-n.result) × (can_hop i (loop_of c.turns.area) ≡ true)
found c =
    let can = sym c.can_hop.ensures ∙ c.if-can_hop.true in (
      c.search.invariant.1 ∙ highest_found c.search.i (loop_of c.turns.area)
          (omega (arith, c.if-i-eq0.false)) can,
      omega (arith, c.search.invariant.0, c.if-i-eq0.false),
      can,
    )

devices_in-n-requires : tie.Need-devices_in-n-requires invariant-search decreases-search invariant-turns decreases-turns
devices_in-n-requires c κs = c.requires

turns_holds : tie.Need-turns-init invariant-search decreases-search invariant-turns decreases-turns
turns_holds c = (
  first_turn c.args.area.now c.args.budget _ (λ i. (c.slice_known-1.given i).fits) c.requires
      c.devices_in-n.ensures.0,
  (omega arith, refl),
  refl,
  refl,
  refl,
)

search_holds : tie.Need-search-init invariant-search decreases-search invariant-turns decreases-turns
search_holds c = c.turns.invariant.1

can_hop-requires : tie.Need-can_hop-requires invariant-search decreases-search invariant-turns decreases-turns
can_hop-requires c κs =
    let t = c.turns.invariant.0 in
    record { judged = t.holds.judged; there = omega (arith, t.count, c.search.invariant.0, c.if-i-eq0.false) }

search_again : tie.Need-search-preserved invariant-search decreases-search invariant-turns decreases-turns
search_again c = (
  omega arith,
  c.search.invariant.1 ∙ highest_next c.search.i (loop_of c.turns.area) (omega arith)
      (sym c.can_hop.ensures ∙ c.if-can_hop.false),
)

hop_at-answer-requires : tie.Need-hop_at-answer-requires invariant-search decreases-search invariant-turns decreases-turns
hop_at-answer-requires c κs =
    let t = c.turns.invariant.0 in
    record { judged = t.holds.judged; there = omega (arith, t.count, (found c.before.before).1) }

add_hops : tie.Need-overflow_add-hops invariant-search decreases-search invariant-turns decreases-turns
add_hops c =
    let a = c.args.area.now in
    omega (
      arith,
      c.turns.invariant.0.paid,
      owed_few (loop_of a)
          (loop_good a (λ i. (c.slice_known-1.given i).fits) c.requires),
    )

cast_device : tie.Need-overflow_cast-device invariant-search decreases-search invariant-turns decreases-turns
cast_device c =
    omega (arith, (found c.before.before.before.before.before.before.before).1, c.devices_in-n.ensures)

cast_device_2 : tie.Need-overflow_cast-device-then-answer-ne-NO_EVENT invariant-search decreases-search invariant-turns decreases-turns
cast_device_2 c =
    omega (arith, (found c.before.before.before.before.before.before.before.before.before).1, c.devices_in-n.ensures)

past-top-requires : tie.Need-past-top-requires invariant-search decreases-search invariant-turns decreases-turns
past-top-requires c κs =
    omega (arith, (found c.before.before.before.before.before.before.before.before.before).1, c.devices_in-n.ensures)

turns_less : tie.Need-turns-smaller invariant-search decreases-search invariant-turns decreases-turns
turns_less c =
    omega (arith, c.turns.invariant.0.within, c.if-hops-budget.false)

turns_again : tie.Need-turns-preserved invariant-search decreases-search invariant-turns decreases-turns
turns_again c =
    let t = c.turns in
    let p = c.hop_at-answer in
    let f = found c.before.before.before.before.before.before.before.before.before.before in (
      next_turn _ t.area _ _ t.hops t.invariant.0 (c.search.i - 1) f.0 f.1 f.2 c.if-hops-budget.false
          p.result _ p.ensures c.if-answer-eq1.false c.if-answer-ne-NO_EVENT.false p.auto.area,
      (
        omega (arith, c.past-top.ensures),
        next_top _ t.area _ _ t.hops t.invariant.0 (c.search.i - 1) f.0 f.1 f.2 c.if-hops-budget.false
            p.result _ p.ensures _ c.past-top.ensures,
      ),
      t.invariant.2,
      t.invariant.3,
      t.invariant.4,
    )

same_length : tie.Need-shape_of-area-then-i-eq0 invariant-search decreases-search invariant-turns decreases-turns
same_length c = c.turns.invariant.0.long

returns-then-i-eq0 : tie.Need-returns-then-i-eq0 invariant-search decreases-search invariant-turns decreases-turns
returns-then-i-eq0 c = let t = c.turns in
    none_left _ t.area _ _ t.hops t.invariant.0 t.device t.byte t.end (t.invariant.2, t.invariant.3, t.invariant.4)
    (c.search.invariant.1 ∙ rw c.if-i-eq0.true (highest_none (loop_of t.area)))

shape_of-area-then-hops-budget : tie.Need-shape_of-area-then-hops-budget invariant-search decreases-search invariant-turns decreases-turns
shape_of-area-then-hops-budget c =
    c.turns.invariant.0.long

returns-then-hops-budget : tie.Need-returns-then-hops-budget invariant-search decreases-search invariant-turns decreases-turns
returns-then-hops-budget c =
    let t = c.turns in
    none_more _ t.area _ _ t.hops t.invariant.0 t.device t.byte t.end (t.invariant.2, t.invariant.3, t.invariant.4)
    _ (found c.before).0 c.if-hops-budget.true

shape_of-area-then-answer-eq1 : tie.Need-shape_of-area-then-answer-eq1 invariant-search decreases-search invariant-turns decreases-turns
shape_of-area-then-answer-eq1 c =
    c.hop_at-answer.auto.area ∙ c.turns.invariant.0.long

returns-then-answer-eq1 : tie.Need-returns-then-answer-eq1 invariant-search decreases-search invariant-turns decreases-turns
returns-then-answer-eq1 c =
    let t = c.turns in
    let p = c.hop_at-answer in
    let f = found c.before.before.before.before.before.before.before in
    handed_over _ t.area _ _ t.hops t.invariant.0 (c.search.i - 1) f.0 f.1 f.2 c.if-hops-budget.false
    p.result _ p.ensures c.if-answer-eq1.true

shape_of-area-then-answer-ne-NO_EVENT : tie.Need-shape_of-area-then-answer-ne-NO_EVENT invariant-search decreases-search invariant-turns decreases-turns
shape_of-area-then-answer-ne-NO_EVENT c =
    c.hop_at-answer.auto.area ∙ c.turns.invariant.0.long

returns-then-answer-ne-NO_EVENT : tie.Need-returns-then-answer-ne-NO_EVENT invariant-search decreases-search invariant-turns decreases-turns
returns-then-answer-ne-NO_EVENT c =
    let t = c.turns in
    let p = c.hop_at-answer in
    let f = found c.before.before.before.before.before.before.before.before.before in
    event_seen _ t.area _ _ t.hops t.invariant.0 (c.search.i - 1) f.0 f.1 f.2 c.if-hops-budget.false
    p.result _ p.ensures t.end t.invariant.4 c.if-answer-eq1.false c.if-answer-ne-NO_EVENT.true

pub drain_in_spec : {M : Type 1} → statement M
drain_in_spec =
    tie.close
    (tie.spec
    invariant-search
    decreases-search
    invariant-turns
    decreases-turns
    devices_in-n-requires
    turns_holds
    search_holds
    (λ c. search rules)
    can_hop-requires
    (λ c. search rules)
    search_again
    (λ c. search rules)
    hop_at-answer-requires
    add_hops
    cast_device
    cast_device_2
    past-top-requires
    turns_less
    turns_again
    same_length
    returns-then-i-eq0
    shape_of-area-then-hops-budget
    returns-then-hops-budget
    shape_of-area-then-answer-eq1
    returns-then-answer-eq1
    shape_of-area-then-answer-ne-NO_EVENT
    returns-then-answer-ne-NO_EVENT)
