-- The form's refusal, then the lent area's length, then the contents'; else what an old save comes to, or what the save
-- holds.
use mathlib.Core.Path.{◌≡◌, refl, sym, ◌∙◌}
use mathlib.Core.Bool.{true}
use native.Mathlib.Omega.{arith}
use borrow.Author.Tests.{not-true, not-false}
use Rattle.area.specs.Sizes.{most_devices}
use Rattle.saved.specs.Saved.{saved_count, formed}
use Rattle.saved.specs.Inner.{SaveOf}
use Rattle.saved.proofs.Formed.{is_formed}
use Rattle.saved.proofs.Tests.{open_bad, open_shape, open_unsound, open_new, open_old}
use borrow.Author.Rules.{rules}
use Rattle.open.proofs.open.Statement.{statement}
use Rattle.open.proofs.open.Tie as tie

returns-then-not-form_right : tie.Need-returns-then-not-form_right
returns-then-not-form_right c =
    rw (open_bad most_devices c.args.area.now c.args.save.now
    (sym c.form_right.ensures ∙ not-true _ c.if-not-form_right.true-raw)) (refl, refl)

-- past the first test the save has the form
right : (c : tie.Else-not-form_right) →
    formed most_devices c.args.save.now ≡ true
right c = sym c.form_right.ensures ∙ not-false _ c.if-not-form_right.false-raw

-- so it is a save of as many devices as its count says
of_count : (c : tie.After-shared_slice_known-2-1) →
    let s = c.args.save.now in SaveOf (saved_count s) s
of_count c =
    let f = is_formed most_devices _ (right c.before) in
    record { count = refl; small = omega (arith, f.few); long = f.long }

save_read : tie.Need-bounds-save-6
save_read c = omega (arith, is_formed most_devices _ (right c.before))

cast_n : tie.Need-overflow_cast-n
cast_n c = omega (arith, c.shared_slice_known-2-1.given 6)

area_size-requires : tie.Need-area_size-requires
area_size-requires c κs = omega (arith, c.shared_slice_known-2-1.given 6)

returns-then-area-area_size : tie.Need-returns-then-area-area_size
returns-then-area-area_size c =
    rw (open_shape most_devices c.args.area.now c.args.save.now (right c.before.before.before)
    (λ e. omega (arith, e, c.if-area-area_size.true, c.area_size.ensures, is_formed most_devices _ (right c.before.before.before))))
    (refl, refl)

bodies_sound-requires : tie.Need-bodies_sound-requires
bodies_sound-requires c κs = of_count c.before.before

returns-then-not-bodies_sound : tie.Need-returns-then-not-bodies_sound
returns-then-not-bodies_sound c =
    rw (open_unsound most_devices c.args.area.now c.args.save.now (right c.before.before.before.before.before)
    (omega (arith, c.if-area-area_size.false, c.area_size.ensures))
    (sym c.bodies_sound.ensures ∙ not-true _ c.if-not-bodies_sound.true-raw)) (refl, refl)

edition_read : tie.Need-bounds-save-7
edition_read c = omega (arith, is_formed most_devices _ (right c.before.before.before.before.before.before))

open_old-requires : tie.Need-open_old-requires
open_old-requires c κs =
    (of_count c.before.before.before.before.before.before.before, omega (arith, c.if-area-area_size.false, c.area_size.ensures))

returns-then-save-eq-EDITION_OLD : tie.Need-returns-then-save-eq-EDITION_OLD
returns-then-save-eq-EDITION_OLD c =
    rw (open_old most_devices c.args.area.now c.args.save.now (right c.before.before.before.before.before.before.before.before.before.before.before)
    (omega (arith, c.if-area-area_size.false, c.area_size.ensures)) (sym c.bodies_sound.ensures ∙ not-false _ c.if-not-bodies_sound.false-raw)
    (omega (arith, c.if-save-eq-EDITION_OLD.true)))
    c.open_old.ensures

read_bodies-requires : tie.Need-read_bodies-requires
read_bodies-requires c κs =
    (of_count c.before.before.before.before.before.before.before, omega (arith, c.if-area-area_size.false, c.area_size.ensures))

returns : tie.Need-returns
returns c =
    rw (open_new most_devices c.args.area.now c.args.save.now (right c.before.before.before.before.before.before.before.before.before.before.before)
    (omega (arith, c.if-area-area_size.false, c.area_size.ensures)) (sym c.bodies_sound.ensures ∙ not-false _ c.if-not-bodies_sound.false-raw)
    (λ q. omega (arith, q, c.if-save-eq-EDITION_OLD.false)))
    (refl, c.read_bodies.ensures)

pub open_spec : {M : Type 1} → statement M
open_spec =
    tie.close
    (tie.spec
    (λ c κs. search rules)
    returns-then-not-form_right
    save_read
    cast_n
    area_size-requires
    returns-then-area-area_size
    bodies_sound-requires
    returns-then-not-bodies_sound
    edition_read
    open_old-requires
    (λ c. search rules)
    returns-then-save-eq-EDITION_OLD
    read_bodies-requires
    (λ c. search rules)
    returns)
