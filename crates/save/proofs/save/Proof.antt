-- The lengths' refusal, the area's and then the output's; then the contents'; else the records.
use mathlib.Core.Path.{◌≡◌, refl, sym, ◌∙◌}
use mathlib.Core.Bool.{true}
use native.Mathlib.Omega.{arith}
use borrow.Author.Tests.{not-true, not-false}
use Rattle.area.specs.Loop.{shaped}
use Rattle.area.proofs.Areas.{is_shaped}
use Rattle.saved.proofs.Tests.{save_shape, save_long, save_unsound, save_done}
use borrow.Author.Rules.{rules}
use Rattle.save.proofs.save.Statement.{statement}
use Rattle.save.proofs.save.Tie as tie

returns-then-not-shape_right : tie.Need-returns-then-not-shape_right
returns-then-not-shape_right c =
    rw (save_shape c.args.area.now c.args.out.now
    (sym c.shape_right.ensures ∙ not-true _ c.if-not-shape_right.true-raw)) (refl, refl)

-- past the first test the area has its length
right : (c : tie.Else-not-shape_right) →
    shaped c.args.area.now ≡ true
right c = sym c.shape_right.ensures ∙ not-false _ c.if-not-shape_right.false-raw

area_read : tie.Need-bounds-area-0
area_read c = omega (arith, is_shaped _ (right c.before))

cast_n : tie.Need-overflow_cast-n
cast_n c = omega (arith, c.shared_slice_known-2-1.given 0)

saved_size-requires : tie.Need-saved_size-requires
saved_size-requires c κs = omega (arith, c.shared_slice_known-2-1.given 0)

returns-then-out-saved_size : tie.Need-returns-then-out-saved_size
returns-then-out-saved_size c =
    rw (save_long c.args.area.now c.args.out.now (right c.before.before.before)
    (λ e. omega (arith, e, c.if-out-saved_size.true, c.saved_size.ensures, is_shaped _ (right c.before.before.before)))) (refl, refl)

contents_sound-requires : tie.Need-contents_sound-requires
contents_sound-requires c κs = is_shaped _ (right c.before.before.before)

returns-then-not-contents_sound : tie.Need-returns-then-not-contents_sound
returns-then-not-contents_sound c =
    rw (save_unsound c.args.area.now c.args.out.now (right c.before.before.before.before.before)
    (omega (arith, c.if-out-saved_size.false, c.saved_size.ensures))
    (sym c.contents_sound.ensures ∙ not-true _ c.if-not-contents_sound.true-raw)) (refl, refl)

write_records-requires : tie.Need-write_records-requires
write_records-requires c κs =
    (is_shaped _ (right c.before.before.before.before.before.before), refl, omega (arith, c.if-out-saved_size.false, c.saved_size.ensures))

returns : tie.Need-returns
returns c =
    rw (save_done c.args.area.now c.args.out.now (right c.before.before.before.before.before.before.before.before.before)
    (omega (arith, c.if-out-saved_size.false, c.saved_size.ensures))
    (sym c.contents_sound.ensures ∙ not-false _ c.if-not-contents_sound.false-raw)) (refl, c.write_records.ensures)

pub save_spec : {M : Type 1} → statement M
save_spec =
    tie.close
    (tie.spec
    (λ c κs. search rules)
    returns-then-not-shape_right
    area_read
    cast_n
    saved_size-requires
    returns-then-out-saved_size
    contents_sound-requires
    returns-then-not-contents_sound
    write_records-requires
    (λ c. search rules)
    returns)
