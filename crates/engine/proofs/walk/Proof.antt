-- `engine::walk` meets its contract: the tests stand in the order of their refusals, and then comes the walk.
use borrow.Author.Rules.{rules}
use Prim.Native.Nat.{ℕ}
use mathlib.Core.Path.{◌≡◌, refl, sym, ◌∙◌}
use mathlib.Core.Bool.{true}
use mathlib.Core.List.{List}
use borrow.Author.Tests.{not-true, not-false}
use Rattle.area.specs.Sizes.{most_devices}
use Rattle.walk.specs.Walk.{fits_with, sound_records, Walked}
use Rattle.walk.specs.Inner.{IsWalked}
use Rattle.walk.specs.declared.WalkAnswer.{WalkAnswer}
use Rattle.engine.proofs.Refusals.{fitting, walk_shape, walk_unsound, walk_bad, walk_done}
use Rattle.engine.proofs.walk.Statement.{statement}
use Rattle.engine.proofs.walk.Tie as tie

-- the lengths fit, once that was tested,
fit : (c : tie.Else-not-fits) →
    fits_with most_devices c.args.records.now c.args.told.now ≡ true
fit c = sym c.fits.ensures ∙ not-false c.fits.result c.if-not-fits.false-raw

-- and header and records are sound
sound_too : (c : tie.Else-not-sound) →
    sound_records c.args.records.now ≡ true
sound_too c = sym c.sound.ensures ∙ not-false c.sound.result c.if-not-sound.false-raw

-- a walk that is known to be another
as_well : {v w : Walked} {r : WalkAnswer} {a t : List ℕ} → IsWalked v r a t → w ≡ v → IsWalked w r a t
as_well h e = rw e h

returns-then-not-fits : tie.Need-returns-then-not-fits
returns-then-not-fits c =
    as_well (record { answer = c.refused.ensures; records = refl; told = refl })
    (walk_shape _ _ c.args.frame (sym c.fits.ensures ∙ not-true c.fits.result c.if-not-fits.true-raw))

sound-requires : tie.Need-sound-requires
sound-requires c κs = (fitting _ _ (fit c)).long

returns-then-not-sound : tie.Need-returns-then-not-sound
returns-then-not-sound c =
    as_well (record { answer = c.refused-then-not-sound.ensures; records = refl; told = refl })
    (walk_unsound _ _ c.args.frame (fit c.before.before.before) (sym c.sound.ensures ∙ not-true c.sound.result c.if-not-sound.true-raw))

returns-then-frame-ge-FRAMES : tie.Need-returns-then-frame-ge-FRAMES
returns-then-frame-ge-FRAMES c =
    as_well (record { answer = c.refused-then-frame-ge-FRAMES.ensures; records = refl; told = refl })
    (walk_bad _ _ c.args.frame (fit c.before.before.before.before) (sound_too c.before.before) c.if-frame-ge-FRAMES.true)

past_all-out-requires : tie.Need-past_all-out-requires
past_all-out-requires c κs =
    (fitting _ _ (fit c.before.before.before.before.before), sound_too c.before.before.before)

returns : tie.Need-returns
returns c =
    as_well c.past_all-out.ensures (walk_done _ _ c.args.frame (fit c.before.before.before.before.before.before.before.before.before.before) (sound_too c.before.before.before.before.before.before.before.before) c.if-frame-ge-FRAMES.false)

pub walk_spec : {M : Type 1} → statement M
walk_spec =
    tie.close
    (tie.spec
    (λ c κs. search rules)
    (λ c κs. search rules)
    (λ c. search rules)
    (λ c. search rules)
    returns-then-not-fits
    sound-requires
    (λ c κs. search rules)
    (λ c. search rules)
    (λ c. search rules)
    returns-then-not-sound
    (λ c κs. search rules)
    (λ c. search rules)
    (λ c. search rules)
    returns-then-frame-ge-FRAMES
    (λ c. search rules)
    past_all-out-requires
    (λ c. search rules)
    (λ c. search rules)
    returns)
