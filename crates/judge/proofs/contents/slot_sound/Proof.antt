-- A number that is 0 is below 2,048 too, so both may be tested in every slot.
use Prim.Native.Nat.{ℕ}
use mathlib.Core.Path.{◌≡◌, refl}
use mathlib.Core.Bool.{Bool, true, false, cond, ◌&&◌, ◌||◌, and-true}
use lib.Dec.{eqb, ltb}
use borrow.Author.Tests.{eqb-true}
use Rattle.frame.specs.Messages.{frames}
use Rattle.area.specs.Link.{sound_slot}
use borrow.Author.Rules.{rules}
use Rattle.judge.proofs.contents.slot_sound.Statement.{statement}
use Rattle.judge.proofs.contents.slot_sound.Tie as tie

both : (f : ℕ) (used : Bool) → (ltb f frames && (used || eqb f 0)) ≡ cond used (ltb f frames) (eqb f 0)
both f true = and-true (ltb f frames)
both f false = go (eqb f 0) refl
  where
    go : (z : Bool) → eqb f 0 ≡ z → (ltb f frames && z) ≡ z
    go true e = rw (eqb-true f 0 e)
    go false e = and-false (ltb f frames)
      where
        and-false : (b : Bool) → (b && false) ≡ false
        and-false true = refl
        and-false false = refl

pub slot_sound_spec : {M : Type 1} → statement M
unfolding sound_slot
slot_sound_spec =
    tie.close (tie.spec (λ c. search rules) (λ c. both c.args.f (ltb c.args.k c.args.n)))
