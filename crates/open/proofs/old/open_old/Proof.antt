-- A device with a choice is refused; else what the save holds is read, and END is chosen in its place.
use mathlib.Core.Path.{◌≡◌, refl, sym, ◌∙◌}
use mathlib.Core.List.{List}
use mathlib.Core.Bool.{Bool}
use Prim.Native.Nat.{ℕ, ◌-◌}
use lib.ListN.{length, take, drop}
use borrow.Author.Tests.{not-true, not-false}
use Rattle.area.specs.Sizes.{record_at}
use Rattle.area.specs.Parts.{parts, all}
use Rattle.area.proofs.Parts.{rest_is}
use Rattle.saved.specs.Saved.{saved_header_size, saved_device_size, saved_count, saved_devices}
use Rattle.saved.specs.Older.{zero_choice_in}
use Rattle.saved.proofs.Older.{asked_in_place}
use borrow.Author.Rules.{rules}
use Rattle.open.proofs.old.open_old.Statement.{statement}
use Rattle.open.proofs.old.open_old.Tie as tie

-- the records that are tested are the save's devices
tested : (s : List ℕ) (t : Bool) (n from : ℕ) → n ≡ saved_count s → from ≡ saved_header_size →
    t ≡ all zero_choice_in (parts saved_device_size n (take (length s - from) (drop from s))) →
    all zero_choice_in (saved_devices s) ≡ t
tested s t n from c f e = sym (e ∙ rw (rest_is from s, f, c))

returns-then-not-choices_zero : tie.Need-returns-then-not-choices_zero
returns-then-not-choices_zero c =
    let e = tested c.args.save.now _ c.args.n _ c.requires.0.count refl c.choices_zero.ensures in
    rw (e ∙ not-true _ c.if-not-choices_zero.true-raw) (refl, refl)

returns : tie.Need-returns
returns c =
    let e = tested c.args.save.now _ c.args.n _ c.requires.0.count refl c.choices_zero.ensures in
    rw (e ∙ not-false _ c.if-not-choices_zero.false-raw, c.ask.ensures, c.read_bodies.ensures) (
      refl,
      asked_in_place c.args.save.now (rw c.requires.0.count at c.requires.0.long) c.args.n
          (record_at c.args.n) c.requires.0.count refl,
    )

pub open_old_spec : {M : Type 1} → statement M
open_old_spec =
    tie.close
    (tie.spec
    (λ c. search rules)
    (λ c. search rules)
    (λ c. search rules)
    (λ c κs. search rules)
    returns-then-not-choices_zero
    (λ c. search rules)
    (λ c. search rules)
    (λ c κs. search rules)
    (λ c. search rules)
    (λ c. search rules)
    (λ c. search rules)
    (λ c κs. search rules)
    (λ c. search rules)
    returns)
