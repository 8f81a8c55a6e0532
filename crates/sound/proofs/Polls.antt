-- What the clause on poll comes to without the ability and with it.
use native.Mathlib.Omega.{arith}
use mathlib.Core.Path.{◌≡◌, refl}
use mathlib.Core.Bool.{Bool, true, false, ◌&&◌, ◌||◌, and-true}
use lib.Dec.{eqb, leb}
use borrow.Author.Tests.{eqb-true, le-leb}
use Rattle.device.specs.Device.{parallel_poll, has_further}
use Rattle.device.specs.declared.Device.{Device}
use Rattle.record.specs.Sound.{is_assignment, poll_right}

module _ (d : Device) where
  pub unable_right : has_further d parallel_poll ≡ false → (eqb d.assigned 0 && eqb d.pollstatus 0) ≡ poll_right d
  unable_right e =
      rw e
      (go (eqb d.assigned 0) (eqb d.pollstatus 0) (leb 16 d.assigned && leb d.assigned 31)
      (leb d.pollstatus 1) (λ z. le-leb d.pollstatus 1 (omega (arith, eqb-true d.pollstatus 0 z))))
    where
      go : (x y m l : Bool) → (y ≡ true → l ≡ true) → (x && y) ≡ ((x || m) && (l && (x && y)))
      go true true m l h = rw (h refl)
      go true false m true h = refl
      go true false m false h = refl
      go false y true true h = refl
      go false y true false h = refl
      go false y false l h = refl

  pub able_right : has_further d parallel_poll ≡ true →
      (is_assignment d.assigned && leb d.pollstatus 1) ≡ poll_right d
  able_right e = rw e (simp and-true)
