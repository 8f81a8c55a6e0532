-- `engine::fits` meets its contract: no bytes have no count, and else the tests are the definition's.
use borrow.Author.Rules.{rules}
use native.Mathlib.Omega.{arith}
use Rattle.walk.specs.Walk.{fits_with}
use Rattle.engine.proofs.Refusals.{none_fit}
use Rattle.engine.proofs.fits.Statement.{statement}
use Rattle.engine.proofs.fits.Tie as tie

pub fits_spec : {M : Type 1} → statement M
unfolding fits_with
fits_spec =
    tie.close
    (tie.spec
    (λ c. none_fit c.args.records.now c.args.told.now c.if-records-eq0.true)
    (λ c. search rules)
    (λ c. omega (arith, c.shared_slice_known-1.given 0))
    (λ c. omega (arith, c.shared_slice_known-1.given 0))
    (λ c. omega (arith, c.shared_slice_known-1.given 0))
    (λ c. omega (arith, c.shared_slice_known-1.given 0))
    (λ c. search rules))
