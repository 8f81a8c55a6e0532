-- `record::word_at` meets its contract: both bytes are below 256, so neither the product nor the sum wraps.
use Prim.Native.Nat.{◌+◌}
use native.Mathlib.Omega.{arith}
use native.Mathlib.Numerals.{add-one}
use borrow.Author.Rules.{rules}
use mir.Syntax.{w8}
use mir.Val.{Fits}
use lib.ListN.{get_or}
use Rattle.record.proofs.word_at.Statement.{statement}
use Rattle.record.proofs.word_at.Tie as tie

low : (c : tie.After-shared_slice_known-1) → Fits w8 (get_or c.before.args.s.now c.before.args.at 0)
low c = c.shared_slice_known-1.given c.before.args.at

high : (c : tie.After-shared_slice_known-2-1) →
    Fits w8 (get_or c.before.before.args.s.now (c.before.before.args.at + 1) 0)
high c = c.shared_slice_known-2-1.given (c.before.before.args.at + 1)

pub word_at_spec : {M : Type 1} → statement M
word_at_spec =
    tie.close
    (tie.spec
    (λ c. search rules)
    (λ c. omega (arith, low c))
    (λ c. search rules)
    (λ c. search rules)
    (λ c. omega (arith, high c))
    (λ c. omega (arith, high c))
    (λ c. omega (arith, low c.before, high c))
    (λ c. simp add-one))
