-- `engine_reading::kind` meets its contract: data, end and identify lie between their bounds, and past 2,047 there is
-- no frame.
use borrow.Author.Rules.{rules}
use mathlib.Core.Path.{sym}
use native.Mathlib.Omega.{arith}
use Rattle.frame.specs.Messages.{messages, first_in, codes_in, first_of, codes_of}
use Rattle.frame.proofs.Rows.{ranged, no_frame}
use Rattle.engine_reading.proofs.kind.Statement.{statement}
use Rattle.engine_reading.proofs.kind.Tie as tie

pub kind_spec : {M : Type 1} → statement M
unfolding messages first_in codes_in first_of codes_of
kind_spec =
    tie.close
    (tie.spec
    (λ c. ranged 1 _ (omega arith) (omega (arith, c.if-frame-lt512.true)))
    (λ c. ranged 2 _ (omega (arith, c.before.if-frame-lt512.false)) (omega (arith, c.if-frame-lt1024.true)))
    (λ c κs. search rules)
    (λ c. search rules)
    (λ c. ranged 42 _ (omega (arith, c.before.if-frame-lt1536.false)) (omega (arith, c.if-frame-lt2048.true)))
    (λ c. sym (no_frame _ c.if-frame-lt2048.false)))
