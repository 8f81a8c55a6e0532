-- `frame::kind_of` meets its contract: a code that stands alone is looked up, and the bounds of the other arms place
-- the frame among the codes of a kind or outside all.
use mathlib.Core.Path.{refl}
use native.Mathlib.Omega.{arith}
use Rattle.frame.specs.Messages.{messages, within, lookup, first_in, codes_in, first_of, codes_of}
use borrow.Author.Rules.{rules}
use Rattle.frame.proofs.Rows.{ranged}
use Rattle.frame.proofs.Arms.{alone, after, unlisted}
use Rattle.frame.proofs.kind_of.Statement.{statement}
use Rattle.frame.proofs.kind_of.Tie as tie

pub kind_of_spec : {M : Type 1} → statement M
unfolding messages within lookup first_in codes_in first_of codes_of
kind_of_spec =
    tie.close
    (tie.spec
    (λ c. alone _ c.in-1024.is refl)
    (λ c. alone _ c.in-1025.is refl)
    (λ c. alone _ c.in-1028.is refl)
    (λ c. alone _ c.in-1029.is refl)
    (λ c. alone _ c.in-1032.is refl)
    (λ c. alone _ c.in-1041.is refl)
    (λ c. alone _ c.in-1044.is refl)
    (λ c. alone _ c.in-1045.is refl)
    (λ c. alone _ c.in-1048.is refl)
    (λ c. alone _ c.in-1087.is refl)
    (λ c. alone _ c.in-1119.is refl)
    (λ c. alone _ c.in-1168.is refl)
    (λ c. alone _ c.in-1170.is refl)
    (λ c. alone _ c.in-1171.is refl)
    (λ c. alone _ c.in-1178.is refl)
    (λ c. alone _ c.in-1179.is refl)
    (λ c. alone _ c.in-1280.is refl)
    (λ c. alone _ c.in-1344.is refl)
    (λ c. alone _ c.in-1345.is refl)
    (λ c. alone _ c.in-1346.is refl)
    (λ c. alone _ c.in-1376.is refl)
    (λ c. alone _ c.in-1377.is refl)
    (λ c. alone _ c.in-1378.is refl)
    (λ c. alone _ c.in-1379.is refl)
    (λ c. alone _ c.in-1380.is refl)
    (λ c. alone _ c.in-1439.is refl)
    (λ c. alone _ c.in-1471.is refl)
    (λ c. alone _ c.in-1503.is refl)
    (λ c. alone _ c.in-1535.is refl)
    (λ c. ranged _ _ (omega arith) (omega arith))
    (λ c. ranged _ _ (omega arith) (omega arith))
    (λ c. ranged _ _ (omega arith) (omega arith))
    (λ c. after 0x43f (search rules) (omega arith) (omega arith) (omega arith))
    (λ c. after 0x45f (search rules) (omega arith) (omega arith) (omega arith))
    (λ c. ranged _ _ (omega arith) (omega arith))
    (λ c. ranged _ _ (omega arith) (omega arith))
    (λ c. ranged _ _ (omega arith) (omega arith))
    (λ c. ranged _ _ (omega arith) (omega arith))
    (λ c. after 0x59f (search rules) (omega arith) (omega arith) (omega arith))
    (λ c. after 0x5bf (search rules) (omega arith) (omega arith) (omega arith))
    (λ c. after 0x5df (search rules) (omega arith) (omega arith) (omega arith))
    (λ c. after 0x5ff (search rules) (omega arith) (omega arith) (omega arith))
    (λ c. unlisted _ (search rules) (omega arith))
    (λ c. unlisted _ (search rules) (omega arith))
    (λ c. unlisted _ (search rules) (omega arith))
    (λ c. unlisted _ (search rules) (omega arith))
    (λ c. unlisted _ (search rules) (omega arith)))
