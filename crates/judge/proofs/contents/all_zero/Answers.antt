-- All are zero where each passes the test.
use Prim.Native.Nat.{ℕ}
use lib.Dec.{eqb}
use borrow.Author.Rules.{rules}
use Rattle.record.specs.Record.{zeros}
use Rattle.std.proofs.lemmas.Iterator.{YieldsList-from_slice}
use Rattle.std.proofs.lemmas.Iterator.Search.{all_from_yields_List}
use Rattle.judge.proofs.contents.all_zero.Goals as goal

pub returns : goal.returns
unfolding zeros
returns c = all_from_yields_List (λ (x : ℕ). eqb x 0) _ _ _ c.all.ensures.ran
    (YieldsList-from_slice c.args.bytes.now c.iter.ensures.rest) (λ x b q k. search rules)
