-- The first i bytes are 0, and those behind them are as they were.
use Prim.Native.Nat.{◌≤◌, ◌-◌, ℕ}
use mathlib.Core.Path.{◌≡◌, refl, ap, ◌∙◌}
use mathlib.Core.List.{List, ◌++◌, append-nil}
use native.Mathlib.Omega.{arith}
use lib.ListN.{set, length, drop, replicate, length-set, drop_of_length-le}
use borrow.Author.Fill.{fill_more}
use borrow.Author.Rules.{rules}
use Rattle.record_write.proofs.clear.Statement.{statement}
use Rattle.record_write.proofs.clear.Tie as tie

abbrev invariant-loop-i : tie.invariant-loop-i
invariant-loop-i s₀ i₀ s i = (i ≤ length s) × (length s ≡ length s₀) × (s ≡ replicate i 0 ++ drop i s₀)

abbrev decreases-loop-i : tie.decreases-loop-i
decreases-loop-i s₀ i₀ s i = length s - i

loop-holds : tie.Need-loop-i-init invariant-loop-i decreases-loop-i
loop-holds c = (omega arith, refl, refl)

loop-less : tie.Need-loop-i-smaller invariant-loop-i decreases-loop-i
loop-less c = simp length-set (omega arith)

loop-again : tie.Need-loop-i-preserved invariant-loop-i decreases-loop-i
loop-again c = let l = c.loop-i in (
  simp length-set (omega arith),
  simp length-set l.invariant.1,
  ap (λ (r : List ℕ). set r l.i 0) l.invariant.2 ∙ fill_more l.i 0 c.args.s.now (omega arith),
)

same_length : tie.Need-shape_of-s invariant-loop-i decreases-loop-i
same_length c = c.loop-i.invariant.1

returns : tie.Need-returns invariant-loop-i decreases-loop-i
returns c = let l = c.loop-i in let s = c.args.s.now in
    let e : l.i ≡ length s = omega arith in
    l.invariant.2 ∙ rw (drop_of_length-le s {i = l.i} (omega arith), append-nil, e)

pub clear_spec : {M : Type 1} → statement M
clear_spec =
    tie.close
    (tie.spec
    invariant-loop-i
    decreases-loop-i
    loop-holds
    (λ c. search rules)
    (λ c. search rules)
    loop-less
    loop-again
    same_length
    returns)
