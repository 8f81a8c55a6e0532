-- The tests of the bytes, one after the other, are those of the definition; from past the end on there are none.
use Rattle.std.proofs.Common.{rules, tests, ◌≡◌, ◌∙◌, sym, ℕ, ◌-◌, min, eqb, Bool, true, ◌&&◌}
use Rattle.std.proofs.Common.{List, [], ◌∷◌, length, take, drop}
use Rattle.std.specs.List.{fold}
use Rattle.std.proofs.lemmas.Iterator.{YieldsList-from_slice}
use Rattle.std.proofs.lemmas.Iterator.Consumers.{fold_from_yields_List}
use Rattle.std.proofs.lemmas.List.{drop_min, length-drop}
use Rattle.std.proofs.Math.Seq.{take-length}
use mathlib.Core.Bool.{and-true, and_assoc}
use Rattle.record.specs.Record.{zeros}
use Rattle.zero_bytes.proofs.zeros_from.Goals as goal

folded : (t : Bool) (s : List ℕ) → fold (λ zero b. zero && eqb b 0) t s ≡ (t && zeros s)
unfolding zeros
folded t [] = sym (and-true t)
folded t (x ∷ s) = folded (t && eqb x 0) s ∙ and_assoc t (eqb x 0) (zeros s)

left : (i n : ℕ) (s : List ℕ) → i ≡ min n (length s) → take (length s - i) (drop i s) ≡ drop n s
left i n s e = rw (← length-drop i s, take-length, e) (drop_min n s)

pub returns : goal.returns
returns c =
    let s = c.args.s.now in
    let i = c.min.result in
    let e = fold_from_yields_List _ (λ zero b. zero && eqb b 0) true c.fold.result c.fold.ensures.ran
    (YieldsList-from_slice (take (length s - i) (drop i s)) (cc)) (λ a x b q k. search (rules, tests)) in
    rw (left i c.args.from s c.min.ensures) at e ∙ folded true (drop c.args.from s)
