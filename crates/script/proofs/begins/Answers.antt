-- Byte by byte both compare the word with the line.
use mathlib.Core.List.{List, [], ◌∷◌}
use mathlib.Core.Path.{◌≡◌, refl, ◌∙◌}
use Prim.Native.Nat.{ℕ}
use native.Mathlib.Omega.{arith}
use lib.Dec.{eqb}
use lib.ListN.{length, take}
use Rattle.std.specs.Cmp.Lexicographic.{pointwise}
use Rattle.std.proofs.lemmas.Bool.Decides.{nat_tests}
use Rattle.text.specs.Words.{begins}
use Rattle.script.proofs.begins.Goals as goal

eqb_sym : (x y : ℕ) → eqb x y ≡ eqb y x
eqb_sym x y = grind (arith, nat_tests)

same : (word line : List ℕ) → pointwise eqb word (take (length word) line) ≡ begins word line
unfolding begins
same [] line = refl
same (w ∷ ws) [] = refl
same (w ∷ ws) (x ∷ xs) = rw (eqb_sym w x, same ws xs)

pub returns : goal.returns
returns c = c.starts_with.ensures.value ∙ same c.args.word.now c.args.line.now
