-- `engine::write` meets its contract: four stores are all of the four bytes.
use borrow.Author.Rules.{rules}
use Prim.Native.Nat.{ℕ}
use mathlib.Core.Path.{◌≡◌, refl}
use mathlib.Core.List.{List, [], ◌∷◌}
use native.Mathlib.Omega.{arith}
use lib.ListN.{length, set}
use Rattle.engine.proofs.write.Statement.{statement}
use Rattle.engine.proofs.write.Tie as tie

four : (t : List ℕ) (a b c d : ℕ) → length t ≡ 4 → set (set (set (set t 0 a) 1 b) 2 c) 3 d ≡ a ∷ b ∷ c ∷ d ∷ []
four [] a b c d h = let z : ⊥ = omega arith in absurd z
four (p ∷ []) a b c d h = let z : ⊥ = omega arith in absurd z
four (p ∷ q ∷ []) a b c d h = let z : ⊥ = omega arith in absurd z
four (p ∷ q ∷ r ∷ []) a b c d h = let z : ⊥ = omega arith in absurd z
four (p ∷ q ∷ r ∷ s ∷ []) a b c d h = refl
four (p ∷ q ∷ r ∷ s ∷ u ∷ t) a b c d h = let z : ⊥ = omega arith in absurd z

pub write_spec : {M : Type 1} → statement M
write_spec =
    tie.close
    (tie.spec
    (λ c. search rules)
    (λ c. search rules)
    (λ c. search rules)
    (λ c. search rules)
    (λ c. search rules)
    (λ c. four c.args.told.now _ _ _ _ c.requires))
