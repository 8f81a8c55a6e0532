-- The laws of a walk, as statements. Their proofs are in proofs/Laws.antt.
use Rattle.std.specs.Prelude.{ℕ, ◌≡◌, List}
use Rattle.walk.specs.Walk.{Walked}
use Rattle.walk.specs.Inner.{IsWalked}
use Rattle.walk.specs.declared.WalkAnswer.{WalkAnswer}

-- Its contract leaves one answer, and one content of what was lent
abbrev pub WalkUnique : Type 0
WalkUnique = (w : Walked) (r s : WalkAnswer) (a b t u : List ℕ) → IsWalked w r a t → IsWalked w s b u →
    (r ≡ s) × (a ≡ b) × (t ≡ u)
